-- The names of refusals, and which texts are their lines.
use Rattle.std.proofs.Common.{◌≡◌, ℕ, true, false, List, inl, inr, [], ◌∷◌, ◌++◌, IsTrue, refl, sym, ap, ◌∙◌}
use Rattle.std.proofs.lemmas.Bool.{or_cases, and_parts, both_ways}
use Rattle.std.proofs.lemmas.List.{append_cancel_left, append_cancel_right}
use Rattle.std.proofs.lemmas.Slice.Eq.{bytes_eq-Decides}
use Rattle.std.specs.Prelude.{◌↔◌, codes, bytes_eq}
use Rattle.std.specs.List.{list_all}
use Rattle.nv_format.specs.declared.formatting.FormatRefusal.TheVariants as formats
use Rattle.nv_super.specs.declared.superblock.SuperFault.TheVariants as super_faults
use Rattle.nv_tree.specs.declared.refusal.Refusal.TheVariants as calls
use Rattle.nv_text.specs.Refusals.{refusal_name}
use Rattle.nv_text.specs.RefusalLines.{IsRefusalLine, is_printed, names_one}
use Rattle.nv_text.specs.declared.refusals.Refusal.{Refusal}
use Rattle.nv_text.specs.declared.refusals.Refusal.TheVariants as refusals
use Rattle.nv_text.specs.declared.refusal_lines.TheConstants.{PRINTED}

-- each refusal that is printed is one of these
known : (refusal : Refusal) → IsTrue (is_printed refusal) → names_one PRINTED (refusal_name refusal) ≡ true
unfolding names_one
known (refusals.Format formats.Stopped) printed = absurd (both_ways false refl printed)
known (refusals.Call calls.Stopped) printed = absurd (both_ways false refl printed)
known (refusals.Call calls.Memory) printed = absurd (both_ways false refl printed)
known (refusals.Super super_faults.Length) printed = refl
known refusal printed = refl

-- and each of these is printed
all_printed : list_all is_printed PRINTED ≡ true
all_printed = refl

-- a name of one of these is the name of a refusal that is printed
named : (these : List Refusal) → list_all is_printed these ≡ true → (name : List ℕ) → names_one these name ≡ true → (refusal : Refusal) × IsTrue (is_printed refusal) × (name ≡ refusal_name refusal)
unfolding names_one
named [] all name is = absurd (both_ways false refl is)
named (refusal ∷ others) all name is = elim (or_cases (bytes_eq (refusal_name refusal) name) (names_one others name) is) [
  | inl here ↦ (refusal, (and_parts (is_printed refusal) (list_all is_printed others) all).0, sym ((bytes_eq-Decides (refusal_name refusal) name).0 here))
  | inr there ↦ named others (and_parts (is_printed refusal) (list_all is_printed others) all).1 name there
]

-- the text around a name tells it
around_one : (a b : List ℕ) → codes "refused " ++ a ++ codes "\n" ≡ codes "refused " ++ b ++ codes "\n" → a ≡ b
around_one a b e =
    append_cancel_left (codes "refused ") a b (append_cancel_right (codes "refused " ++ a) (codes "refused " ++ b) (codes "\n") e)

-- the text between is the name of a refusal that is printed, or the text is no refusal's line
pub tells : (text name : List ℕ) → text ≡ codes "refused " ++ name ++ codes "\n" → (names_one PRINTED name ≡ true) ↔ IsRefusalLine text
tells text name is = (
  λ one. let found = named PRINTED all_printed name one in (found.0, found.1, is ∙ ap (λ x. codes "refused " ++ x ++ codes "\n") found.2),
  λ line. let same : name ≡ refusal_name line.0 = around_one name (refusal_name line.0) (sym is ∙ line.2) in rw same (known line.0 line.1),
)

-- no name stands between
pub tells_none : (text : List ℕ) → ((name : List ℕ) → text ≡ codes "refused " ++ name ++ codes "\n" → ⊥) → IsRefusalLine text → ⊥
tells_none text none line = none (refusal_name line.0) line.2
