-- A line of a list is told apart from a refusal: behind its first space stands a digit, and behind that of a refusal a capital.
use Rattle.std.proofs.Common.{◌≡◌, ◌≢◌, ◌≤◌, ◌<◌, ◌^◌, ℕ, true, false, nat_le, List, [], ◌∷◌, ◌++◌, length, get_or, refl, sym, subst, ◌∙◌, arith, append_assoc}
use Rattle.std.specs.Prelude.{codes, decimal, if◌then◌else◌}
use Rattle.std.specs.Char.{digit_value}
use Rattle.std.specs.Int.{IsInRange}
use Rattle.std.specs.Str.Parse.{AllDigits}
use Rattle.std.proofs.lemmas.Bool.{leb-true}
use Rattle.std.proofs.lemmas.Fmt.{decimal_is_IsNumeral}
use Rattle.std.proofs.lemmas.Str.Parse.{digit_from_value}
use Rattle.nv_format.specs.declared.formatting.FormatRefusal.TheVariants as formats
use Rattle.nv_super.specs.declared.superblock.SuperFault.TheVariants as super_faults
use Rattle.nv_tree.specs.declared.refusal.Refusal.TheVariants as calls
use Rattle.nv_text.specs.Answers.{refused_line}
use Rattle.nv_text.specs.Names.{hex_byte, is_plain, escaped_byte, escaped, list_line}
use Rattle.nv_text.specs.Refusals.{refusal_name}
use Rattle.nv_text.specs.RefusalLines.{IsRefusalLine}
use Rattle.nv_text.specs.Escapes.{AreBytes}
use Rattle.nv_text.specs.declared.refusals.Refusal.{Refusal}
use Rattle.nv_text.specs.declared.refusals.Refusal.TheVariants as refusals
use Rattle.nv_text.proofs.Spellings.{hex_spells}

-- no byte is a space
abbrev NoSpace : List ℕ → Type 0
NoSpace [] = Unit {0}
NoSpace (b ∷ bs) = (b ≢ 32) × NoSpace bs

no_space_both : (a b : List ℕ) → NoSpace a → NoSpace b → NoSpace (a ++ b)
no_space_both [] b p q = q
no_space_both (x ∷ a) b p q = (p.0, no_space_both a b p.1 q)

-- texts that agree do so behind their first space
behind_space : (a b r s : List ℕ) → NoSpace a → NoSpace b → a ++ 32 ∷ r ≡ b ++ 32 ∷ s → r ≡ s
behind_space [] [] r s p q e = cc
behind_space [] (y ∷ b) r s p q e = let here : y ≡ 32 = cc in absurd (q.0 here)
behind_space (x ∷ a) [] r s p q e = let here : x ≡ 32 = cc in absurd (p.0 here)
behind_space (x ∷ a) (y ∷ b) r s p q e = let tails : a ++ 32 ∷ r ≡ b ++ 32 ∷ s = cc in behind_space a b r s p.1 q.1 tails

-- ---- an escaped name has no space

digit_is_no_space : (c : ℕ) → digit_value c < 16 → c ≢ 32
digit_is_no_space c small is = let bad : digit_value 32 < 16 = subst (λ (x : ℕ). digit_value x < 16) is small in absurd (omega (arith, bad))

hex_has_none : (b : ℕ) → b < 256 → NoSpace (hex_byte b)
hex_has_none b small =
    let s = hex_spells b small in
    subst NoSpace (sym s.4) (digit_is_no_space s.0 s.2, (digit_is_no_space s.1 s.3, tt))

plain_is_no_space : (b : ℕ) → is_plain b ≡ true → b ≢ 32
plain_is_no_space b plain is = let bad : is_plain 32 ≡ true = subst (λ (x : ℕ). is_plain x ≡ true) is plain in cc

byte_has_none : (b : ℕ) → b < 256 → NoSpace (escaped_byte b)
unfolding escaped_byte
byte_has_none b small = elim (is_plain b) as (λ v. is_plain b ≡ v → NoSpace (if◌then◌else◌ v (b ∷ []) (codes "\\x" ++ hex_byte b))) [
  | true ↦ λ plain. (plain_is_no_space b plain, tt)
  | false ↦ λ other. ((λ e. omega arith), ((λ e. omega arith), hex_has_none b small))
] refl

name_has_none : (name : List ℕ) → AreBytes name → NoSpace (escaped name)
name_has_none [] bytes = tt
name_has_none (b ∷ name) bytes = no_space_both (escaped_byte b) (escaped name) (byte_has_none b bytes.0) (name_has_none name bytes.1)

-- ---- what stands behind the space

capital : (refusal : Refusal) → nat_le 65 (get_or (refusal_name refusal ++ codes "\n") 0 0) ≡ true
capital (refusals.Format formats.Length) = refl
capital (refusals.Super super_faults.Length) = refl
capital (refusals.Call calls.NotFound) = refl
capital refusal = refl

digit_first : (ds more : List ℕ) → AllDigits 10 ds → 0 < length ds → get_or (ds ++ more) 0 0 ≤ 57
digit_first [] more digits some = absurd (omega arith)
digit_first (d ∷ ds) more digits some = let range : IsInRange 48 57 d = digit_from_value d digits.0 in omega arith

pub not_refused : (name more : List ℕ) (inode : ℕ) → AreBytes name → inode < 2 ^ 64 → IsRefusalLine (list_line name inode ++ more) → ⊥
not_refused name more inode bytes small line =
    let rest = decimal inode ++ (codes "\n" ++ more) in
    let list : list_line name inode ++ more ≡ escaped name ++ 32 ∷ rest = simp append_assoc in
    let refused : refused_line (refusal_name line.0) ≡ codes "refused" ++ 32 ∷ (refusal_name line.0 ++ codes "\n") = refl in
    let word : NoSpace (codes "refused") = ((λ e. omega arith), ((λ e. omega arith), ((λ e. omega arith), ((λ e. omega arith), ((λ e. omega arith), ((λ e. omega arith), ((λ e. omega arith), tt))))))) in
    let same : rest ≡ refusal_name line.0 ++ codes "\n" = behind_space (escaped name) (codes "refused") rest (refusal_name line.0 ++ codes "\n") (name_has_none name bytes) word (sym list ∙ line.2 ∙ refused) in
    let numeral = decimal_is_IsNumeral inode small in
    let digit : get_or rest 0 0 ≤ 57 = digit_first (decimal inode) (codes "\n" ++ more) numeral.0.1 numeral.0.0 in
    let letter : 65 ≤ get_or rest 0 0 = leb-true 65 (get_or rest 0 0) (subst (λ (x : List ℕ). nat_le 65 (get_or x 0 0) ≡ true) (sym same) (capital line.0)) in
    omega arith
