-- A name that is given to another inode, all behind one directory's log: what its three entries make of the directory's row.
use Rattle.std.proofs.Common.{◌≡◌, ℕ, Bool, true, false, cond, nat_eq, List, [], ◌∷◌, ◌++◌, append_assoc, refl, ap, sym, ◌∙◌, subst, Option, Some, None}
use Rattle.std.specs.Cmp.Lexicographic.{pointwise}
use Rattle.std.proofs.lemmas.List.Elements.{All-cons, All-nil}
use Rattle.nv_super.specs.declared.kind.Kind.TheVariants.{Directory}
use Rattle.nv_super.specs.Layout.{Layout}
use Rattle.nv_entry.specs.declared.entry.Operation.TheVariants.{Add, Remove}
use Rattle.nv_logpage.specs.declared.found.Placed.{Placed}
use Rattle.nv_logpage.specs.Good.{good_entries}
use Rattle.nv_scan.specs.State.{named}
use Rattle.nv_scan.specs.declared.numbers.Numbers.{Numbers}
use Rattle.nv_scan.specs.Rows.{AreNumbers}
use Rattle.nv_mounted.specs.Held.{Held, good_in}
use Rattle.nv_mounted.specs.Grows.{SameFile, grown}
use Rattle.nv_graph.specs.Step.{IsGoodName, name_entry}
use Rattle.nv_commit.specs.Pages.{SaysNoPage}
use Rattle.nv_commit.proofs.BlocksOf.{same_file}
use Rattle.nv_steps.proofs.NameEntries.{name_added, name_lost, name_numbers}

module _ (l : Layout) (h : Held) (directory : h.kind ≡ Directory) (i j : ℕ) (name other : List ℕ) (good : IsGoodName l.sup i name) (good_there : IsGoodName l.sup j other) (good_other : IsGoodName l.sup i other) (at next last time tail : ℕ) (fresh : List ℕ) where
  abbrev x : Placed
  x = name_entry at Remove i name time

  abbrev y : Placed
  y = name_entry next Remove j other time

  abbrev z : Placed
  z = name_entry last Add i other time

  abbrev once : Held
  once = grown h tail (x ∷ []) fresh

  abbrev twice : Held
  twice = grown once tail (y ∷ []) []

  abbrev all : Held
  all = grown h tail (x ∷ y ∷ z ∷ []) fresh

  good_same : good_in l all ≡ good_in l (grown twice tail (z ∷ []) [])
  good_same = ap (λ (es : List Placed). good_entries l.sup h.kind es) (sym (append_assoc (h.entries ++ (x ∷ [])) (y ∷ []) (z ∷ []) ∙ append_assoc h.entries (x ∷ []) (y ∷ z ∷ [])))

  -- the files' blocks stay
  pub taken_file : SameFile l h all
  taken_file = same_file l h tail (x ∷ y ∷ z ∷ []) fresh (All-cons SaysNoPage x (y ∷ z ∷ []) (λ p. refl) (All-cons SaysNoPage y (z ∷ []) (λ p. refl) (All-cons SaysNoPage z [] (λ p. refl) (All-nil SaysNoPage))))

  -- the time is that of all
  pub taken_numbers : (old now : Numbers) → AreNumbers h.created (good_in l h) old → now ≡ record old { time = time } → AreNumbers h.created (good_in l all) now
  taken_numbers old now are is =
      let first = name_numbers l h directory Remove i name good at time tail fresh old (record old { time = time }) are refl in
      let second = name_numbers l once directory Remove j other good_there next time tail [] (record old { time = time }) (record old { time = time }) first refl in
      subst (λ (es : List Placed). AreNumbers h.created es now) (sym good_same) (name_numbers l twice directory Add i other good_other last time tail [] (record old { time = time }) now second is)

  -- a name that is set over one that was taken
  set_over : {A : Type 0} (b : Bool) (p q r : A) → cond b q (cond b p r) ≡ cond b q r
  set_over true p q r = refl
  set_over false p q r = refl

  -- the other name is there for the inode, its old name isn't, and the rest is as before
  pub taken_names : (q : List ℕ) → named (good_in l all) q ≡ cond (pointwise nat_eq q other) (Some (i, last)) (cond (pointwise nat_eq q name) None (named (good_in l h) q))
  taken_names q =
      ap (λ (es : List Placed). named es q) good_same ∙ name_added l twice directory i other good_other last time tail [] q
      ∙ ap (λ (o : Option (ℕ × ℕ)). cond (pointwise nat_eq q other) (Some (i, last)) o) (name_lost l once directory j other good_there next time tail [] q ∙ ap (λ (o : Option (ℕ × ℕ)). cond (pointwise nat_eq q other) None o) (name_lost l h directory i name good at time tail fresh q))
      ∙ set_over (pointwise nat_eq q other) None (Some (i, last)) (cond (pointwise nat_eq q name) None (named (good_in l h) q))
