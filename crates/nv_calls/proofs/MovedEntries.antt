-- The removal of a name and another name, also for another inode, both behind one directory's log: what they make of a row.
use Rattle.std.proofs.Common.{◌≡◌, ℕ, cond, nat_eq, List, [], ◌∷◌, append_assoc, refl, ap, sym, ◌∙◌, subst, Option, Some, None}
use Rattle.std.specs.Cmp.Lexicographic.{pointwise}
use Rattle.std.proofs.lemmas.List.Elements.{All-cons, All-nil}
use Rattle.nv_super.specs.declared.kind.Kind.TheVariants.{Directory}
use Rattle.nv_super.specs.Layout.{Layout}
use Rattle.nv_entry.specs.declared.entry.Operation.TheVariants.{Add, Remove}
use Rattle.nv_logpage.specs.declared.found.Placed.{Placed}
use Rattle.nv_logpage.specs.Good.{good_entries}
use Rattle.nv_scan.specs.State.{named}
use Rattle.nv_scan.specs.declared.numbers.Numbers.{Numbers}
use Rattle.nv_scan.specs.Rows.{AreNumbers}
use Rattle.nv_mounted.specs.Held.{Held, good_in}
use Rattle.nv_mounted.specs.Grows.{SameFile, grown}
use Rattle.nv_graph.specs.Step.{IsGoodName, name_entry}
use Rattle.nv_commit.specs.Pages.{SaysNoPage}
use Rattle.nv_commit.proofs.BlocksOf.{same_file}
use Rattle.nv_steps.proofs.NameEntries.{name_added, name_lost, name_numbers}

module _ (l : Layout) (h : Held) (directory : h.kind ≡ Directory) (i j : ℕ) (name other : List ℕ) (good : IsGoodName l.sup i name) (good_other : IsGoodName l.sup j other) (at next time tail : ℕ) (fresh : List ℕ) where
  abbrev x : Placed
  x = name_entry at Remove i name time

  abbrev y : Placed
  y = name_entry next Add j other time

  abbrev once : Held
  once = grown h tail (x ∷ []) fresh

  abbrev both : Held
  both = grown h tail (x ∷ y ∷ []) fresh

  good_same : good_in l both ≡ good_in l (grown once tail (y ∷ []) [])
  good_same = ap (λ (es : List Placed). good_entries l.sup h.kind es) (sym (append_assoc h.entries (x ∷ []) (y ∷ [])))

  -- the files' blocks stay
  pub moved_file : SameFile l h both
  moved_file = same_file l h tail (x ∷ y ∷ []) fresh (All-cons SaysNoPage x (y ∷ []) (λ p. refl) (All-cons SaysNoPage y [] (λ p. refl) (All-nil SaysNoPage)))

  -- the time is that of both
  pub moved_numbers : (old now : Numbers) → AreNumbers h.created (good_in l h) old → now ≡ record old { time = time } → AreNumbers h.created (good_in l both) now
  moved_numbers old now are is =
      let first = name_numbers l h directory Remove i name good at time tail fresh old (record old { time = time }) are refl in
      subst (λ (es : List Placed). AreNumbers h.created es now) (sym good_same) (name_numbers l once directory Add j other good_other next time tail [] (record old { time = time }) now first is)

  -- the other name is there, the name isn't, and the rest is as before
  pub moved_names : (q : List ℕ) → named (good_in l both) q ≡ cond (pointwise nat_eq q other) (Some (j, next)) (cond (pointwise nat_eq q name) None (named (good_in l h) q))
  moved_names q =
      ap (λ (es : List Placed). named es q) good_same ∙ name_added l once directory j other good_other next time tail [] q
      ∙ ap (λ (o : Option (ℕ × ℕ)). cond (pointwise nat_eq q other) (Some (j, next)) o) (name_lost l h directory i name good at time tail fresh q)
