-- What is shown of regions that seem the same: one outcome, trees that show the same, and one refusal or none.
use Rattle.std.proofs.Common.{◌≡◌, ◌⊎◌, inl, inr, ℕ, Bool, false, nat_lt, length, List, [], ◌∷◌, Option, Some, None, refl, sym, ap, subst, ◌∙◌, arith}
use Rattle.std.specs.List.{filter}
use Rattle.std.proofs.Math.Logic.{∥∥₁_elim, ∥∥₁_map, ∥∥₁_prop}
use Rattle.std.proofs.Math.Nat.{ℕ_set}
use Rattle.std.proofs.Props.{props}
use Rattle.std.proofs.lemmas.Bool.Decides.{nat_tests}
use Rattle.nv_region.specs.Region.{Region}
use Rattle.nv_super.specs.declared.superblock.Super.{Super}
use Rattle.nv_super.specs.declared.superblock.SuperFault.{SuperFault}
use Rattle.nv_super.specs.declared.faults.Fault.{Fault}
use Rattle.nv_super.specs.declared.owners.Owner.{Owner}
use Rattle.nv_super.specs.Super.{IsRefused}
use Rattle.nv_journal.specs.Undo.{undone}
use Rattle.nv_outcome.specs.Outcome.{Outcome, IsOutcome}
use Rattle.nv_outcome.specs.Same.{SameOutcome, SameRows, is_lasting, lasting_outcome}
use Rattle.nv_outcome.proofs.Again.{rolled_back, stays}
use Rattle.nv_outcome.proofs.OnlyOne.{same_outcome}
use Rattle.nv_outcome.proofs.SuperOf.{one_fault}
use Rattle.nv_mounted.specs.Mounted.{faultless_outcome}
use Rattle.nv_calls.specs.Alike.{AreAlike}
use Rattle.nv_calls.specs.Mount.{has_faults}
use Rattle.nv_paths.specs.Seen.{tree_of}
use Rattle.nv_calls.proofs.OneOutcome.{alike_faultless, alike_itself, alike_outcome, alike_own, alike_unrefused, second_unrefused, trees_alike}
use Rattle.nv_calls.proofs.SeenAlike.{Alike, alike_here}
use Rattle.nv_session.specs.Alike.{IsLeftOf, SeemSame}

module _ (R S : Region) where
  -- one outcome
  pub seen_one : SeemSame (Some R) (Some S) → (o other : Outcome) → IsOutcome R o → IsOutcome S other → SameOutcome o other
  seen_one (inl same) o other is is_other = same_outcome R o other is (subst (λ (Q : Region). IsOutcome Q other) (sym same) is_other)
  seen_one (inr alike) o other is is_other = alike_outcome R S o other alike is is_other

  -- one fault of the superblock
  pub refused_one : SeemSame (Some R) (Some S) → (fault other : SuperFault) → IsRefused R fault → IsRefused S other → fault ≡ other
  refused_one (inl same) fault other is is_other = one_fault R fault other is (subst (λ (Q : Region). IsRefused Q other) (sym same) is_other)
  refused_one (inr alike) fault other is is_other = absurd (alike_unrefused R S alike fault is)

  pub refused_first : SeemSame (Some R) (Some S) → (fault : SuperFault) (o : Outcome) → IsRefused R fault → IsOutcome S o → ⊥
  refused_first (inl same) fault o is is_other = (let there = subst (λ (Q : Region). IsOutcome Q o) (sym same) is_other in there.sup.sound fault is.applies)
  refused_first (inr alike) fault o is is_other = alike_unrefused R S alike fault is

  pub refused_second : SeemSame (Some R) (Some S) → (fault : SuperFault) (o : Outcome) → IsOutcome R o → IsRefused S fault → ⊥
  refused_second (inl same) fault o is is_other = (let here = subst (λ (Q : Region). IsRefused Q fault) (sym same) is_other in is.sup.sound fault here.applies)
  refused_second (inr alike) fault o is is_other = second_unrefused R S alike fault is_other

  -- the regions that their recoveries leave
  pub left_seem : SeemSame (Some R) (Some S) → (o other : Outcome) → IsOutcome R o → IsOutcome S other → SeemSame (Some (undone o.sup R)) (Some (undone other.sup S))
  left_seem (inl same) o other is is_other =
      let one = same_outcome R o other is (subst (λ (Q : Region). IsOutcome Q other) (sym same) is_other) in
      inl (ap (λ (s : Super). undone s R) (sym one.sup) ∙ ap (λ (Q : Region). undone other.sup Q) same)
  left_seem (inr alike) o other is is_other = inr (
      let own = alike_own R S alike o other is is_other in
      subst (λ (Q : Region). AreAlike Q (undone other.sup S)) (sym own.0) (subst (λ (Q : Region). AreAlike R Q) (sym own.1) alike))

  -- trees that show the same
  pub trees_seem : SeemSame (Some R) (Some S) → (o other : Outcome) → IsOutcome R o → IsOutcome S other → ∥ (Alike (tree_of R o.rows) (tree_of S other.rows)) ∥₁
  trees_seem (inl same) o other is is_other =
      let one = same_outcome R o other is (subst (λ (Q : Region). IsOutcome Q other) (sym same) is_other) in
      ∣ (subst (λ (Q : Region). Alike (tree_of R o.rows) (tree_of Q other.rows)) same (alike_here R o.rows other.rows one.rows)) ∣₁
  trees_seem (inr alike) o other is is_other = ∥∥₁_map alike (λ w. trees_alike w.2 o other is is_other)

-- ---- a region that a recovery without faults has left

-- no fault was found
none_found : (faults : List Fault) → has_faults faults ≡ false → faults ≡ []
none_found [] e = refl
none_found (f ∷ faults) e = absurd (grind (arith, nat_tests))

-- it is alike itself
pub sound_left : (R S : Region) (shown : Outcome) → IsOutcome R shown → has_faults shown.faults ≡ false → S ≡ undone shown.sup R → AreAlike S S
sound_left R S shown is none left =
    let own = stays R shown.sup is.sup in
    let no_faults : filter is_lasting shown.faults ≡ [] = ap (λ (fs : List Fault). filter is_lasting fs) (none_found shown.faults none) in
    let there = alike_itself (undone shown.sup R) (lasting_outcome shown) (rolled_back R shown is) no_faults own in
    subst (λ (Q : Region). AreAlike Q Q) (sym left) there

-- so two that seem the same are alike
pub sound_alike : (R S Q : Region) (shown : Outcome) → IsOutcome R shown → has_faults shown.faults ≡ false → S ≡ undone shown.sup R → SeemSame (Some S) (Some Q) → AreAlike S Q
sound_alike R S Q shown is none left (inl same) = subst (λ (P : Region). AreAlike S P) same (sound_left R S shown is none left)
sound_alike R S Q shown is none left (inr alike) = alike
