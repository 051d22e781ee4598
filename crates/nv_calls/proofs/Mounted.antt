-- What recovery found in a region, over the region with its journals rolled back.
use Rattle.std.proofs.Common.{◌≡◌, ◌==◌, ℕ, Bool, false, not, nat_lt, List, length, refl, ap, ◌∙◌, sym, subst, arith}
use Rattle.std.proofs.lemmas.Bool.Decides.{nat_tests}
use Rattle.nv_region.specs.Region.{Region}
use Rattle.nv_super.specs.declared.superblock.Super.{Super}
use Rattle.nv_super.specs.declared.faults.Fault.{Fault}
use Rattle.nv_alloc.specs.FreeValue.{FreeLists}
use Rattle.nv_scan.specs.declared.piece.Row.{Row}
use Rattle.nv_journal.specs.Undo.{undone}
use Rattle.nv_super.specs.Layout.{Layout}
use Rattle.nv_outcome.specs.Outcome.{Outcome, IsOutcome}
use Rattle.nv_outcome.specs.Same.{lasting_outcome}
use Rattle.nv_outcome.specs.Answer.{outcome_of}
use Rattle.nv_outcome.proofs.Again.{rolled_back, stays}
use Rattle.nv_mounted.specs.Mounted.{outcome_layout}
use Rattle.nv_outcome.specs.declared.recovered.Recovered.{Recovered}
use Rattle.nv_calls.specs.Mount.{IsKept, Mount, has_faults, told}
use Rattle.nv_calls.specs.Mounting.{TellsOutcome}

-- without the faults of pending records it is the outcome of that region
pub opens : (R S : Region) (r : Recovered) → S ≡ undone r.sup R → IsOutcome (undone r.sup R) (lasting_outcome (outcome_of r)) → IsOutcome S (lasting_outcome (outcome_of r))
opens R S r is shown = subst (λ (T : Region). IsOutcome T (lasting_outcome (outcome_of r))) (sym is) shown

-- which has nothing to roll back
pub rolls_back_once : (R S : Region) (r : Recovered) → S ≡ undone r.sup R → undone r.sup (undone r.sup R) ≡ undone r.sup R → undone r.sup S ≡ S
rolls_back_once R S r is same = subst (λ (T : Region). undone r.sup T ≡ T) (sym is) same

-- what is mounted is what was found
pub tells : {P : Type 0} (R : Region) (m : Mount P) (r : Recovered) → m.layout ≡ r.tables.layout → r.tables.layout.sup ≡ r.sup → m.rows ≡ r.rows.items → m.free ≡ r.free → m.faults ≡ r.faults.items → IsOutcome R (outcome_of r) → TellsOutcome R m
tells R m r layout tables rows free faults is = ∣ (r.doubled.items, subst (λ (o : Outcome). IsOutcome R o) (sym same) is) ∣₁ where
  same : told m.layout m.rows m.free r.doubled.items m.faults ≡ outcome_of r
  same =
      ap (λ (l : Layout). told l m.rows m.free r.doubled.items m.faults) layout
      ∙ ap (λ (all : List Row). told r.tables.layout all m.free r.doubled.items m.faults) rows
      ∙ ap (λ (f : FreeLists). told r.tables.layout r.rows.items f r.doubled.items m.faults) free
      ∙ ap (λ (all : List Fault). told r.tables.layout r.rows.items r.free r.doubled.items all) faults
      ∙ ap (λ (s : Super). record { sup = s; tables = r.tables.layout.chains; rows = r.rows.items; free = r.free.pools; doubled = r.doubled.items; faults = r.faults.items }) tables

-- faults were found where their list isn't empty
some_counted : (b : Bool) (n : ℕ) → b ≡ (n == 0) → not b ≡ nat_lt 0 n
some_counted b n e = grind (arith, nat_tests)

pub told_faults : (empty : Bool) (faults : List Fault) → empty ≡ (length faults == 0) → not empty ≡ has_faults faults
told_faults empty faults e = some_counted empty (length faults) e

-- what an outcome says of the region whose journals are rolled back is kept
pub kept_outcome : (R : Region) (o : Outcome) → IsOutcome R o → IsKept (undone o.sup R) o.sup (outcome_layout o) o.rows (record { sup = o.sup; pools = o.free; room = 0 }) o.faults (has_faults o.faults) false
kept_outcome R o is = record { writes = refl; tables = refl; lists = refl; own = λ runs. stays R o.sup is.sup; shown = λ runs. ∣ (o.doubled, rolled_back R o is) ∣₁ }

-- what was found is kept
pub open_kept : (R : Region) (r : Recovered) → IsOutcome R (lasting_outcome (outcome_of r)) → r.tables.layout.sup ≡ r.sup → r.free.sup ≡ r.sup → undone r.sup R ≡ R → (read_only : Bool) → read_only ≡ has_faults r.faults.items
    → IsKept R r.tables.layout.sup r.tables.layout r.rows.items r.free r.faults.items read_only false
open_kept R r is tables lists own read_only writes = record {
  writes = writes;
  tables = refl;
  lists = lists ∙ sym tables;
  own = λ _. subst (λ (s : Super). undone s R ≡ R) (sym tables) own;
  shown = λ _. ∣ (r.doubled.items, subst (λ (s : Super). IsOutcome R (lasting_outcome (record { sup = s; tables = r.tables.layout.chains; rows = r.rows.items; free = r.free.pools; doubled = r.doubled.items; faults = r.faults.items }))) (sym tables) is) ∣₁;
}
