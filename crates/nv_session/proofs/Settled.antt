-- What a mounted region shows, where only that there are such doubled blocks is known.
use Rattle.std.proofs.Common.{◌≡◌, ℕ, List, [], sym, subst}
use Rattle.std.proofs.Math.Logic.{∥∥₁_elim, ∥∥₁_map}
use Rattle.std.proofs.Math.Nat.{ℕ_set}
use Rattle.std.proofs.Props.{props}
use Rattle.nv_super.specs.Layout.{Layout}
use Rattle.nv_region.specs.Region.{Region}
use Rattle.nv_super.specs.declared.superblock.Super.{Super}
use Rattle.nv_super.specs.declared.owners.Owner.{Owner}
use Rattle.nv_super.specs.declared.owners.Run.{Run}
use Rattle.nv_super.specs.declared.faults.Fault.{Fault}
use Rattle.nv_super.specs.Super.{IsSuper}
use Rattle.nv_scan.specs.declared.piece.Row.{Row}
use Rattle.nv_outcome.specs.Outcome.{Outcome, IsOutcome}
use Rattle.nv_outcome.specs.Same.{SameRows, SameOutcome}
use Rattle.nv_outcome.proofs.Exists.{has_outcome}
use Rattle.nv_outcome.proofs.OnlyOne.{same_outcome}
use Rattle.nv_calls.proofs.OneOutcome.{chains_prop, none_known, pools_prop, rows_known}
use Rattle.nv_session.proofs.SameShown.{with_rows}

super_prop : (R : Region) (s : Super) → IsProp (IsSuper R s)
super_prop R s = hlevel (props, ℕ_set)

module _ (R : Region) (l : Layout) (rows : List Row) (pools : List (List Run)) where
  -- these parts as an outcome without a fault
  abbrev with_doubled : List (ℕ × Owner) → Outcome
  with_doubled doubled = record { sup = l.sup; tables = l.chains; rows = rows; free = pools; doubled = doubled; faults = [] }

  pub settled : ∥ ((doubled : List (ℕ × Owner)) × IsOutcome R (with_doubled doubled)) ∥₁ → (doubled : List (ℕ × Owner)) × IsOutcome R (with_doubled doubled)
  settled known =
      let own = has_outcome R l.sup (∥∥₁_elim known (super_prop R l.sup) (λ w. w.1.sup)) in
      let same : ∥ ((doubled : List (ℕ × Owner)) × SameOutcome own.0 (with_doubled doubled)) ∥₁ = ∥∥₁_map known (λ w. (w.0, same_outcome R own.0 (with_doubled w.0) own.2 w.1)) in
      let in_rows : SameRows own.0.rows rows = rows_known own.0.rows rows (∥∥₁_map same (λ w. w.1.rows)) in
      let in_pools : pools ≡ own.0.free = ∥∥₁_elim same (pools_prop pools own.0.free) (λ w. w.1.free) in
      let in_tables : l.chains ≡ own.0.tables = ∥∥₁_elim same (chains_prop own.0.tables l.chains) (λ w. w.1.tables) in
      let in_faults : [] ≡ own.0.faults = none_known own.0.faults (∥∥₁_map same (λ w. w.1.faults)) in
      let by_rows : IsOutcome R (record own.0 { rows = rows }) = with_rows R own.0 rows in_rows own.2 in
      let by_sup : IsOutcome R (record own.0 { rows = rows; sup = l.sup }) = subst (λ (x : Super). IsOutcome R (record own.0 { rows = rows; sup = x })) own.1 by_rows in
      let by_pools : IsOutcome R (record own.0 { rows = rows; sup = l.sup; free = pools }) = subst (λ (x : List (List Run)). IsOutcome R (record own.0 { rows = rows; sup = l.sup; free = x })) (sym in_pools) by_sup in
      let by_tables : IsOutcome R (record own.0 { rows = rows; sup = l.sup; free = pools; tables = l.chains }) = subst (λ (x : List (List ℕ)). IsOutcome R (record own.0 { rows = rows; sup = l.sup; free = pools; tables = x })) (sym in_tables) by_pools in
      (own.0.doubled, subst (λ (x : List Fault). IsOutcome R (record own.0 { rows = rows; sup = l.sup; free = pools; tables = l.chains; faults = x })) (sym in_faults) by_tables)
