-- The rows of an outcome lie in the region whose journals are rolled back.
use Rattle.std.proofs.Common.{false, refl}
use Rattle.nv_region.specs.Region.{Region}
use Rattle.nv_journal.specs.Undo.{undone}
use Rattle.nv_outcome.specs.Outcome.{Outcome, IsOutcome}
use Rattle.nv_calls.specs.Mount.{has_faults}
use Rattle.nv_mounted.specs.Mounted.{outcome_layout}
use Rattle.nv_calls.proofs.FileBytes.{blocks_inside, row_size}
use Rattle.nv_calls.proofs.Mounted.{kept_outcome}
use Rattle.nv_comparing.specs.Shown.{AreHeld}

module _ (S : Region) (o : Outcome) (is : IsOutcome S o) where
  pub held_rows : AreHeld (undone o.sup S) o.rows
  held_rows row c = record {
    inside = blocks_inside (undone o.sup S) o.sup (outcome_layout o) o.rows (record { sup = o.sup; pools = o.free; room = 0 }) o.faults (has_faults o.faults) false (kept_outcome S o is) refl row c;
    size = row_size (undone o.sup S) o.sup (outcome_layout o) o.rows (record { sup = o.sup; pools = o.free; room = 0 }) o.faults (has_faults o.faults) false (kept_outcome S o is) refl row c;
  }
