-- Rows of which one was settled, before another is put in.
use Rattle.std.proofs.Common.{◌≡◌, ℕ, List, set, slice_get, refl, sym, subst, Some}
use Rattle.nv_super.specs.Order.{Rises}
use Rattle.nv_alloc.specs.FreeValue.{FreeLists}
use Rattle.nv_scan.specs.declared.piece.Row.{Row}
use Rattle.nv_cross_check.specs.Cross.{row_key}
use Rattle.nv_outcome.specs.Same.{SameRows}
use Rattle.nv_calls.specs.AtPlaces.{LeavesRows}
use Rattle.nv_steps.specs.Steps.{LeavesStep}
use Rattle.nv_rows.proofs.Places.{set_rising}
use Rattle.nv_steps.proofs.RowsAt.{same_rows, set_same_rows}

pub leaves_all : {P : Type 0} (memory : P) (free : FreeLists) (old new : List Row) → new ≡ old → LeavesRows memory memory free free old new
leaves_all memory free old new same = record { memory = refl; free = record { sup = refl; pools = refl }; rows = subst (λ (rows : List Row). SameRows old rows) (sym same) (same_rows old) }

module _ (rows kept : List Row) (place : ℕ) (row new : Row) (items : kept ≡ rows) (at : slice_get rows place ≡ Some row) where
  -- they rise where its number stays
  pub set_rises : Rises row_key rows → new.inode ≡ row.inode → Rises row_key (set kept place new)
  set_rises rising number = subst (λ (rs : List Row). Rises row_key (set rs place new)) (sym items) (set_rising rows place row new rising at number)

  -- a step on it that was refused
  pub leaves_set : {P : Type 0} (memory now : P) (free after : FreeLists) → LeavesStep memory now free after row new → LeavesRows memory now free after rows (set kept place new)
  leaves_set memory now free after left = record {
    memory = left.memory;
    free = left.free;
    rows = subst (λ (rs : List Row). SameRows rows (set rs place new)) (sym items) (set_same_rows rows place row new at left.row);
  }
