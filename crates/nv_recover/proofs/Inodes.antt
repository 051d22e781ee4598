-- The rows and the faults of all inodes.
use Rattle.std.proofs.Common.{◌≡◌, ℕ, ◌≤◌, IsTrue, List, Some, get_or, map, sym, subst, arith}
use Rattle.std.specs.List.{Contains}
use Rattle.std.proofs.lemmas.List.Elements.{All-contains_itself}
use Rattle.std.proofs.lemmas.List.Sorted.{All-permutation}
use Rattle.nv_region.specs.Region.{Region}
use Rattle.nv_super.specs.Layout.{Layout, slot_of}
use Rattle.nv_inode.specs.Chains.{IsLaid}
use Rattle.nv_inode.specs.Numbers.{has_slot, number_end}
use Rattle.nv_inode.proofs.NumberEnds.{below_end}
use Rattle.nv_scan.specs.declared.piece.Row.{Row}
use Rattle.nv_scan.specs.declared.piece.Piece.{Piece}
use Rattle.nv_scan.proofs.Only.{slot_in_use}
use Rattle.nv_outcome.specs.Outcome.{AreRows}
use Rattle.nv_outcome.specs.Parts.{rows_in}
use Rattle.nv_outcome.proofs.RowsOf.{rows_are}
use Rattle.nv_rows.specs.Unused.{HaveSlots}
use Rattle.nv_rows.proofs.GivenRows.{listed_numbers}
use Rattle.nv_rows.proofs.InOrder.{moved_given}
use Rattle.nv_rows.proofs.TableNumbers.{has_one}
use Rattle.nv_scan.specs.declared.inodes.ListedInodes.{ListedInodes}
use Rattle.nv_recover.specs.Scanned.{AreInodes}

-- ---- all rows

-- their numbers have slots, and no two rows have one number
pub rows_slotted : {R : Region} {l : Layout} {pieces : List Piece} {x : ListedInodes} → IsLaid l → AreInodes R l pieces x → (rows : List Row) → rows ≡ x.rows.items → HaveSlots l (map (λ (r : Row). r.inode) rows)
rows_slotted {R} {l} {pieces} {x} laid inodes rows same = subst (λ (rs : List Row). HaveSlots l (map (λ (r : Row). r.inode) rs)) (sym same) record {
  each = listed_numbers (λ (i : ℕ). IsTrue (has_slot l i)) x.rows.items
      (All-permutation (λ (r : Row). IsTrue (has_slot l r.inode)) (rows_in pieces) x.rows.items inodes.rows (λ k d less. (
      let row = get_or (rows_in pieces) k d in
      let at = slot row (All-contains_itself (rows_in pieces) k d less) in
      has_one l row.inode at.0 at.1)));
  once = (moved_given (number_end l) (rows_in pieces) x.rows.items are.rising (λ row c. (let at = slot row c in below_end l row.inode at.0 laid at.1)) inodes.rows).once;
} where
  are : AreRows R l (rows_in pieces)
  are = rows_are pieces inodes.pieces_are

  slot : (row : Row) → Contains (rows_in pieces) row → (a : ℕ) × (slot_of l row.inode ≡ Some a)
  slot row c = let w = are.each row c in (w.0, slot_in_use w.2.inode)

-- ---- numbers that are counted up to an end

-- where a count from 0 ends
pub ended_at : {t end n : ℕ} → end ≡ n → end ≤ t → t ≤ end → t ≡ n
ended_at is past low = omega arith
