-- For callers: rows whose numbers are those of a layout.
use Rattle.std.proofs.Common.{◌≡◌, ℕ, ◌*◌, ◌%◌, ◌<◌, List, get_or, Option, Some, refl, sym, ap, ◌∙◌, subst, arith}
use Rattle.std.specs.Prelude.{IsTrue, is_some}
use Rattle.std.proofs.lemmas.Nat.{div_below, mod_below}
use Rattle.nv_super.specs.declared.superblock.Super.{Super}
use Rattle.nv_super.specs.Layout.{Layout, fixed_layout, inode_limit, slot_of}
use Rattle.nv_inode.specs.Numbers.{has_slot, sizes_of}
use Rattle.nv_inode.proofs.NumberEnds.{fixed_size}
use Rattle.nv_scan.specs.declared.piece.Row.{Row}
use Rattle.nv_rows.specs.RowList.{HasNumbersOf, RowList}
use Rattle.nv_rows.specs.Unused.{IsTableNumber, lowest_of, unused_number}
use Rattle.nv_rows.proofs.NewSets.{size_of}

-- an address of a slot
pub has_one : (l : Layout) (i a : ℕ) → slot_of l i ≡ Some a → IsTrue (has_slot l i)
has_one l i a at = subst (λ (o : Option ℕ). IsTrue (is_some o)) (sym at) refl

-- they stay so while the superblock and the sizes stay
pub numbers_kept : {l : Layout} {old new : RowList} → new.sup ≡ old.sup → new.sizes ≡ old.sizes → HasNumbersOf l old → HasNumbersOf l new
numbers_kept sup sizes numbers = record { sup = sup ∙ numbers.sup; sizes = sizes ∙ numbers.sizes }

-- the size of a CPU's table
size_in : (l : Layout) (rows : RowList) (cpu : ℕ) → HasNumbersOf l rows → cpu < l.sup.cpus → get_or rows.sizes cpu 0 ≡ get_or (sizes_of l) cpu 0
size_in l rows cpu numbers below = ap (λ (sizes : List ℕ). get_or sizes cpu 0) numbers.sizes

-- the lowest number is that of the layout
pub lowest_in : (l : Layout) (rows : RowList) (cpu : ℕ) → HasNumbersOf l rows → cpu < rows.sup.cpus → lowest_of rows.sup.cpus (get_or rows.sizes cpu 0) rows.items cpu ≡ unused_number l rows.items cpu
lowest_in l rows cpu numbers below =
    let inside = subst (λ (s : Super). cpu < s.cpus) numbers.sup below in
    ap (λ (s : Super). lowest_of s.cpus (get_or rows.sizes cpu 0) rows.items cpu) numbers.sup
    ∙ ap (λ (size : ℕ). lowest_of l.sup.cpus size rows.items cpu) (size_in l rows cpu numbers inside ∙ size_of l cpu inside)

-- ---- fixed tables

module _ (s : Super) (some_cpu : 0 < s.cpus) where
  -- numbers below their limit are those of the tables
  fixed_number : (i : ℕ) → i < inode_limit s → IsTableNumber s.cpus (sizes_of (fixed_layout s)) i
  fixed_number i low =
      let place = div_below i s.cpus (32 * s.table_blocks) some_cpu (omega (arith, low)) in
      let is = size_of (fixed_layout s) (i % s.cpus) (mod_below i s.cpus some_cpu) in
      let size = fixed_size s (i % s.cpus) in
      omega (arith, place, is, size)

  pub number_fits : {rows : RowList} → HasNumbersOf (fixed_layout s) rows → (i : ℕ) → i < inode_limit s → IsTableNumber rows.sup.cpus rows.sizes i
  number_fits {rows} numbers i low =
      subst (λ (x : Super). IsTableNumber x.cpus rows.sizes i) (sym numbers.sup) (subst (λ (sizes : List ℕ). IsTableNumber s.cpus sizes i) (sym numbers.sizes) (fixed_number i low))

-- the lowest number by the size of a fixed table
pub fixed_unused : (s : Super) (rows : List Row) (cpu : ℕ) → unused_number (fixed_layout s) rows cpu ≡ lowest_of s.cpus (32 * s.table_blocks) rows cpu
fixed_unused s rows cpu = ap (λ (size : ℕ). lowest_of s.cpus size rows cpu) (fixed_size s cpu)
