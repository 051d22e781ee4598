-- The numbers of rows, where they can be written behind their logs.
use Rattle.std.proofs.Common.{◌≡◌, ℕ, ◌<◌, Bool, false, IsTrue, List}
use Rattle.std.specs.List.{Contains}
use Rattle.std.proofs.Math.Logic.{∥∥₁_elim}
use Rattle.std.proofs.Math.Nat.{ℕ_set}
use Rattle.std.proofs.Props.{props}
use Rattle.nv_region.specs.Region.{Region}
use Rattle.nv_super.specs.declared.superblock.Super.{Super}
use Rattle.nv_super.specs.declared.faults.Fault.{Fault}
use Rattle.nv_super.specs.Layout.{Layout, is_name_number}
use Rattle.nv_inode.specs.Numbers.{has_slot}
use Rattle.nv_alloc.specs.FreeValue.{FreeLists}
use Rattle.nv_scan.specs.declared.piece.Row.{Row}
use Rattle.nv_mounted.specs.Held.{Store}
use Rattle.nv_mounted.specs.Mounted.{IsMounted}
use Rattle.nv_steps.specs.Grown.{StandsRight}
use Rattle.nv_calls.specs.Mount.{IsKept}
use Rattle.nv_steps.specs.NewNames.{CanName}
use Rattle.nv_calls.proofs.Mounts.{mounted_of_kept}
use Rattle.nv_calls.proofs.NewNumbers.{can_name, named_number}
use Rattle.nv_calls.proofs.OneRow.{row_stands, stands_right}

-- A row's number has a slot.
pub mounted_number : {R : Region} {l : Layout} {held : Store} {rows : List Row} (free : FreeLists) → IsMounted R l held rows free.pools → free.sup ≡ l.sup → (row : Row) → Contains rows row → IsTrue (has_slot l row.inode)
mounted_number free m lists row here = let right = row_stands {free = free} m lists row here in right.number

module _ {R : Region} {s : Super} {l : Layout} {rows : List Row} {free : FreeLists} {faults : List Fault} {read_only stopped : Bool} (kept : IsKept R s l rows free faults read_only stopped) (runs : stopped ≡ false) (writes : read_only ≡ false) (row : Row) (here : Contains rows row) where
  pub row_number : IsTrue (has_slot l row.inode)
  row_number = ∥∥₁_elim (mounted_of_kept kept runs writes) (hlevel (props, ℕ_set)) (λ w. mounted_number free w.1 kept.lists row here)

  -- A name can stand for it.
  pub row_named : IsTrue (is_name_number l.sup row.inode)
  row_named = named_number kept runs writes row.inode row_number

  -- What is known of it where its log grows by a CPU's journal.
  pub row_commits : (cpu : ℕ) → cpu < l.sup.cpus → StandsRight R l free row × CanName R l cpu row.inode row
  row_commits cpu low = (stands_right kept runs writes row here, can_name kept runs writes cpu row.inode low row_number row here)
