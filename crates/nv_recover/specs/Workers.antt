-- What workers bring together.
use Rattle.std.specs.Prelude.{◌≡◌, ℕ, ◌<◌, List}
use Rattle.std.specs.List.Sorted.{IsPermutation}
use Rattle.nv_region.specs.Region.{Region}
use Rattle.nv_super.specs.Layout.{Layout}
use Rattle.nv_super.specs.declared.faults.Fault.{Fault}
use Rattle.nv_claimcore.specs.declared.view.View.{View}
use Rattle.nv_claimcore.specs.Claims.{past}
use Rattle.nv_claimmap.specs.Held.{MapId}
use Rattle.nv_scan.specs.Tickets.{ticket_count}
use Rattle.nv_scan.specs.Work.{IsWork}
use Rattle.nv_scan.specs.declared.piece.Row.{Row}
use Rattle.nv_recover.specs.declared.workers.Brought.{Brought}

-- The work of the tickets that a seat drew; the rows are kept in any order.
pub record IsKeptWork (R : Region) (l : Layout) (v : View) (rows : List Row) (faults : List Fault) : Type 0 where
  pub listed : List Row
  pub work : IsWork R l v listed faults
  pub kept : IsPermutation listed rows

-- The seat stands for so many workers' seats of the map, of whose draws one was past the end; the rows and the faults are those of the tickets that it drew, the rows in any order.
pub record IsBrought (R : Region) (l : Layout) (m : MapId) (workers : ℕ) (b : Brought) : Type 0 where
  pub map : b.seat.map ≡ m
  pub seats : b.seat.view.seats ≡ workers
  pub ended : 0 < past (ticket_count l) b.seat.view.numbers
  pub work : IsKeptWork R l b.seat.view b.inodes.rows.items b.inodes.faults.items
