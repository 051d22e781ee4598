-- What a worker does with the tickets that it draws.
use Rattle.std.specs.Prelude.{◌≡◌, ℕ, ◌<◌, nat_lt, false, List, ◌++◌, map}
use Rattle.std.specs.List.{flat_map, filter, filter_map, AllByRecursion}
use Rattle.nv_region.specs.Region.{Region}
use Rattle.nv_super.specs.declared.owners.Owner.{Owner}
use Rattle.nv_super.specs.declared.faults.Fault.{Fault}
use Rattle.nv_super.specs.Layout.{Layout}
use Rattle.nv_claimcore.specs.declared.view.View.{View}
use Rattle.nv_claimcore.specs.Claims.{past}
use Rattle.nv_claimcore.specs.Finished.{pair_of}
use Rattle.nv_claimcore.specs.Spans.{Adds}
use Rattle.nv_claimmap.specs.Held.{MapId}
use Rattle.nv_scan.specs.ClaimList.{ClaimList}
use Rattle.nv_scan.specs.Rows.{IsPiece}
use Rattle.nv_scan.specs.Tickets.{ticket_count, numbers_of}
use Rattle.nv_scan.specs.declared.inodes.Inodes.{Inodes}
use Rattle.nv_scan.specs.declared.piece.Row.{Row}
use Rattle.nv_scan.specs.declared.piece.Piece.{Piece}
use Rattle.nv_scan.specs.declared.working.WorkerResult.{WorkerResult}

-- the numbers that are tickets, in the order in which they were drawn
abbrev pub tickets_among : ℕ → List ℕ → List ℕ
tickets_among tickets numbers = filter (λ n. nat_lt n tickets) numbers

-- the numbers of the inodes of these tickets, one block of slots after the other
abbrev pub numbers_in : Layout → List ℕ → List ℕ
numbers_in l tickets = flat_map (numbers_of l) tickets

-- the claims of these pieces, one piece after the other
abbrev pub claims_in : List Piece → List (ℕ × Owner)
claims_in pieces = flat_map (λ (p : Piece). p.claims.items) pieces

-- the claims of some inodes, one inode after the other
abbrev pub claims_among : List ClaimList → List (ℕ × Owner)
claims_among each = flat_map (λ (c : ClaimList). c.items) each

-- the rows of these pieces
abbrev pub rows_in : List Piece → List Row
rows_in pieces = filter_map (λ (p : Piece). p.row) pieces

-- the inodes' own faults, piece by piece
abbrev pub faults_in : List Piece → List Fault
faults_in pieces = flat_map (λ (p : Piece). p.faults.items) pieces

-- Pieces of the inodes with these numbers, in this order.
pub record ArePiecesOf (R : Region) (l : Layout) (numbers : List ℕ) (pieces : List Piece) : Type 0 where
  pub each : AllByRecursion (IsPiece R l) pieces
  pub order : map (λ (p : Piece). p.inode) pieces ≡ numbers

-- Pieces of the inodes with these numbers: their rows and faults were put behind the others, and these are their claims.
pub record AreNext (R : Region) (l : Layout) (numbers : List ℕ) (old new : Inodes) (claims : List (ℕ × Owner)) : Type 0 where
  pub pieces : List Piece
  pub are : ArePiecesOf R l numbers pieces
  pub rows : new.rows.items ≡ old.rows.items ++ rows_in pieces
  pub faults : new.faults.items ≡ old.faults.items ++ faults_in pieces
  pub claims_are : claims ≡ claims_in pieces

-- Pieces of all inodes of the tickets that were drawn, in that order; the blocks claimed are those of the pieces, and the rows and the faults are theirs.
pub record IsWork (R : Region) (l : Layout) (v : View) (rows : List Row) (faults : List Fault) : Type 0 where
  pub pieces : List Piece
  pub are : ArePiecesOf R l (numbers_in l (tickets_among (ticket_count l) v.numbers)) pieces
  pub claims : map pair_of v.records ≡ claims_in pieces
  pub rows_are : rows ≡ rows_in pieces
  pub faults_are : faults ≡ faults_in pieces

-- The inodes with these numbers are done: the blocks that they own are claimed, and the rows and the faults of their pieces stand behind the others.
pub record IsDone (R : Region) (l : Layout) (numbers : List ℕ) (v w : View) (old_rows rows : List Row) (old_faults faults : List Fault) : Type 0 where
  pub pieces : List Piece
  pub are : ArePiecesOf R l numbers pieces
  pub claims : Adds (claims_in pieces) v w
  pub rows_are : rows ≡ old_rows ++ rows_in pieces
  pub faults_are : faults ≡ old_faults ++ faults_in pieces

-- The same of all tickets that were drawn, the last draw being past the end.
pub record IsAllWork (R : Region) (l : Layout) (v : View) (rows : List Row) (faults : List Fault) : Type 0 where
  pub ended : 0 < past (ticket_count l) v.numbers
  pub work : IsWork R l v rows faults

-- What a worker gives back: its seat; and, unless it was refused memory, the rows and the faults of all tickets that the seat drew, the last draw being past the end.
pub record Returned (R : Region) (l : Layout) (m : MapId) (r : WorkerResult) : Type 0 where
  pub map : r.seat.map ≡ m
  pub seats : r.seat.view.seats ≡ 1
  pub ended : r.refused ≡ false → 0 < past (ticket_count l) r.seat.view.numbers
  pub work : r.refused ≡ false → IsWork R l r.seat.view r.rows.items r.faults.items
