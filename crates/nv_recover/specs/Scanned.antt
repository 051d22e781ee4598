-- What a scan of all inodes gives, whichever way it goes.
use Rattle.std.specs.Prelude.{◌≡◌, ℕ, ◌*◌, ◌/◌, ◌<◌, ◌≤◌, ◌-◌, min, List, ◌++◌, length, map, Vec, if◌then◌else◌}
use Rattle.std.specs.declared.alloc.Global.{Global}
use Rattle.std.specs.List.{All, flat_map, range_with_len}
use Rattle.std.specs.List.Sorted.{IsPermutation}
use Rattle.nv_blockset.specs.BlockSet.{is_set, has, with_block}
use Rattle.nv_region.specs.Region.{Region}
use Rattle.nv_super.specs.declared.superblock.Super.{Super}
use Rattle.nv_super.specs.declared.owners.Owner.{Owner}
use Rattle.nv_super.specs.declared.faults.Fault.{Fault}
use Rattle.nv_super.specs.Layout.{Layout}
use Rattle.nv_super.specs.Order.{fault_key, Lists}
use Rattle.nv_claimcore.specs.Finished.{works_of}
use Rattle.nv_claimmap.specs.declared.map.Claimed.{Claimed}
use Rattle.nv_scan.specs.Owners.{AreAllClaims}
use Rattle.nv_scan.specs.Rows.{HasRows}
use Rattle.nv_scan.specs.Work.{numbers_in, claims_in, ArePiecesOf}
use Rattle.nv_scan.specs.declared.inodes.Inodes.{Inodes}
use Rattle.nv_scan.specs.declared.inodes.ListedInodes.{ListedInodes}
use Rattle.nv_scan.specs.declared.piece.Row.{Row}
use Rattle.nv_scan.specs.declared.piece.Piece.{Piece}
use Rattle.nv_cross_check.specs.Cross.{IsCrossFaultIn}
use Rattle.nv_cross_check.specs.Doubled.{AreDoubled}
use Rattle.nv_outcome.specs.Parts.{ArePieces, AreMaps, rows_in, faults_in, double_fault}
use Rattle.nv_recover.specs.declared.scanned.Owned.{Owned}
use Rattle.nv_recover.specs.declared.scanned.Scanned.{Scanned}

-- ---- the inodes by themselves

-- The pieces are those of all inodes of the region; kept are their rows and their faults, in any order.
pub record AreInodes (R : Region) (l : Layout) (pieces : List Piece) (x : ListedInodes) : Type 0 where
  pub pieces_are : ArePieces R l pieces
  pub rows : IsPermutation (rows_in pieces) x.rows.items
  pub faults : IsPermutation (faults_in pieces) x.faults.items

-- the claims in these lists, one list after the other
abbrev pub all_claims : List (Vec (ℕ × Owner) Global) → List (ℕ × Owner)
all_claims lists = flat_map (λ (v : Vec (ℕ × Owner) Global). v.items) lists

-- The pieces are those of the inodes of the first tickets, so many; kept are their rows and their faults.
pub record AreFirst (R : Region) (l : Layout) (tickets : ℕ) (pieces : List Piece) (x : Inodes) : Type 0 where
  pub are : ArePiecesOf R l (numbers_in l (range_with_len 0 tickets)) pieces
  pub rows : x.rows.items ≡ rows_in pieces
  pub faults : x.faults.items ≡ faults_in pieces

-- Pieces of the inodes of the first tickets, with a list of claims for each ticket.
pub record AreOfTickets (R : Region) (l : Layout) (tickets : ℕ) (x : Inodes) (work : List (Vec (ℕ × Owner) Global)) : Type 0 where
  pub pieces : List Piece
  pub first : AreFirst R l tickets pieces x
  pub lists_are : length work ≡ tickets
  pub claims_are : all_claims work ≡ claims_in pieces

-- ---- what they claim

-- each claim is of a block of the region
abbrev pub AreWithin : Super → List (ℕ × Owner) → Type 0
AreWithin s claims = All (λ (x : ℕ × Owner). x.0 < s.blocks) claims

-- the sets have a bit for each block of the region
abbrev pub Cover : Super → List ℕ → List ℕ → Type 0
Cover s first second = (s.blocks ≤ 64 * length first) × (s.blocks ≤ 64 * length second)

-- The claims are those of the pieces, in any order, and the sets are those of the claims, with a bit for each block.
pub record AreClaimed (s : Super) (pieces : List Piece) (c : Claimed) : Type 0 where
  pub claimed : IsPermutation (claims_in pieces) c.claims.items
  pub maps : AreMaps c.claims.items c.first.items c.second.items
  pub cover : Cover s c.first.items c.second.items

-- The sets have a bit for each block: in the first are the blocks of this work, in the second those that stand in it twice or more.
pub record AreClaimedSets (s : Super) (work : List (List (ℕ × Owner))) (first second : List ℕ) : Type 0 where
  pub cover : Cover s first second
  pub once : (b : ℕ) → has first b ≡ min 1 (works_of b work)
  pub twice : (b : ℕ) → has second b ≡ min 1 (works_of b work - 1)

-- both sets have a bit for the block of a claim
abbrev pub Fits : List ℕ → List ℕ → ℕ × Owner → Type 0
Fits first second x = (x.0 / 64 < length first) × (x.0 / 64 < length second)

-- Where the old sets are those of some claims, the new ones are those of the same claims and of these.
abbrev pub TakeIn : List (ℕ × Owner) → List ℕ → List ℕ → List ℕ → List ℕ → Type 0
TakeIn claims old_first old_second new_first new_second = (before : List (ℕ × Owner)) → AreMaps before old_first old_second → AreMaps (before ++ claims) new_first new_second

-- the second set after a claim: with the block, where it is in the first set already
abbrev pub second_after : List ℕ → List ℕ → ℕ → List ℕ
second_after first second b = if is_set first b then with_block second b else second

-- The pieces claim all that is owned in the region, there is a row for each inode in use, and the sets are those of the claims,
-- with a bit for each block.
pub record AreSetsOf (R : Region) (l : Layout) (pieces : List Piece) (rows : List Row) (first second : List ℕ) : Type 0 where
  pub all : AreAllClaims R l (claims_in pieces)
  pub rows_are : HasRows R l rows
  pub maps : AreMaps (claims_in pieces) first second
  pub cover : Cover l.sup first second

-- The blocks that these pieces claim, with a bit for each block of the region, and the claims of those that are claimed twice or more.
pub record AreOwned (s : Super) (pieces : List Piece) (o : Owned) : Type 0 where
  pub claims : List (ℕ × Owner)
  pub second : List ℕ
  pub claimed : IsPermutation (claims_in pieces) claims
  pub maps : AreMaps claims o.blocks.items second
  pub cover : s.blocks ≤ 64 * length o.blocks.items
  pub doubled : AreDoubled claims second o.doubled.items

-- ---- all of it

-- All inodes of the region by themselves, what they own, and what is wrong between them.
pub record IsScanned (R : Region) (l : Layout) (x : Scanned) : Type 0 where
  pub pieces : List Piece
  pub inodes : AreInodes R l pieces x.inodes
  pub owned : AreOwned l.sup pieces x.owned
  pub cross : Lists fault_key (IsCrossFaultIn x.inodes.rows.items) x.cross.items

-- all faults that are told: of the journals, of the chains, of the inodes, between them, and of doubled blocks
abbrev pub all_told : List Fault → List Fault → List Fault → List Fault → List (ℕ × Owner) → List Fault
all_told journal chained own cross doubled = journal ++ (chained ++ (own ++ (cross ++ map double_fault doubled)))
