-- The row of an inode in use, and all that is found of one inode.
use Rattle.std.specs.Prelude.{◌≡◌, ℕ, ◌+◌, List, [], ◌∷◌}
use Rattle.std.specs.Option.{MatchOption}
use Rattle.std.specs.List.{Contains}
use Rattle.nv_region.specs.Region.{Region, word}
use Rattle.nv_super.specs.Layout.{Layout}
use Rattle.nv_logpage.specs.declared.found.Placed.{Placed}
use Rattle.nv_radix.specs.Pages.{block_at}
use Rattle.nv_names.specs.Names.{name_at}
use Rattle.nv_scan.specs.State.{size_of, mode_of, owner_of, group_of, links_of, time_of, block_of, named}
use Rattle.nv_scan.specs.Inode.{Log, IsInode, IsInUse, good_of}
use Rattle.nv_scan.specs.Owners.{AreClaims}
use Rattle.nv_scan.specs.Faults.{HasOnce, IsFaultOf}
use Rattle.nv_scan.specs.declared.numbers.Numbers.{Numbers}
use Rattle.nv_scan.specs.declared.piece.Row.{Row}
use Rattle.nv_scan.specs.declared.piece.Piece.{Piece}

-- the numbers are the last words of these good entries
pub record AreNumbers (created : ℕ) (good : List Placed) (n : Numbers) : Type 0 where
  pub size : n.size ≡ size_of good
  pub mode : n.mode ≡ mode_of good
  pub owner : n.owner ≡ owner_of good
  pub group : n.group ≡ group_of good
  pub links : n.links ≡ links_of good
  pub time : n.time ≡ time_of created good

-- The row is what an inode's slot and its log say: its indexes are compared by what each page and each name stands for.
pub record IsRow (R : Region) (l : Layout) (a : ℕ) (log : Log) (row : Row) : Type 0 where
  pub inode : IsInode R l row.inode a log
  pub kind : row.kind ≡ log.kind
  pub numbers : AreNumbers (word R (a + 32)) (good_of l log) row.numbers
  pub head : row.head ≡ word R (a + 16)
  pub tail : row.tail ≡ word R (a + 24)
  pub pages : row.pages.items ≡ log.pages
  pub index : (p : ℕ) → block_at row.index p ≡ block_of (good_of l log) p
  pub names : (q : List ℕ) → name_at row.names q ≡ named (good_of l log) q

-- a row for each inode in use, in any order
pub record HasRows (R : Region) (l : Layout) (rows : List Row) : Type 0 where
  pub each : (row : Row) → Contains rows row → (a : ℕ) × (log : Log) × IsRow R l a log row
  pub all : (i : ℕ) → IsInUse R l i → (row : Row) × Contains rows row × (row.inode ≡ i)

-- rows are ordered by inode
abbrev pub row_key : Row → List ℕ
row_key r = r.inode ∷ []

-- The row of an inode in use, the blocks that it owns, and what is wrong with it alone.
pub record IsPiece (R : Region) (l : Layout) (p : Piece) : Type 0 where
  pub row : MatchOption p.row (IsInUse R l p.inode → ⊥) (λ row. (row.inode ≡ p.inode) × (a : ℕ) × (log : Log) × IsRow R l a log row)
  pub claims : AreClaims R l p.inode p.claims.items
  pub faults : HasOnce (IsFaultOf R l p.inode) p.faults.items
