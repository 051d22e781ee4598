-- What is wrong between inodes, told of their rows.
use Rattle.std.specs.Prelude.{◌≡◌, ◌≢◌, ℕ, ◌<◌, List, ◌∷◌, length, Some}
use Rattle.std.specs.List.{Contains}
use Rattle.nv_super.specs.Order.{Lists}
use Rattle.nv_super.specs.declared.kind.Kind.TheVariants.{File, Directory}
use Rattle.nv_super.specs.declared.faults.Fault.{Fault}
use Rattle.nv_super.specs.declared.faults.Fault.TheVariants as faults
use Rattle.nv_names.specs.Names.{name_at}
pub use Rattle.nv_scan.specs.Rows.{row_key}
use Rattle.nv_scan.specs.declared.piece.Row.{Row}

-- the row of inode d has the name, for inode i, by an add at this place
abbrev pub HasNameIn : List Row → ℕ → List ℕ → ℕ → ℕ → Type 0
HasNameIn rows d name i at = (r : Row) × Contains rows r × (r.inode ≡ d) × (name_at r.names name ≡ Some (i, at))

-- no row is the inode's
abbrev pub IsUnusedIn : List Row → ℕ → Type 0
IsUnusedIn rows i = (r : Row) → Contains rows r → r.inode ≡ i → ⊥

-- The names of an inode over all rows, as directory and name, each once.
abbrev pub AreNamesIn : List Row → ℕ → List (ℕ × List ℕ) → Type 0
AreNamesIn rows i names = Lists (λ (x : ℕ × List ℕ). x.0 ∷ x.1) (λ x. (at : ℕ) × HasNameIn rows x.0 x.1 i at) names

-- The root, and what a reached directory names, as far as it is in use.
pub data IsReachedIn (rows : List Row) : ℕ → Type 0 where
  root : (r : Row) → Contains rows r → r.inode ≡ 1 → r.kind ≡ Directory → IsReachedIn rows 1
  step : {d i : ℕ} (name : List ℕ) (at : ℕ) (r : Row) → IsReachedIn rows d → HasNameIn rows d name i at → Contains rows r → r.inode ≡ i → IsReachedIn rows i

-- What is wrong between the inodes of these rows.
pub data IsCrossFaultIn (rows : List Row) : Fault → Type 0 where
  -- a name's inode isn't in use
  c1 : {d at : ℕ} (name : List ℕ) (i : ℕ) → HasNameIn rows d name i at → IsUnusedIn rows i → IsCrossFaultIn rows (faults.C1 d at)
  -- a directory but the root isn't named exactly once
  c2 : (r : Row) (names : List (ℕ × List ℕ)) → Contains rows r → r.kind ≡ Directory → r.inode ≢ 1 → AreNamesIn rows r.inode names → length names ≢ 1 → IsCrossFaultIn rows (faults.C2 r.inode)
  -- the root directory is named
  c2_root : (r : Row) (names : List (ℕ × List ℕ)) → Contains rows r → r.kind ≡ Directory → r.inode ≡ 1 → AreNamesIn rows 1 names → 0 < length names → IsCrossFaultIn rows (faults.C2 1)
  -- a file's link count isn't its number of names
  c3 : (r : Row) (names : List (ℕ × List ℕ)) → Contains rows r → r.kind ≡ File → AreNamesIn rows r.inode names → r.numbers.links ≢ length names → IsCrossFaultIn rows (faults.C3 r.inode)
  -- in use, and not reached by names from the root
  c4 : (r : Row) → Contains rows r → (IsReachedIn rows r.inode → ⊥) → IsCrossFaultIn rows (faults.C4 r.inode)
  -- inode 1 isn't a directory in use
  c5 : ((r : Row) → Contains rows r → r.inode ≡ 1 → r.kind ≡ Directory → ⊥) → IsCrossFaultIn rows faults.C5
