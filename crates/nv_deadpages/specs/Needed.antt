-- Pages that the log of an inode can't do without.
use Rattle.std.specs.Prelude.{ℕ, List}
use Rattle.std.specs.List.{Contains}
use Rattle.nv_region.specs.Region.{Region}
use Rattle.nv_super.specs.declared.superblock.Super.{Super}
use Rattle.nv_logpage.specs.declared.found.Placed.{Placed}
use Rattle.nv_deadpages.specs.Dead.{CanGo, IsSaidBy}
use Rattle.nv_scan.specs.declared.piece.Row.{Row}

-- the log of a row can't do without the entries in this page
abbrev pub IsNeeded : Region → Super → ℕ → Row → ℕ → Type 0
IsNeeded R s created row page = (es : List Placed) → IsSaidBy R s created es row → CanGo s row.kind row.inode created es page → ⊥

-- nor without those in any of these pages
abbrev pub AreNeeded : Region → Super → ℕ → Row → List ℕ → Type 0
AreNeeded R s created row pages = (page : ℕ) → Contains pages page → IsNeeded R s created row page
