-- The entries of a log without which it says the same of its inode, and by which entry each became so.
use Rattle.std.specs.Prelude.{◌≡◌, ◌+◌, ◌<◌, ℕ, List, length, take, get_or, slice_get, Some}
use Rattle.std.specs.List.{remove}
use Rattle.nv_super.specs.declared.superblock.Super.{Super}
use Rattle.nv_super.specs.declared.kind.Kind.{Kind}
use Rattle.nv_logpage.specs.declared.found.Placed.{Placed}
use Rattle.nv_logpage.specs.Good.{good_entries}
use Rattle.nv_deadpages.specs.Dead.{SameState}
use Rattle.nv_inspect.specs.declared.fate.Fate.{Fate}
use Rattle.nv_inspect.specs.declared.fate.Fate.TheVariants.{Stands, ChangesNothing, DeadBy}

-- The entry at this place among the entries of a log is dead: the state of the inode is the same without it.
pub record IsDead (s : Super) (kind : Kind) (created : ℕ) (es : List Placed) (k : ℕ) : Type 0 where
  pub there : k < length es
  pub same : SameState created (good_entries s kind es) (good_entries s kind (remove es k))

-- It is so among the entries up to this one, and not among fewer.
pub record IsDeadFrom (s : Super) (kind : Kind) (created : ℕ) (es : List Placed) (k m : ℕ) : Type 0 where
  pub to : m < length es
  pub dead : IsDead s kind created (take (m + 1) es) k
  pub first : (j : ℕ) → j < m → IsDead s kind created (take (j + 1) es) k → ⊥

-- It is so from a later entry on, which stands at this address.
pub record IsDeadBy (s : Super) (kind : Kind) (created : ℕ) (es : List Placed) (k at : ℕ) : Type 0 where
  pub by : ℕ
  pub later : k < by
  pub from : IsDeadFrom s kind created es k by
  pub killer : Placed
  pub is : slice_get es by ≡ Some killer
  pub place : killer.at ≡ at

-- what became of the entry at this place: it is dead exactly where it doesn't stand
abbrev pub IsFate : Super → Kind → ℕ → List Placed → ℕ → Fate → Type 0
IsFate s kind created es k Stands = IsDead s kind created es k → ⊥
IsFate s kind created es k ChangesNothing = IsDead s kind created es k × IsDeadFrom s kind created es k k
IsFate s kind created es k (DeadBy at) = IsDead s kind created es k × IsDeadBy s kind created es k at

-- one for each entry
pub record AreFates (s : Super) (kind : Kind) (created : ℕ) (es : List Placed) (fates : List Fate) : Type 0 where
  pub long : length fates ≡ length es
  pub each : (k : ℕ) → k < length es → IsFate s kind created es k (get_or fates k Stands)
