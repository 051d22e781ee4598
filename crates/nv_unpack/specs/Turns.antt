-- In the name of which CPU calls are made.
use Rattle.std.specs.Prelude.{◌≡◌, ◌⊎◌, ℕ, ◌<◌, Some, None}
use Rattle.nv_super.specs.declared.superblock.Super.{Super}
use Rattle.nv_tree.specs.Tree.{Tree}
use Rattle.nv_history.specs.Making.{lowest_unused}
use Rattle.nv_unpack.specs.declared.maker.Maker.{Maker}
use Rattle.nv_unpack.specs.declared.maker.Maker.TheVariants as makers

-- the table of the CPU has an unused number, or can get one
abbrev pub HasNumber : Super → Tree → ℕ → Type 0
HasNumber s t cpu = (n : ℕ) × (lowest_unused s t cpu ≡ Some n)

-- no CPU's table has or gets one
abbrev pub NoneHasNumber : Super → Tree → Type 0
NoneHasNumber s t = (cpu : ℕ) → cpu < s.cpus → lowest_unused s t cpu ≡ None

-- calls that make no inode are made in the name of this CPU: the named one or, where none is named, any
abbrev pub IsMaker : Maker → Super → ℕ → Type 0
IsMaker (makers.Named named) s cpu = cpu ≡ named
IsMaker makers.Free s cpu = cpu < s.cpus

-- An inode is made in the name of this CPU: the named one or, where none is named, one whose table has an unused number or can get
-- one, if any CPU's has.
abbrev pub IsInodeMaker : Maker → Super → Tree → ℕ → Type 0
IsInodeMaker (makers.Named named) s t cpu = cpu ≡ named
IsInodeMaker makers.Free s t cpu = (cpu < s.cpus) × (HasNumber s t cpu ⊎ NoneHasNumber s t)
