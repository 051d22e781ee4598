-- Room for new inodes.
use Rattle.std.specs.Prelude.{◌≡◌, ℕ, ◌<◌, List, length, Some}
use Rattle.std.specs.List.{Contains}
use Rattle.nv_super.specs.declared.superblock.Super.{Super}
use Rattle.nv_tree.specs.Tree.{Tree}
use Rattle.nv_members.specs.Members.{IsUsed}
use Rattle.nv_history.specs.Making.{lowest_unused}
use Rattle.nv_unpack.specs.declared.maker.Maker.{Maker}
use Rattle.nv_unpack.specs.Turns.{IsInodeMaker}

-- Wherever fewer inodes than that are in use, each CPU in whose name an inode may be made has an unused number in its table, or can
-- get one.
abbrev pub HasNumbersFor : Super → Maker → ℕ → Type 0
HasNumbersFor s maker count = (t : Tree) (used : List ℕ) → length used < count → ((i : ℕ) → IsUsed t i → Contains used i)
    → (cpu : ℕ) → IsInodeMaker maker s t cpu → (n : ℕ) × (lowest_unused s t cpu ≡ Some n)
