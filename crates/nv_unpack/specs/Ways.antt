-- The directories above a place.
use Rattle.std.specs.Prelude.{◌≡◌, ◌⊎◌, ℕ, ◌+◌, nat_lt, ◌&&◌, Bool, true, false, List, [], ◌∷◌, map, take, slice_index}
use Rattle.nv_super.specs.declared.superblock.Super.{Super}
use Rattle.nv_tree.specs.Path.{is_slash}
use Rattle.nv_tree.specs.Tree.{Tree}
use Rattle.nv_session.specs.Machine.{directory_mode}
use Rattle.nv_changes.specs.Calls.{IsThere}
use Rattle.nv_history.specs.Making.{AreMade}
use Rattle.nv_history.specs.declared.calls.Call.{Call}
use Rattle.nv_unpack.specs.declared.maker.Maker.{Maker}
use Rattle.nv_history.specs.Said.{said, MakeDirectory}
use Rattle.nv_unpack.specs.Turns.{IsInodeMaker}

-- a directory above a place ends in front of the byte at this index
abbrev pub ends_above : List ℕ → ℕ → Bool
ends_above text k = nat_lt 0 k && is_slash (slice_index text k)

-- One call, which makes a directory at a path, in the name of a CPU that may.
pub record IsDirectoryCall (s : Super) (maker : Maker) (path : List ℕ) (time : ℕ) (t : Tree) (calls : List Call) : Type 0 where
  pub cpu : ℕ
  pub may : IsInodeMaker maker s t cpu
  pub says : map said calls ≡ MakeDirectory cpu path directory_mode time ∷ []

-- a directory above a place ends there and is missing, and this call makes it
abbrev pub IsWayCall : Super → Maker → ℕ → List ℕ → ℕ → Tree → List Call → Type 0
IsWayCall s maker time text k t calls = (ends_above text k ≡ true) × (¬ IsThere t (take k text)) × IsDirectoryCall s maker (take k text) time t calls

-- The second tree is the first with the directories above a place that end within so many bytes of its text: each that is
-- missing was made.
pub data MakesWay (s : Super) (maker : Maker) (time : ℕ) (text : List ℕ) : ℕ → Tree → Tree → Type 0 where
  none : (t : Tree) → MakesWay s maker time text 0 t t
  passes : (k : ℕ) (t u : Tree) → (ends_above text k ≡ false) ⊎ IsThere u (take k text) → MakesWay s maker time text k t u → MakesWay s maker time text (k + 1) t u
  makes : (k : ℕ) (t v u : Tree) (calls : List Call) → IsWayCall s maker time text k v calls → AreMade s calls v u → MakesWay s maker time text k t v
      → MakesWay s maker time text (k + 1) t u

-- ---- within

-- what is made for the byte at an index: nothing, or a directory
abbrev pub MakesAbove : Super → Maker → ℕ → List ℕ → ℕ → Tree → Tree → Type 0
MakesAbove s maker time text k t u = (((ends_above text k ≡ false) ⊎ IsThere u (take k text)) × (t ≡ u))
    ⊎ ((calls : List Call) × IsWayCall s maker time text k t calls × AreMade s calls t u)
