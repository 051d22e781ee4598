-- What calls make of a tree, one after the other.
use Rattle.std.specs.Prelude.{◌≡◌, ℕ, ◌+◌, ◌-◌, ◌*◌, ◌==◌, if◌then◌else◌, Bool, true, false, not, nat_eq, ◌&&◌, ◌||◌, is_none, List, [], ◌∷◌, Option, Some, slice_get}
use Rattle.std.specs.List.{find, list_any}
use Rattle.nv_super.specs.Layout.{Layout, chain_of, system_blocks}
use Rattle.nv_super.specs.declared.superblock.Super.{Super}
use Rattle.nv_super.specs.declared.kind.Kind.TheVariants.{File, Directory}
use Rattle.nv_bytes.specs.Data.{data_bytes}
use Rattle.nv_inode.specs.Upgraded.{upgraded}
use Rattle.nv_rows.specs.Unused.{first_numbers}
use Rattle.nv_tree.specs.Path.{IsPath}
use Rattle.nv_tree.specs.Tree.{Tree, SameTree}
use Rattle.nv_tree.specs.Calls.{attributed, created, linked, removed, renamed, resized, unlinked, written}
use Rattle.nv_history.specs.declared.calls.Call.{Call}
use Rattle.nv_history.specs.declared.calls.Call.TheVariants.{Create, MakeDirectory, Write, SetSize, SetAttributes, Link, Unlink, RemoveDirectory, Rename, Clean, Upgrade}
use Rattle.nv_history.specs.Said as saids
use Rattle.nv_history.specs.Said.{Said, said}

-- ---- new numbers

-- how many slots the table of a CPU can have: those of the fixed table, and in version 2 31 for each data block
abbrev pub most_slots : Super → ℕ
most_slots s = 32 * s.table_blocks + (if s.version == 2 then 31 * (s.blocks - system_blocks s) else 0)

-- the numbers that the table of a CPU can ever have, rising
abbrev pub most_numbers : Super → ℕ → List ℕ
most_numbers s cpu = first_numbers s.cpus (most_slots s) cpu

-- a number that a new inode can get
abbrev pub is_unused_in : Tree → ℕ → Bool
is_unused_in t i = not (nat_eq i 0) && is_none (t i)

-- The lowest of those that the table of a CPU can have. Which of them have a slot doesn't matter, since the table grows for the first
-- that has none.
abbrev pub lowest_unused : Super → Tree → ℕ → Option ℕ
lowest_unused s t cpu = find (is_unused_in t) (most_numbers s cpu)

-- ---- one call

-- The text says a path, and nobody can tell the tree from the one that is made by its names.
abbrev pub ByPath : List ℕ → (List (List ℕ) → Tree) → Tree → Type 0
ByPath text made u = (names : List (List ℕ)) × IsPath text names × SameTree u (made names)

-- the same of two texts
abbrev pub ByPaths : List ℕ → List ℕ → (List (List ℕ) → List (List ℕ) → Tree) → Tree → Type 0
ByPaths old new made u = (names : List (List ℕ)) × (others : List (List ℕ)) × IsPath old names × IsPath new others × SameTree u (made names others)

-- the second tree is what a call makes of the first, by the superblock
abbrev pub IsMadeBy : Super → Call → Tree → Tree → Type 0
IsMadeBy s (Create cpu path mode time) t u = ByPath path.now (λ names. created File (lowest_unused s t cpu) names mode time t) u
IsMadeBy s (MakeDirectory cpu path mode time) t u = ByPath path.now (λ names. created Directory (lowest_unused s t cpu) names mode time t) u
IsMadeBy s (Write cpu path offset content time) t u = ByPath path.now (λ names. written names offset (data_bytes content) time t) u
IsMadeBy s (SetSize cpu path size time) t u = ByPath path.now (λ names. resized names size time t) u
IsMadeBy s (SetAttributes cpu path mode owner group time) t u = ByPath path.now (λ names. attributed names mode owner group time t) u
IsMadeBy s (Link cpu old new time) t u = ByPaths old.now new.now (λ names others. linked names others time t) u
IsMadeBy s (Unlink cpu path time) t u = ByPath path.now (λ names. unlinked names time t) u
IsMadeBy s (RemoveDirectory cpu path time) t u = ByPath path.now (λ names. removed names time t) u
IsMadeBy s (Rename cpu old new time) t u = ByPaths old.now new.now (λ names others. renamed names others time t) u
IsMadeBy s (Clean path) t u = ByPath path.now (λ names. t) u
IsMadeBy s Upgrade t u = SameTree u t

-- ---- the superblock and the tables

-- the superblock behind a call: `upgrade` makes it that of version 2, and no other call changes it
abbrev pub super_behind : Super → Said → Super
super_behind s saids.Upgrade = upgraded s
super_behind s _ = s

-- the same of several, one after the other
abbrev pub supers_behind : Super → List Call → Super
supers_behind s [] = s
supers_behind s (call ∷ calls) = supers_behind (super_behind s (said call)) calls

-- whether a call is `upgrade`
abbrev pub is_upgrade : Said → Bool
is_upgrade saids.Upgrade = true
is_upgrade _ = false

-- whether one of several is
abbrev pub has_upgrade : List Call → Bool
has_upgrade calls = list_any (λ call. is_upgrade (said call)) calls

-- whether a call may let a table grow: in version 2 one that makes an inode
abbrev pub grows_tables : Super → Said → Bool
grows_tables s (saids.Create cpu path mode time) = s.version == 2
grows_tables s (saids.MakeDirectory cpu path mode time) = s.version == 2
grows_tables s _ = false

-- the same of one of several calls
abbrev pub grow_tables : Super → List Call → Bool
grow_tables s [] = false
grow_tables s (call ∷ calls) = grows_tables s (said call) || grow_tables (super_behind s (said call)) calls

-- each block of a chain stays at its place, and more may come behind them
abbrev pub ChainsGrow : Layout → Layout → Type 0
ChainsGrow old new = (cpu k block : ℕ) → slice_get (chain_of old cpu) k ≡ Some block → slice_get (chain_of new cpu) k ≡ Some block

-- the tables that calls may leave: chains only grow, and none does where no call lets a table grow
abbrev pub MayHaveGrown : Super → List Call → Layout → Layout → Type 0
MayHaveGrown s calls old new = ChainsGrow old new × (grow_tables s calls ≡ false → new.chains ≡ old.chains)

-- ---- runs

-- The second tree is what calls make of the first, one after the other, each by the superblock that the one before it leaves. With no
-- call nobody can tell the two trees apart.
pub data AreMade : Super → List Call → Tree → Tree → Type 0 where
  none : (s : Super) (t u : Tree) → SameTree u t → AreMade s [] t u
  more : (call : Call) (calls : List Call) (s : Super) (t v u : Tree) → IsMadeBy s call t v → AreMade (super_behind s (said call)) calls v u → AreMade s (call ∷ calls) t u
