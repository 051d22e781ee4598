-- What a contract sees of `Tables`.
use Rattle.std.specs.Prelude.{◌≡◌, ℕ, ◌-◌, ◌*◌, ◌<◌, nat_le, if◌then◌else◌, List, [], map, length, get_or, vec_len, vec_capacity}
use Rattle.std.specs.Global.{Vec}
use Rattle.nv_blockset.specs.BlockSet.{is_set}
use Rattle.nv_super.specs.declared.superblock.Super.{Super}
use Rattle.nv_super.specs.declared.faults.Fault.{Fault}
use Rattle.nv_super.specs.Layout.{Layout}
use Rattle.nv_inode.specs.Chains.{IsLaid, in_chains}

-- the layout, what is wrong with the ends of its chains, and for how many blocks more the chain of each CPU has memory
pub record TableChains : Type 0 where
  pub layout : Layout
  pub faults : List Fault
  pub rooms : List ℕ

-- the chain of this CPU takes a block more without memory
abbrev pub HasRoom : TableChains → ℕ → Type 0
HasRoom tables cpu = 0 < get_or tables.rooms cpu 0

-- the chains as lists
abbrev pub lists_of : List (Vec ℕ) → List (List ℕ)
lists_of chains = map (λ (chain : Vec ℕ). chain.items) chains

-- the layout with these chains
abbrev pub laid : Super → List (Vec ℕ) → Layout
laid s chains = record { sup = s; chains = lists_of chains }

-- how many items more these take without memory
abbrev pub spare : Vec ℕ → ℕ
spare items = vec_capacity items - vec_len items

-- The same of each chain, where the set of the chains' blocks has room for all blocks of the region. Else no chain has room.
abbrev pub rooms_of : Super → List (Vec ℕ) → List ℕ → List ℕ
rooms_of s chains marks = if nat_le s.blocks (64 * length marks) then map spare chains else []

-- A layout that a region can have, and the set of the blocks of its chains.
pub record AreTables (l : Layout) (marks : List ℕ) : Type 0 where
  pub laid : IsLaid l
  pub marked : (b : ℕ) → is_set marks b ≡ in_chains l.chains b
