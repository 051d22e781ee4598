-- Where the areas of a region lie, by the numbers of its superblock.
use Rattle.std.specs.Prelude.{◌≡◌, ◌≢◌, ◌⊎◌, ◌≤◌, ◌<◌, ◌+◌, ◌-◌, ◌*◌, ◌/◌, ◌%◌, ℕ, Bool, nat_le, nat_lt, ◌&&◌, ◌==◌, if◌then◌else◌, List, [], replicate, Option, Some, None, slice_get, unwrap_or}
use Rattle.nv_super.specs.declared.superblock.Super.{Super}

-- the first data block
abbrev pub system_blocks : Super → ℕ
system_blocks s = 1 + s.cpus + s.cpus * s.table_blocks

-- the first block of a pool; that of the pool after the last is the number of blocks
abbrev pub pool_start : Super → ℕ → ℕ
pool_start s cpu = system_blocks s + cpu * (s.blocks - system_blocks s) / s.cpus

-- the address of an inode's slot in the fixed tables
abbrev pub slot_address : Super → ℕ → ℕ
slot_address s inode = (1 + s.cpus + inode % s.cpus * s.table_blocks) * 4096 + inode / s.cpus * 128

-- the address is in a data block
abbrev pub is_data_address : Super → ℕ → Bool
is_data_address s a = nat_le (system_blocks s) (a / 4096) && nat_lt (a / 4096) s.blocks

-- a data block begins at the address
abbrev pub is_page_start : Super → ℕ → Bool
is_page_start s a = is_data_address s a && (a % 4096 == 0)

-- the numbers of inodes are below this
abbrev pub inode_limit : Super → ℕ
inode_limit s = 32 * s.cpus * s.table_blocks

-- an inode can have this number
abbrev pub is_number : Super → ℕ → Bool
is_number s i = nat_lt 0 i && nat_lt i (inode_limit s)

-- The numbers that a name may say are below this, by the version and the sizes alone. In version 2 it is as if each data
-- block were in the chain of each CPU.
abbrev pub name_limit : Super → ℕ
name_limit s = if s.version == 2 then s.cpus * (32 * s.table_blocks + 31 * (s.blocks - system_blocks s)) else inode_limit s

-- a name may say this number
abbrev pub is_name_number : Super → ℕ → Bool
is_name_number s i = nat_lt 0 i && nat_lt i (name_limit s)

-- the most blocks that a region can have
abbrev pub most_blocks : ℕ
most_blocks = 262144

-- the most pages that a file can have: as many as the greatest region has blocks
abbrev pub most_pages : ℕ
most_pages = 262144

-- the most bytes that a file can have
abbrev pub most_size : ℕ
most_size = 1073741824

-- the most links that a file can have
abbrev pub most_links : ℕ
most_links = 1000

-- numbers by which each address of the areas is small
pub record HasAreas (s : Super) : Type 0 where
  pub cpus_to : s.cpus ≤ 64
  pub tables_to : s.table_blocks ≤ 64
  pub blocks_to : s.blocks ≤ most_blocks
  pub room : system_blocks s < s.blocks

-- numbers that a sound superblock can have
pub record IsLayout (s : Super) : Type 0 where
  pub version_from : 1 ≤ s.version
  pub version_to : s.version ≤ 2
  pub cpus_from : 1 ≤ s.cpus
  pub blocks_from : 8 ≤ s.blocks
  pub blocks_to : s.blocks ≤ most_blocks
  pub tables_from : 1 ≤ s.table_blocks
  pub state : s.state ≤ 1
  pub areas : HasAreas s

-- The superblock, and for each CPU the blocks of its table's chain (none in version 1).
pub record Layout : Type 0 where
  pub sup : Super
  pub chains : List (List ℕ)

-- the chain of a CPU's table
abbrev pub chain_of : Layout → ℕ → List ℕ
chain_of l c = unwrap_or (slice_get l.chains c) []

-- the address of slot j of an extension block
abbrev pub extra_slot : ℕ → Option ℕ → Option ℕ
extra_slot j None = None
extra_slot j (Some b) = Some (b * 4096 + 128 + 128 * j)

-- The address of an inode's slot, if it has one: in the fixed table, or behind it in the chain. Number 0 has none.
abbrev pub slot_of : Layout → ℕ → Option ℕ
slot_of l i =
    let fixed = 32 * l.sup.table_blocks in
    let slot = i / l.sup.cpus in
    if i == 0 then None
    else if nat_lt slot fixed then Some (slot_address l.sup i)
    else extra_slot ((slot - fixed) % 31) (slice_get (chain_of l (i % l.sup.cpus)) ((slot - fixed) / 31))

-- the layout of fixed tables alone: the chain of each CPU is empty
abbrev pub fixed_layout : Super → Layout
fixed_layout s = record { sup = s; chains = replicate s.cpus [] }

-- Slots are whole, stand behind the journals and before the data blocks, and no two overlap.
pub record SlotsApart (l : Layout) : Type 0 where
  pub whole : (i a : ℕ) → slot_of l i ≡ Some a → a % 128 ≡ 0
  pub behind : (i a : ℕ) → slot_of l i ≡ Some a → (1 + l.sup.cpus) * 4096 ≤ a
  pub before : (i a : ℕ) → slot_of l i ≡ Some a → a + 128 ≤ 4096 * system_blocks l.sup
  pub apart : (i j a b : ℕ) → slot_of l i ≡ Some a → slot_of l j ≡ Some b → i ≢ j → (a + 128 ≤ b) ⊎ (b + 128 ≤ a)

-- the block is in the pool of this CPU
abbrev pub InPool : Super → ℕ → ℕ → Type 0
InPool s cpu b = (pool_start s cpu ≤ b) × (b < pool_start s (cpu + 1))

-- The pools are the data blocks, cut in rising pieces: each data block is in exactly one.
pub record PoolsCover (s : Super) : Type 0 where
  pub first : pool_start s 0 ≡ system_blocks s
  pub last : pool_start s s.cpus ≡ s.blocks
  pub rise : (c d : ℕ) → c ≤ d → pool_start s c ≤ pool_start s d
  pub some_pool : (b : ℕ) → system_blocks s ≤ b → b < s.blocks → (c : ℕ) × (c < s.cpus) × InPool s c b
  pub one_pool : (b c d : ℕ) → InPool s c b → InPool s d b → c ≡ d
