-- What format refuses, and the region that it leaves: the root directory alone.
use Rattle.std.specs.Prelude.{◌≡◌, ◌≢◌, ◌⊎◌, ◌≤◌, ◌<◌, ◌+◌, ◌*◌, ◌/◌, ◌%◌, ℕ, List, length, codes}
use Rattle.nv_region.specs.Region.{Region, HasBlocks, size, word}
use Rattle.nv_region.specs.Stops.{Choices}
use Rattle.nv_super.specs.Layout.{system_blocks, slot_address, inode_limit, most_blocks, IsLayout}
use Rattle.nv_super.specs.Super.{IsSuper, IsRefused}
use Rattle.nv_super.specs.declared.superblock.SuperFault.TheVariants.{Magic}
use Rattle.nv_super.specs.declared.superblock.Super.{Super}
use Rattle.nv_inode.specs.Slot.{slot_at}
use Rattle.nv_inode.specs.declared.slot.Slot.{Slot}
use Rattle.nv_format.specs.declared.formatting.FormatRefusal.{FormatRefusal}
use Rattle.nv_format.specs.declared.formatting.FormatRefusal.TheVariants.{Length, Cpus, Tables, Stopped}

-- when each refusal applies: by the region's length, by the numbers, and a stop with any of them
abbrev pub Prevents : Region → ℕ → ℕ → FormatRefusal → Type 0
Prevents R cpus tables Length = (size R % 4096 ≢ 0) ⊎ ((size R / 4096 < 8) ⊎ (most_blocks < size R / 4096))
Prevents R cpus tables Cpus = (cpus < 1) ⊎ (64 < cpus)
Prevents R cpus tables Tables = ((tables < 1) ⊎ (64 < tables)) ⊎ (size R / 4096 ≤ 1 + cpus + cpus * tables)
Prevents R cpus tables Stopped = Unit {0}

-- the place of a refusal in the order in which they are told
abbrev pub rank : FormatRefusal → ℕ
rank Length = 1
rank Cpus = 2
rank Tables = 3
rank Stopped = 4

-- the first refusal that applies
pub record IsFormatRefusal (R : Region) (cpus tables : ℕ) (refusal : FormatRefusal) : Type 0 where
  pub applies : Prevents R cpus tables refusal
  pub first : (other : FormatRefusal) → rank other < rank refusal → Prevents R cpus tables other → ⊥

-- the numbers are right, so nothing but a stop can prevent it
abbrev pub CanFormat : Region → ℕ → ℕ → Type 0
CanFormat R cpus tables = (refusal : FormatRefusal) → rank refusal < 4 → Prevents R cpus tables refusal → ⊥

-- the name that a script prints for a refusal
abbrev pub refusal_name : FormatRefusal → List ℕ
refusal_name Length = codes "Length"
refusal_name Cpus = codes "Cpus"
refusal_name Tables = codes "Tables"
refusal_name Stopped = codes "Stopped"

-- the superblock of a region that was just formatted
abbrev pub fresh_super : Region → ℕ → ℕ → Super
fresh_super R cpus tables = record { version = 1; cpus = cpus; blocks = size R / 4096; table_blocks = tables; state = 0 }

-- the address of the root's only log page, the first data block
abbrev pub root_page : Super → ℕ
root_page s = 4096 * system_blocks s

-- the root's slot: a directory in use, whose log is one entry
abbrev pub root_slot : Super → ℕ → Slot
root_slot s time = record { valid = 1; kind = 2; head = root_page s; tail = root_page s + 32; created = time }

-- the first word of an attributes entry: its type, its length and a mode
abbrev pub attributes_word : ℕ → ℕ
attributes_word mode = 2 + 65536 * 32 + 4294967296 * mode

-- At a place stands the attributes entry of an empty directory: mode 493 (755 in octal), size 0, this time, owner and group 0.
pub record IsRootEntry (R : Region) (at time : ℕ) : Type 0 where
  pub attributes : word R at ≡ attributes_word 493
  pub empty : word R (at + 8) ≡ 0
  pub made : word R (at + 16) ≡ time
  pub owner : word R (at + 24) ≡ 0

-- a pointer of a CPU's journal
abbrev pub IsPointer : Super → ℕ → Type 0
IsPointer s a = (cpu : ℕ) × (cpu < s.cpus) × ((a ≡ 4096 * (1 + cpu)) ⊎ (a ≡ 4096 * (1 + cpu) + 8))

-- the valid word of a slot
abbrev pub IsValidWord : Super → ℕ → Type 0
IsValidWord s a = (i : ℕ) × (i < inode_limit s) × (a ≡ slot_address s i)

-- a number of the superblock, a pointer of a journal, or the valid word of a slot
abbrev pub IsSystemWord : Super → ℕ → Type 0
IsSystemWord s a = ((8 ≤ a) × (a < 48)) ⊎ (IsPointer s a ⊎ IsValidWord s a)

-- a word of the root's slot or of its only entry
abbrev pub IsRootWord : Super → ℕ → Type 0
IsRootWord s a = ((slot_address s 1 ≤ a) × (a < slot_address s 1 + 40)) ⊎ ((root_page s ≤ a) × (a < root_page s + 32))

-- a word that format stores
abbrev pub IsFormatWord : Super → ℕ → Type 0
IsFormatWord s a = (a ≡ 0) ⊎ (IsSystemWord s a ⊎ IsRootWord s a)

-- any value in a word at one of these addresses
abbrev pub AnyAt : (ℕ → Type 0) → Choices
AnyAt places i x = places (8 * i)

-- the superblock's numbers are in their words
pub record HasNumbers (R : Region) (s : Super) : Type 0 where
  pub version : word R 8 ≡ s.version
  pub cpus : word R 16 ≡ s.cpus
  pub blocks : word R 24 ≡ s.blocks
  pub table_blocks : word R 32 ≡ s.table_blocks
  pub state : word R 40 ≡ s.state

-- both pointers of each journal are 0
abbrev pub HasEmptyJournals : Region → Super → Type 0
HasEmptyJournals R s = (cpu : ℕ) → cpu < s.cpus → (word R (4096 * (1 + cpu)) ≡ 0) × (word R (4096 * (1 + cpu) + 8) ≡ 0)

-- the superblock has its numbers, the journals are empty, and no slot is in use
pub record IsEmptySystem (R : Region) (s : Super) : Type 0 where
  pub numbers : HasNumbers R s
  pub journals : HasEmptyJournals R s
  pub unused : (i : ℕ) → i < inode_limit s → word R (slot_address s i) ≡ 0

-- the root is in use, with its entry
pub record HasRoot (R : Region) (s : Super) (time : ℕ) : Type 0 where
  pub slot : slot_at R (slot_address s 1) ≡ root_slot s time
  pub entry : IsRootEntry R (root_page s) time

-- the region is formatted, but for the magic
pub record IsLaidOut (R : Region) (s : Super) (time : ℕ) : Type 0 where
  pub numbers : HasNumbers R s
  pub journals : HasEmptyJournals R s
  pub unused : (i : ℕ) → i < inode_limit s → i ≢ 1 → word R (slot_address s i) ≡ 0
  pub root : HasRoot R s time

-- The old region became the new one by format: a superblock, empty journals, no slot in use but the root's, the root's
-- entry, and each other word as before.
pub record IsFormatted (old new : Region) (s : Super) (time : ℕ) : Type 0 where
  pub as_long : length new.words ≡ length old.words
  pub same_rest : new.rest ≡ old.rest
  pub super : IsSuper new s
  pub layout : IsLayout s
  pub blocks : HasBlocks new s.blocks
  pub journals : HasEmptyJournals new s
  pub unused : (i : ℕ) → i < inode_limit s → i ≢ 1 → word new (slot_address s i) ≡ 0
  pub root : slot_at new (slot_address s 1) ≡ root_slot s time
  pub entry : IsRootEntry new (root_page s) time
  pub others : (a : ℕ) → a % 8 ≡ 0 → (IsFormatWord s a → ⊥) → word new a ≡ word old a

-- what a stop may leave of format: the region before it, one that is refused for its magic, or the new one
abbrev pub FormatLeaves : Region → Super → ℕ → Region → Type 0
FormatLeaves old s time left = (left ≡ old) ⊎ (IsRefused left Magic ⊎ IsFormatted old left s time)

-- the region before, the superblock and the time determine each word that format leaves
abbrev pub FormatIsDetermined : Type 0
FormatIsDetermined = (old new other : Region) (s : Super) (time : ℕ) → IsFormatted old new s time → IsFormatted old other s time → new ≡ other
