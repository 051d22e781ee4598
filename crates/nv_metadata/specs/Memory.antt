-- The memory of an image's metadata, as its contracts see it.
use Rattle.std.specs.Prelude.{◌≡◌, ◌≤◌, ◌<◌, ◌+◌, ◌*◌, ◌/◌, ◌%◌, ℕ, if◌then◌else◌, List, [], take, drop, get_or, length, map, false, nat_lt, vec_items}
use Rattle.std.specs.List.{range_with_len}
use Rattle.byteorder.specs.Endian.{little_number}
use Rattle.nv_region.specs.Region.{Region, word, words_of, HasBlocks}
use Rattle.nv_super.specs.declared.superblock.Super.{Super}
use Rattle.nv_super.specs.Layout.{most_blocks, system_blocks}
use Rattle.nv_super.specs.Super.{IsSuper}
use Rattle.nv_region.specs.ImageState.{ImageState}
use Rattle.nv_inode.specs.Permitted.{slots_end}
use Rattle.nv_journal.specs.Undone.{SameBefore}
use Rattle.nv_metadata.specs.declared.memory.MetadataRegion.TheInside.{Inside}
use Rattle.nv_metadata.specs.declared.places.Place.{Place}
use Rattle.nv_metadata.specs.Places.{nowhere}

-- The region as it reads, of which only the front takes stores, and of each block how many bytes of it are held, from its first on.
pub record MetadataState : Type 0 where
  pub memory : ImageState
  pub counts : List ℕ

-- How many bytes of a block are held: none, or those from its first on.
abbrev pub held : MetadataState → ℕ → ℕ
held m b = get_or m.counts b 0

-- the bytes that have this place in parts
abbrev pub piece_at : List (List ℕ) → Place → List ℕ
piece_at parts p = take p.count (drop p.start (get_or parts p.part []))

-- and those of a block, of which the table says its place
abbrev pub piece_of : List Place → List (List ℕ) → ℕ → List ℕ
piece_of places parts b = piece_at parts (get_or places b nowhere)

-- a word of blocks that begin with these bytes each: 0 behind them
abbrev pub piece_word : (ℕ → List ℕ) → ℕ → ℕ
piece_word piece i = if nat_lt (8 * (i % 512)) (length (piece (i / 512))) then little_number 8 (drop (8 * (i % 512)) (piece (i / 512))) else 0

-- the region of so many blocks that begin with these bytes each, and else has zeros
abbrev pub pieced : ℕ → (ℕ → List ℕ) → Region
pieced blocks piece = record { words = map (λ i. piece_word piece i) (range_with_len 0 (512 * blocks)); rest = [] }

-- a place has whole words, among the bytes of a part that there is
pub record IsPlaced (parts : List (List ℕ)) (p : Place) : Type 0 where
  pub whole : p.count % 8 ≡ 0
  pub among : p.part < length parts
  pub inside : p.start + p.count ≤ length (get_or parts p.part [])

-- The front is whole words within the region, and each block has a place. Behind what stands there are zeros.
pub record HasPieces (m : Inside) : Type 0 where
  pub front : length (words_of m.front.items) ≤ 512 * m.blocks
  pub front_whole : length m.front.items % 8 ≡ 0
  pub blocks : m.blocks ≤ most_blocks
  pub places : length m.places ≡ m.blocks
  pub placed : (b : ℕ) → IsPlaced (map vec_items m.parts.items) (get_or m.places b nowhere)

-- The memory shows another region: it is as long, and has the same words in its front and in what it holds of other blocks.
-- Elsewhere it has zeros.
pub record Shows (R : Region) (m : MetadataState) : Type 0 where
  pub as_long : length m.memory.region.words ≡ length R.words
  pub rest_as_long : length m.memory.region.rest ≡ length R.rest
  pub front : SameBefore m.memory.front R m.memory.region
  pub pieces : (at : ℕ) → at % 8 ≡ 0 → m.memory.front ≤ at → at % 4096 < held m (at / 4096) → word m.memory.region at ≡ word R at
  pub zeros : (at : ℕ) → at % 8 ≡ 0 → m.memory.front ≤ at → held m (at / 4096) ≤ at % 4096 → word m.memory.region at ≡ 0

-- Data blocks can be held: the memory has this superblock, and its front ends where they begin or before.
pub record CanHold (s : Super) (m : MetadataState) : Type 0 where
  pub blocks : HasBlocks m.memory.region s.blocks
  pub few : s.blocks ≤ most_blocks
  pub superblock : IsSuper m.memory.region s
  pub front : m.memory.front ≤ 4096 * system_blocks s

-- the same stores are taken: the front is as long, and no fuse has burnt since
abbrev pub SameFront : MetadataState → MetadataState → Type 0
SameFront old new = (new.memory.front ≡ old.memory.front) × (new.memory.burnt ≡ old.memory.burnt)

-- The memory has this superblock, and takes stores just where slots can stand: in version 1 in front of the data blocks.
pub record IsReady (s : Super) (m : MetadataState) : Type 0 where
  pub blocks : HasBlocks m.memory.region s.blocks
  pub few : s.blocks ≤ most_blocks
  pub superblock : IsSuper m.memory.region s
  pub front : m.memory.front ≡ 4096 * slots_end s
  pub unburnt : m.memory.burnt ≡ false
