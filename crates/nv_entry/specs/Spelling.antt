-- The table of entries: what words spell an entry.
use Rattle.std.specs.Prelude.{◌≡◌, ℕ, ◌+◌, ◌*◌, ◌/◌, ◌<◌, ◌^◌, List, length, slice_index}
use Rattle.nv_region.specs.Region.{Region, word, region_of}
use Rattle.nv_entry.specs.Text.{text_word}
use Rattle.nv_entry.specs.Name.{IsName}
use Rattle.nv_entry.specs.declared.entry.Operation.{Operation}
use Rattle.nv_entry.specs.declared.entry.Operation.TheVariants.{Add, Remove}
use Rattle.nv_entry.specs.declared.entry.WriteEntry.{WriteEntry}
use Rattle.nv_entry.specs.declared.entry.AttrEntry.{AttrEntry}
use Rattle.nv_entry.specs.declared.entry.NameEntry.{NameEntry}
use Rattle.nv_entry.specs.declared.entry.LinksEntry.{LinksEntry}
use Rattle.nv_entry.specs.declared.entry.Entry.{Entry}
use Rattle.nv_entry.specs.declared.entry.Entry.TheVariants.{NextPage, Write, Attr, Name, Links}

-- byte 0 the type, byte 1 the operation, bytes 2 and 3 the length, bytes 4 to 7 the number
abbrev pub first_word : ℕ → ℕ → ℕ → ℕ → ℕ
first_word kind operation len number = kind + 256 * operation + 65536 * len + 4294967296 * number

-- byte 1 of a name entry
abbrev pub operation_code : Operation → ℕ
operation_code Add = 1
operation_code Remove = 2

-- how many words n bytes take
abbrev pub words_for : ℕ → ℕ
words_for n = (n + 7) / 8

-- the words from a on are the name's, with zeros behind its last byte
abbrev pub IsTextAt : Region → ℕ → List ℕ → Type 0
IsTextAt region a name = (k : ℕ) → 8 * k < length name → word region (a + 8 * k) ≡ text_word name (8 * k)

-- words of a write entry: its pages, its blocks, the size after it
pub record IsWriteAt (region : Region) (at : ℕ) (e : WriteEntry) : Type 0 where
  pub first : word region at ≡ first_word 1 0 40 e.count
  pub offset : word region (at + 8) ≡ e.offset
  pub block : word region (at + 16) ≡ e.block
  pub size : word region (at + 24) ≡ e.size
  pub time : word region (at + 32) ≡ e.time

-- words of an attributes entry; owner and group share a word
pub record IsAttrAt (region : Region) (at : ℕ) (e : AttrEntry) : Type 0 where
  pub first : word region at ≡ first_word 2 0 32 e.mode
  pub size : word region (at + 8) ≡ e.size
  pub time : word region (at + 16) ≡ e.time
  pub owners : word region (at + 24) ≡ e.owner + 4294967296 * e.group
  pub owner : e.owner < 2 ^ 32

-- words of a name entry; its length follows from the name's
pub record IsNameAt (region : Region) (at : ℕ) (e : NameEntry) : Type 0 where
  pub first : word region at ≡ first_word 3 (operation_code e.operation) (24 + 8 * words_for (length e.name)) (length e.name)
  pub inode : word region (at + 8) ≡ e.inode
  pub time : word region (at + 16) ≡ e.time
  pub name : IsTextAt region (at + 24) e.name
  pub is_name : IsName e.name

-- words of a links entry, the last of them zero
pub record IsLinksAt (region : Region) (at : ℕ) (e : LinksEntry) : Type 0 where
  pub first : word region at ≡ first_word 4 0 24 e.count
  pub time : word region (at + 8) ≡ e.time
  pub zero_word : word region (at + 16) ≡ 0

-- the entry's spelling stands in the region at a place
abbrev pub Stands : Region → ℕ → Entry → Type 0
Stands region at NextPage = word region at ≡ first_word 0 0 8 0
Stands region at (Write e) = IsWriteAt region at e
Stands region at (Attr e) = IsAttrAt region at e
Stands region at (Name e) = IsNameAt region at e
Stands region at (Links e) = IsLinksAt region at e

-- how many bytes an entry takes
abbrev pub entry_length : Entry → ℕ
entry_length NextPage = 8
entry_length (Write _) = 40
entry_length (Attr _) = 32
entry_length (Name e) = 24 + 8 * words_for (length e.name)
entry_length (Links _) = 24

-- these bytes, no more and no fewer, spell the entry
pub record Spells (bytes : List ℕ) (e : Entry) : Type 0 where
  pub words : Stands (region_of bytes) 0 e
  pub len : length bytes ≡ entry_length e
  pub each_byte : (i : ℕ) → slice_index bytes i < 256
