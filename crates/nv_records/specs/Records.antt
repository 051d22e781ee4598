-- The pending records of journals, each with the word that it names.
use Rattle.std.specs.Prelude.{◌≡◌, ◌≢◌, ◌<◌, ◌+◌, ◌*◌, ℕ, zero, suc, false, List, [], ◌∷◌, ◌++◌, map, if◌then◌else◌, Option, Some, None, slice_get, ⊤}
use Rattle.std.specs.List.{range_with_len}
use Rattle.nv_region.specs.Region.{Region, word}
use Rattle.nv_super.specs.declared.superblock.Super.{Super}
use Rattle.nv_super.specs.Layout.{Layout, slot_of}
use Rattle.nv_inode.specs.Chains.{layout_of}
use Rattle.nv_inode.specs.Permitted.{is_permitted_by}
use Rattle.nv_inode.specs.SlotBlocks.{slot_blocks}
use Rattle.nv_inode.specs.declared.blocks.SlotBlock.{SlotBlock}
use Rattle.nv_journal.specs.Undo.{is_sound, number_of, pending_count, pending_of, record_at}
use Rattle.nv_records.specs.declared.naming.NamedWord.{NamedWord}
use Rattle.nv_records.specs.declared.naming.SlotPart.{SlotPart}
use Rattle.nv_records.specs.declared.naming.SlotPart.TheVariants.{Valid, Head, Tail}
use Rattle.nv_records.specs.declared.records.PendingRecord.{PendingRecord}

-- ---- the word that a record names

-- where a part stands, in bytes from the start of its slot
abbrev pub offset_of : SlotPart → ℕ
offset_of Valid = 0
offset_of Head = 16
offset_of Tail = 24

-- this part of the slot of an inode stands at an address
abbrev pub IsPartAt : Layout → ℕ → SlotPart → ℕ → Type 0
IsPartAt l at part inode = (slot : ℕ) × (slot_of l inode ≡ Some slot) × (at ≡ slot + offset_of part)

-- which word stands at an address, and its value now; or none that a journal may name
abbrev pub TellsWord : Layout → Region → ℕ → Option NamedWord → Type 0
TellsWord l R at None = is_permitted_by l at ≡ false
TellsWord l R at (Some named) = IsPartAt l at named.part named.inode × (named.now ≡ word R at)

-- ---- the records

-- The record of this number of a CPU's journal: the address that it names, the word there, and the value from before.
pub record TellsRecord (l : Layout) (R : Region) (cpu number : ℕ) (told : PendingRecord) : Type 0 where
  pub cpu_is : told.cpu ≡ cpu
  pub number_is : told.number ≡ number
  pub address : told.address ≡ (record_at R cpu number).0
  pub word : TellsWord l R (record_at R cpu number).0 told.word
  pub before : told.before ≡ (record_at R cpu number).1

-- a CPU and the number of each pending record of its journal, the oldest first; none where the journal isn't sound
abbrev pub places_in : Region → ℕ → List (ℕ × ℕ)
places_in R cpu = if is_sound R cpu then map (λ j. (cpu, number_of (pending_of R cpu) j)) (range_with_len 0 (pending_count R cpu)) else []

-- those of the journals of so many CPUs, one after the other
abbrev pub all_places : Region → ℕ → List (ℕ × ℕ)
all_places R zero = []
all_places R (suc cpu) = all_places R cpu ++ places_in R cpu

-- the record at each of these places is told, and no other
abbrev pub AreTold : Layout → Region → List (ℕ × ℕ) → List PendingRecord → Type 0
AreTold l R [] [] = ⊤
AreTold l R [] (told ∷ records) = ⊥
AreTold l R (place ∷ places) [] = ⊥
AreTold l R (place ∷ places) (told ∷ records) = TellsRecord l R place.0 place.1 told × AreTold l R places records

-- these are the pending records of all journals of a region with this superblock
abbrev pub ArePending : Super → Region → List PendingRecord → Type 0
ArePending s R records = AreTold (layout_of s R) R (all_places R s.cpus) records

-- ---- blocks of slots

-- the slot of this inode stands at an address, in a block of slots
abbrev pub StandsIn : SlotBlock → ℕ → ℕ → ℕ → Type 0
StandsIn x cpus at inode = (j : ℕ) × (j < x.slots) × (inode ≡ x.first + j * cpus) × (inode ≢ 0) × (at ≡ x.start + 128 * j)

-- the slot of an inode stands at an address, in the block of slots of this ticket
abbrev pub HoldsSlot : Layout → ℕ → ℕ → Type 0
HoldsSlot l ticket at = (x : SlotBlock) × (inode : ℕ) × (slice_get (slot_blocks l) ticket ≡ Some x) × StandsIn x l.sup.cpus at inode
