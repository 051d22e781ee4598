-- What a slot says of an inode.
use Rattle.std.specs.Prelude.{ℕ, ◌+◌, ◌*◌, ◌%◌, ◌&&◌, ◌==◌, nat_le, Bool, if◌then◌else◌, Option, Some, None, option_map}
use Rattle.nv_region.specs.Region.{Region, word, put}
use Rattle.nv_super.specs.declared.superblock.Super.{Super}
use Rattle.nv_super.specs.Layout.{Layout, is_data_address, is_page_start, slot_of}
use Rattle.nv_super.specs.declared.kind.Kind.{Kind}
use Rattle.nv_super.specs.declared.kind.Kind.TheVariants.{File, Directory}
use Rattle.nv_inode.specs.declared.slot.Slot.{Slot}
use Rattle.nv_inode.specs.declared.slot.SlotState.{SlotState}
use Rattle.nv_inode.specs.declared.slot.SlotState.TheVariants.{Unused, BadValid, BadKind, InUse}

-- the address of a slot by its place in the tables, which are one area behind the journals
abbrev pub nth_slot : Super → ℕ → ℕ
nth_slot s place = (1 + s.cpus) * 4096 + 128 * place

-- the slot at an address, as its words stand
abbrev pub slot_at : Region → ℕ → Slot
slot_at R a = record { valid = word R a; kind = word R (a + 8); head = word R (a + 16); tail = word R (a + 24); created = word R (a + 32) }

-- the slot of an inode, if its number has one
abbrev pub slot_by_number : Region → Layout → ℕ → Option Slot
slot_by_number R l i = option_map (slot_at R) (slot_of l i)

-- the region with these words in the slot at an address, whose valid word stays
abbrev pub with_slot : Region → ℕ → Slot → Region
with_slot R a slot = put (put (put (put R (a + 8) slot.kind) (a + 16) slot.head) (a + 24) slot.tail) (a + 32) slot.created

-- the kind of a slot in use: one whose valid word is 1 and whose kind word is that of a kind
abbrev pub kind_of : Slot → Option Kind
kind_of slot =
    if slot.valid == 1
    then (if slot.kind == 1 then Some File else if slot.kind == 2 then Some Directory else None)
    else None

-- the kind of the slot at an address, if it is in use
abbrev pub kind_at : Region → ℕ → Option Kind
kind_at R a = kind_of (slot_at R a)

-- the kind that a state tells
abbrev pub kind_in : SlotState → Option Kind
kind_in (InUse kind) = Some kind
kind_in Unused = None
kind_in BadValid = None
kind_in BadKind = None

-- unused where the valid word is 0; else in use, or wrong in its valid word or its kind
abbrev pub state_of : Slot → SlotState
state_of slot =
    if slot.valid == 0 then Unused
    else if slot.valid == 1
    then (if slot.kind == 1 then InUse File else if slot.kind == 2 then InUse Directory else BadKind)
    else BadValid

-- The log begins at the start of a data block. It ends in a data block, at a word whose offset is 8 to 4064.
abbrev pub is_right_log : Super → ℕ → ℕ → Bool
is_right_log s head tail =
    is_page_start s head && is_data_address s tail && (tail % 8 == 0)
    && nat_le 8 (tail % 4096) && nat_le (tail % 4096) 4064
