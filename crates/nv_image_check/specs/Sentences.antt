-- What is wrong with a region, in sentences.
use Rattle.std.specs.Prelude.{ℕ, ◌+◌, ◌*◌, ◌/◌, ◌%◌, ◌==◌, ◌&&◌, nat_le, nat_lt, Bool, if◌then◌else◌, List, [], ◌++◌, flat_map, Option, Some, None, option_map, codes, decimal}
use Rattle.nv_region.specs.Region.{Region, size, word}
use Rattle.nv_super.specs.declared.superblock.Super.{Super}
use Rattle.nv_super.specs.declared.faults.Fault.{Fault}
use Rattle.nv_super.specs.declared.faults.Fault.TheVariants.{J1, J2, H1, H2, I1, I2, I3, L1, L2, L3, L4, E1, E2, E3, E4, C1, C2, C3, C4, C5, B1}
use Rattle.nv_super.specs.FaultText.{fault_text}
use Rattle.nv_super.specs.Layout.{Layout, slot_of}

-- the address of the dequeue number of the journal of a CPU
abbrev pub journal_place : Super → ℕ → Option ℕ
journal_place s c = if nat_lt c s.cpus then Some (4096 * (1 + c)) else None

-- the address of the word that names the address of a record
abbrev pub record_place : Super → ℕ → ℕ → Option ℕ
record_place s c k = if nat_lt c s.cpus && nat_lt k 252 then Some (4096 * (1 + c) + 64 + 16 * k) else None

-- the address of a word of the slot of an inode
abbrev pub slot_place : Layout → ℕ → ℕ → Option ℕ
slot_place l i offset = option_map (λ at. at + offset) (slot_of l i)

-- The address of the word that a fault is about: a journal's dequeue number, a record's address, the valid word, the kind or the
-- head of a slot, a link of a log or of a table's chain, or the first word of an entry. Others are about none.
abbrev pub place_of : Layout → Fault → Option ℕ
place_of l (J1 c) = journal_place l.sup c
place_of l (J2 c k) = record_place l.sup c k
place_of l (H1 c a) = Some a
place_of l (H2 c a) = Some a
place_of l (I1 i) = slot_place l i 0
place_of l (I2 i) = slot_place l i 8
place_of l (I3 i) = slot_place l i 16
place_of l (L1 i a) = Some a
place_of l (L2 i a) = Some a
place_of l (L3 i a) = Some a
place_of l (L4 i a) = Some a
place_of l (E1 i a) = Some a
place_of l (E2 i a) = Some a
place_of l (E3 i a) = Some a
place_of l (E4 i a) = Some a
place_of l (C1 d a) = Some a
place_of l (C2 i) = None
place_of l (C3 i) = None
place_of l (C4 i) = None
place_of l C5 = None
place_of l (B1 b o) = None

-- what stands at the place of a fault in a sound region, or what holds there
abbrev pub rule_text : Fault → List ℕ
rule_text (J1 c) = codes "the dequeue number of a journal, and the enqueue number behind it, are below 252"
rule_text (J2 c k) = codes "a record names the valid word, the head or the tail of the slot of an inode"
rule_text (H1 c a) = codes "the link of a table's chain is 0, or the first byte of a data block"
rule_text (H2 c a) = codes "the link of a table's chain leads to a block that wasn't read before in this chain"
rule_text (I1 i) = codes "the valid word of a slot is 0 or 1"
rule_text (I2 i) = codes "the kind of a slot in use is 1, a file, or 2, a directory"
rule_text (I3 i) = codes "the head of a log is the first byte of a data block, and its tail, the next word, a multiple of 8 at an offset of 8 to 4064 of one"
rule_text (L1 i a) = codes "the link of a log's page is the first byte of a data block"
rule_text (L2 i a) = codes "the link of a log's page leads to one that wasn't read before"
rule_text (L3 i a) = codes "an entry begins here, by its type, operation and length"
rule_text (L4 i a) = codes "an entry in the tail's page ends at the tail or before it"
rule_text (E1 i a) = codes "the numbers and the name of an entry are in range"
rule_text (E2 i a) = codes "an entry is one that this kind of inode has"
rule_text (E3 i a) = codes "a name is added that the directory doesn't have"
rule_text (E4 i a) = codes "a name is removed that the directory has"
rule_text (C1 d a) = codes "a name is that of an inode in use"
rule_text (C2 i) = codes "a directory is named once, and the root nowhere"
rule_text (C3 i) = codes "a file has as many links as names"
rule_text (C4 i) = codes "an inode in use is reached by names from the root"
rule_text C5 = codes "inode 1 is a directory in use"
rule_text (B1 b o) = codes "a block has one owner"

-- a word begins at the address, and is in the region
abbrev pub holds_word : Region → ℕ → Bool
holds_word R at = (at % 8 == 0) && nat_le (at + 8) (size R)

-- the word at an address with its block and offset, where there is one
abbrev pub word_text : Region → ℕ → List ℕ
word_text R at = if holds_word R at
    then codes "block " ++ decimal (at / 4096) ++ codes " has at offset " ++ decimal (at % 4096) ++ codes " the word " ++ decimal (word R at) ++ codes "; "
    else []

-- the same of a place that may be none
abbrev pub found_text : Region → Option ℕ → List ℕ
found_text R None = []
found_text R (Some at) = word_text R at

-- a fault, the word that it is about, and what holds in a sound region
abbrev pub sentence : Region → Layout → Fault → List ℕ
sentence R l f = fault_text f ++ codes ": " ++ found_text R (place_of l f) ++ rule_text f ++ codes "\n"

-- the same of some faults, a line each
abbrev pub sentences : Region → Layout → List Fault → List ℕ
sentences R l faults = flat_map (λ f. sentence R l f) faults
