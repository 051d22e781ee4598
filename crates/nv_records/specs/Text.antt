-- The pending records as text.
use Rattle.std.specs.Prelude.{ℕ, List, ◌++◌, length, Option, Some, None, codes, decimal}
use Rattle.std.specs.List.{flat_map}
use Rattle.nv_records.specs.declared.naming.NamedWord.{NamedWord}
use Rattle.nv_records.specs.declared.naming.SlotPart.{SlotPart}
use Rattle.nv_records.specs.declared.naming.SlotPart.TheVariants.{Valid, Head, Tail}
use Rattle.nv_records.specs.declared.records.PendingRecord.{PendingRecord}

-- the name of a part of a slot
abbrev pub part_text : SlotPart → List ℕ
part_text Valid = codes "valid word"
part_text Head = codes "head"
part_text Tail = codes "tail"

-- which word it is, and its value now
abbrev pub word_text : Option NamedWord → List ℕ
word_text None = codes "no word of a slot, "
word_text (Some named) = part_text named.part ++ codes " of inode " ++ decimal named.inode ++ codes ", is " ++ decimal named.now ++ codes ", "

-- CPU, number and address of a record, the word there, and the value from before
abbrev pub record_line : PendingRecord → List ℕ
record_line told = codes "pending " ++ decimal told.cpu ++ codes " " ++ decimal told.number ++ codes ": address " ++ decimal told.address ++ codes ", "
    ++ word_text told.word ++ codes "was " ++ decimal told.before ++ codes "\n"

-- how many they are
abbrev pub count_line : ℕ → List ℕ
count_line count = codes "pending records " ++ decimal count ++ codes "\n"

-- a line for each record, and how many they are
abbrev pub records_text : List PendingRecord → List ℕ
records_text records = flat_map record_line records ++ count_line (length records)
