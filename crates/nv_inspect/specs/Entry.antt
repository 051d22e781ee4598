-- The line of an entry in the text of a log: where it stands, what became of it, and what it says.
use Rattle.std.specs.Prelude.{ℕ, Bool, false, ◌+◌, ◌/◌, ◌%◌, ◌^◌, ◌≤◌, ◌==◌, ⊤, List, ◌++◌, Option, Some, None, codes, decimal}
use Rattle.std.specs.List.{count_by, range_with_len}
use Rattle.nv_super.specs.declared.superblock.Super.{Super}
use Rattle.nv_entry.specs.declared.entry.WriteEntry.{WriteEntry}
use Rattle.nv_entry.specs.declared.entry.AttrEntry.{AttrEntry}
use Rattle.nv_entry.specs.declared.entry.NameEntry.{NameEntry}
use Rattle.nv_entry.specs.declared.entry.LinksEntry.{LinksEntry}
use Rattle.nv_entry.specs.declared.entry.Operation.{Operation}
use Rattle.nv_entry.specs.declared.entry.Operation.TheVariants.{Add, Remove}
use Rattle.nv_entry.specs.declared.entry.Entry.{Entry}
use Rattle.nv_entry.specs.declared.entry.Entry.TheVariants.{NextPage, Write, Attr, Name, Links}
use Rattle.nv_entry.specs.declared.content.ContentFault.{ContentFault}
use Rattle.nv_entry.specs.declared.content.ContentFault.TheVariants.{OutOfRange, WrongKind}
use Rattle.nv_entry.specs.Content.{content_fault}
use Rattle.nv_logpage.specs.declared.found.Placed.{Placed}
use Rattle.nv_radix.specs.Pages.{Pages, block_at}
use Rattle.nv_scan.specs.declared.piece.Row.{Row}
use Rattle.nv_inspect.specs.declared.fate.Fate.{Fate}
use Rattle.nv_inspect.specs.declared.fate.Fate.TheVariants.{Stands, ChangesNothing, DeadBy}
use Rattle.nv_text.specs.Answers.{line}
use Rattle.nv_text.specs.Names.{list_line}

-- ---- what an entry says

-- a place as its block and the offset there, in bytes
abbrev pub place_text : ℕ → List ℕ
place_text at = codes "block " ++ decimal (at / 4096) ++ codes " offset " ++ decimal (at % 4096)

-- the pages of a file that were written, and their blocks
abbrev pub run_text : WriteEntry → List ℕ
run_text e = codes "write page " ++ decimal e.offset ++ codes " count " ++ decimal e.count ++ codes " block " ++ decimal e.block

-- a size and a time, at the end of a line
abbrev pub size_text : ℕ → ℕ → List ℕ
size_text size time = line (codes " size " ++ decimal size ++ codes " time " ++ decimal time)

-- pages of a file were written
abbrev pub write_text : WriteEntry → List ℕ
write_text e = run_text e ++ size_text e.size e.time

-- a mode
abbrev pub mode_text : ℕ → List ℕ
mode_text mode = codes "attributes mode " ++ decimal mode

-- whose it is
abbrev pub whose_text : ℕ → ℕ → List ℕ
whose_text owner group = codes " owner " ++ decimal owner ++ codes " group " ++ decimal group

-- new attributes
abbrev pub attr_text : AttrEntry → List ℕ
attr_text e = mode_text e.mode ++ whose_text e.owner e.group ++ size_text e.size e.time

-- what is done with a name
abbrev pub operation_word : Operation → List ℕ
operation_word Add = codes "add"
operation_word Remove = codes "remove"

-- a name with its inode
abbrev pub name_text : NameEntry → List ℕ
name_text e = operation_word e.operation ++ codes " time " ++ decimal e.time ++ codes " name " ++ list_line e.name e.inode

-- a link count
abbrev pub links_text : LinksEntry → List ℕ
links_text e = line (codes "links " ++ decimal e.count ++ codes " time " ++ decimal e.time)

-- all fields of an entry
abbrev pub entry_text : Entry → List ℕ
entry_text NextPage = line (codes "next page")
entry_text (Write e) = write_text e
entry_text (Attr e) = attr_text e
entry_text (Name e) = name_text e
entry_text (Links e) = links_text e

-- ---- what became of it

-- what was looked up is there, and is this: the block of a page, or the place of an entry
abbrev pub lies_in : Option ℕ → ℕ → Bool
lies_in None b = false
lies_in (Some block) b = block == b

-- how many of the pages that a write entry gives a block lie in that block by the row
abbrev pub pages_standing : Pages → WriteEntry → ℕ
pages_standing index e = count_by (λ k. lies_in (block_at index (e.offset + k)) (e.block + k)) (range_with_len 0 e.count)

-- of the pages of a write those that stand
abbrev pub pages_text : Pages → WriteEntry → List ℕ
pages_text index e = codes "stands " ++ decimal (pages_standing index e) ++ codes " of " ++ decimal e.count ++ codes " "

-- an entry stands; of the pages of a write those that do
abbrev pub stands_text : Pages → Entry → List ℕ
stands_text index NextPage = codes "stands "
stands_text index (Write e) = pages_text index e
stands_text index (Attr e) = codes "stands "
stands_text index (Name e) = codes "stands "
stands_text index (Links e) = codes "stands "

-- what became of an entry that counts
abbrev pub fate_text : Row → Entry → Fate → List ℕ
fate_text row e Stands = stands_text row.index e
fate_text row e ChangesNothing = codes "changes nothing "
fate_text row e (DeadBy at) = codes "dead by " ++ place_text at ++ codes " "

-- why an entry doesn't count, by the fault that a check names, or what became of it
abbrev pub verdict_text : Row → Fate → Entry → Option ContentFault → List ℕ
verdict_text row fate e (Some OutOfRange) = codes "fault E1 "
verdict_text row fate e (Some WrongKind) = codes "fault E2 "
verdict_text row fate e None = fate_text row e fate

-- the line of an entry
abbrev pub entry_line : Super → Row → Fate → Placed → List ℕ
entry_line s row fate x = codes "  " ++ place_text x.at ++ codes " " ++ verdict_text row fate x.entry (content_fault s row.kind x.entry) ++ entry_text x.entry

-- ---- within

-- the pages and the blocks of a write have small numbers
abbrev pub IsSmallEntry : Entry → Type 0
IsSmallEntry (Write e) = (e.offset + e.count ≤ 2 ^ 32) × (e.block + e.count ≤ 2 ^ 32)
IsSmallEntry NextPage = ⊤
IsSmallEntry (Attr e) = ⊤
IsSmallEntry (Name e) = ⊤
IsSmallEntry (Links e) = ⊤
