-- The text of a log: each entry that is read from the head on, in order, with the links between the pages, and where the reading ends.
use Rattle.std.specs.Prelude.{◌≡◌, ℕ, ◌+◌, ◌/◌, ◌==◌, List, [], ◌∷◌, ◌++◌, get_or, drop, Option, Some, None, if◌then◌else◌, MatchBool, codes, decimal}
use Rattle.nv_region.specs.Region.{Region, word}
use Rattle.nv_super.specs.declared.superblock.Super.{Super}
use Rattle.nv_super.specs.Layout.{Layout, slot_of}
use Rattle.nv_super.specs.Kind.{kind_word}
use Rattle.nv_inode.specs.Slot.{is_right_log}
use Rattle.nv_logpage.specs.declared.found.LogFault.{LogFault}
use Rattle.nv_logpage.specs.declared.found.LogFault.TheVariants.{L1, L2, L3, L4}
use Rattle.nv_logpage.specs.declared.found.LogEnd.{LogEnd}
use Rattle.nv_logpage.specs.declared.found.Placed.{Placed}
use Rattle.nv_logpage.specs.Reads.{Reads}
use Rattle.nv_scan.specs.declared.piece.Row.{Row}
use Rattle.nv_inspect.specs.declared.fate.Fate.{Fate}
use Rattle.nv_inspect.specs.declared.fate.Fate.TheVariants.{Stands}
use Rattle.nv_inspect.specs.Dead.{AreFates}
use Rattle.nv_inspect.specs.Entry.{entry_line, place_text}
use Rattle.nv_text.specs.Answers.{line}
use Rattle.nv_text.specs.Report.{log_line}

-- ---- the links

-- where the link of a page stands
abbrev pub link_place : ℕ → List ℕ
link_place page = codes "  block " ++ decimal page ++ codes " offset 4064"

-- the link of a page leads to another
abbrev pub link_line : ℕ → ℕ → List ℕ
link_line page next = link_place page ++ line (codes " next page block " ++ decimal next)

-- the link of a page to the first of those behind it, if there is one
abbrev pub link_to_first : ℕ → List ℕ → List ℕ
link_to_first page [] = []
link_to_first page (next ∷ _) = link_line page next

-- the links from the first of these pages on that lead to this one; all, where it isn't among them
abbrev pub links_to : ℕ → List ℕ → List ℕ
links_to page [] = []
links_to page (first ∷ rest) = if first == page then [] else link_to_first first rest ++ links_to page rest

-- the pages from this one on
abbrev pub pages_from : ℕ → List ℕ → List ℕ
pages_from page [] = []
pages_from page (first ∷ rest) = if first == page then first ∷ rest else pages_from page rest

-- all links from the first of these pages on
abbrev pub links_of : List ℕ → List ℕ
links_of [] = []
links_of (first ∷ rest) = link_to_first first rest ++ links_of rest

-- ---- the log

-- The lines of the entries with what became of each, from the first of these pages on, and before the first entry of a page the
-- links that lead to it.
abbrev pub lines_of : Super → Row → List Fate → List ℕ → List Placed → List ℕ
lines_of s row fates pages [] = links_of pages
lines_of s row fates pages (x ∷ es) = links_to (x.at / 4096) pages ++ entry_line s row (get_or fates 0 Stands) x ++ lines_of s row (drop 1 fates) (pages_from (x.at / 4096) pages) es

-- the first line of a log
abbrev pub head_line : Row → List ℕ
head_line row = line (codes "inode " ++ decimal row.inode ++ codes " " ++ kind_word row.kind)

-- the class of a fault of reading
abbrev pub log_fault_word : LogFault → List ℕ
log_fault_word L1 = codes "L1"
log_fault_word L2 = codes "L2"
log_fault_word L3 = codes "L3"
log_fault_word L4 = codes "L4"

-- where the reading ended, and why
abbrev pub end_line : Option LogEnd → List ℕ
end_line None = line (codes "  ends at its tail")
end_line (Some e) = line (codes "  ends by " ++ log_fault_word e.fault ++ codes " at " ++ place_text e.at)

-- what is read of a log
abbrev pub read_text : Super → Row → List Placed → List Fate → List ℕ → Option LogEnd → List ℕ
read_text s row es fates pages end = log_line pages row.tail ++ lines_of s row fates pages es ++ end_line end

-- the creation time of an inode, by the slot at this address
abbrev pub created_by : Region → Option ℕ → ℕ
created_by R None = 0
created_by R (Some a) = word R (a + 32)

-- the creation time of the inode with this number
abbrev pub created_at : Region → Layout → ℕ → ℕ
created_at R l i = created_by R (slot_of l i)

-- Where head and tail are right it is what is read between them, with what became of each entry, and else nothing is read.
abbrev pub IsReadText : Region → Layout → Row → List ℕ → Type 0
IsReadText R l row text = MatchBool (is_right_log l.sup row.head row.tail)
    ((es : List Placed) × (pages : List ℕ) × (end : Option LogEnd) × (fates : List Fate) × Reads R l.sup row.head row.tail es pages end
    × AreFates l.sup row.kind (created_at R l row.inode) es fates × (text ≡ read_text l.sup row es fates pages end))
    (text ≡ line (codes "  no log, by I3"))

-- the text of the log of an inode
abbrev pub IsLogText : Region → Layout → Row → List ℕ → Type 0
IsLogText R l row text = (rest : List ℕ) × IsReadText R l row rest × (text ≡ head_line row ++ rest)
