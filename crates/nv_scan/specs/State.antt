-- The state of an inode, by the last word of its good entries.
use Rattle.std.specs.Prelude.{ℕ, ◌+◌, ◌-◌, ◌*◌, nat_eq, nat_le, if◌then◌else◌, List, Option, Some, None}
use Rattle.std.specs.Cmp.Lexicographic.{pointwise}
use Rattle.nv_radix.specs.Pages.{in_run}
use Rattle.nv_entry.specs.declared.entry.Operation.{Operation}
use Rattle.nv_entry.specs.declared.entry.Operation.TheVariants.{Add, Remove}
use Rattle.nv_entry.specs.declared.entry.Entry.{Entry}
use Rattle.nv_entry.specs.declared.entry.Entry.TheVariants.{NextPage, Write, Attr, Name, Links}
use Rattle.nv_logpage.specs.declared.found.Placed.{Placed}
use Rattle.nv_scan.specs.LastWord.{last_word}

-- the file's bytes after a write or attributes entry
abbrev pub size_in : Entry → Option ℕ
size_in (Write e) = Some e.size
size_in (Attr e) = Some e.size
size_in NextPage = None
size_in (Name e) = None
size_in (Links e) = None

-- the mode in an attributes entry
abbrev pub mode_in : Entry → Option ℕ
mode_in (Attr e) = Some e.mode
mode_in NextPage = None
mode_in (Write e) = None
mode_in (Name e) = None
mode_in (Links e) = None

-- the owner in an attributes entry
abbrev pub owner_in : Entry → Option ℕ
owner_in (Attr e) = Some e.owner
owner_in NextPage = None
owner_in (Write e) = None
owner_in (Name e) = None
owner_in (Links e) = None

-- the group in an attributes entry
abbrev pub group_in : Entry → Option ℕ
group_in (Attr e) = Some e.group
group_in NextPage = None
group_in (Write e) = None
group_in (Name e) = None
group_in (Links e) = None

-- the link count in a links entry
abbrev pub links_in : Entry → Option ℕ
links_in (Links e) = Some e.count
links_in NextPage = None
links_in (Write e) = None
links_in (Attr e) = None
links_in (Name e) = None

-- the time in any entry but one that leads to the next page
abbrev pub time_in : Entry → Option ℕ
time_in NextPage = None
time_in (Write e) = Some e.time
time_in (Attr e) = Some e.time
time_in (Name e) = Some e.time
time_in (Links e) = Some e.time

-- an entry with this size cuts the pages that begin at it or later
abbrev pub cuts : ℕ → ℕ → Option (Option ℕ)
cuts size p = if nat_le size (p * 4096) then Some None else None

-- what an entry says of a page: its block, that it is cut, or nothing
abbrev pub block_in : ℕ → Entry → Option (Option ℕ)
block_in p (Write e) = if in_run e.offset e.count p then Some (Some (e.block + (p - e.offset))) else cuts e.size p
block_in p (Attr e) = cuts e.size p
block_in p NextPage = None
block_in p (Name e) = None
block_in p (Links e) = None

-- what a name entry at a place makes of its name: the inode and that place, or that it is no name
abbrev pub named_by : ℕ → ℕ → Operation → Option (ℕ × ℕ)
named_by at inode Add = Some (inode, at)
named_by at inode Remove = None

-- what an entry at a place says of a name
abbrev pub name_in : List ℕ → ℕ → Entry → Option (Option (ℕ × ℕ))
name_in n at (Name e) = if pointwise nat_eq n e.name then Some (named_by at e.inode e.operation) else None
name_in n at NextPage = None
name_in n at (Write e) = None
name_in n at (Attr e) = None
name_in n at (Links e) = None

-- what an entry at its place says of the size
abbrev pub says_size : Placed → Option ℕ
says_size x = size_in x.entry

-- what it says of the mode
abbrev pub says_mode : Placed → Option ℕ
says_mode x = mode_in x.entry

-- what it says of the owner
abbrev pub says_owner : Placed → Option ℕ
says_owner x = owner_in x.entry

-- what it says of the group
abbrev pub says_group : Placed → Option ℕ
says_group x = group_in x.entry

-- what it says of the link count
abbrev pub says_links : Placed → Option ℕ
says_links x = links_in x.entry

-- what it says of the time
abbrev pub says_time : Placed → Option ℕ
says_time x = time_in x.entry

-- what it says of a page
abbrev pub says_block : ℕ → Placed → Option (Option ℕ)
says_block p x = block_in p x.entry

-- what it says of a name
abbrev pub says_name : List ℕ → Placed → Option (Option (ℕ × ℕ))
says_name n x = name_in n x.at x.entry

-- a file's bytes: of the last entry that gives them, or 0
abbrev pub size_of : List Placed → ℕ
size_of good = last_word says_size 0 good

-- the mode of the last attributes entry, or 0
abbrev pub mode_of : List Placed → ℕ
mode_of good = last_word says_mode 0 good

-- the owner of the last attributes entry, or 0
abbrev pub owner_of : List Placed → ℕ
owner_of good = last_word says_owner 0 good

-- the group of the last attributes entry, or 0
abbrev pub group_of : List Placed → ℕ
group_of good = last_word says_group 0 good

-- the link count of the last links entry, or 1
abbrev pub links_of : List Placed → ℕ
links_of good = last_word says_links 1 good

-- the time of the last entry, or the creation time
abbrev pub time_of : ℕ → List Placed → ℕ
time_of created good = last_word says_time created good

-- the block that a page maps to, if it maps to one
abbrev pub block_of : List Placed → ℕ → Option ℕ
block_of good p = last_word (says_block p) None good

-- the inode that a name stands for and the place of its add, if the directory has the name
abbrev pub named : List Placed → List ℕ → Option (ℕ × ℕ)
named good n = last_word (says_name n) None good
