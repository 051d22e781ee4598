-- Which entries say what can be: those of an inode's kind, with numbers in range.
use Rattle.std.specs.Prelude.{ℕ, ◌+◌, ◌-◌, ◌*◌, Bool, true, false, not, nat_le, nat_lt, ◌&&◌, ◌||◌, ◌==◌, if◌then◌else◌, Option, Some, None, List, [], ◌∷◌}
use Rattle.std.specs.List.{list_any}
use Rattle.nv_super.specs.declared.superblock.Super.{Super}
use Rattle.nv_super.specs.Layout.{system_blocks, is_name_number, most_pages, most_size, most_links}
use Rattle.nv_super.specs.declared.kind.Kind.{Kind}
use Rattle.nv_super.specs.declared.kind.Kind.TheVariants.{File, Directory}
use Rattle.nv_entry.specs.declared.content.ContentFault.{ContentFault}
use Rattle.nv_entry.specs.declared.content.ContentFault.TheVariants.{OutOfRange, WrongKind}
use Rattle.nv_entry.specs.declared.entry.WriteEntry.{WriteEntry}
use Rattle.nv_entry.specs.declared.entry.AttrEntry.{AttrEntry}
use Rattle.nv_entry.specs.declared.entry.NameEntry.{NameEntry}
use Rattle.nv_entry.specs.declared.entry.LinksEntry.{LinksEntry}
use Rattle.nv_entry.specs.declared.entry.Entry.{Entry}
use Rattle.nv_entry.specs.declared.entry.Entry.TheVariants.{NextPage, Write, Attr, Name, Links}

-- No page, pages past the last that a file can have, a block before or behind the data blocks, too great a size, or a
-- last page that begins at or past the size.
abbrev pub is_write_out_of_range : Super → WriteEntry → Bool
is_write_out_of_range s e =
    (e.count == 0) || nat_lt most_pages (e.offset + e.count)
    || nat_lt e.block (system_blocks s) || nat_lt s.blocks (e.block + e.count)
    || nat_lt most_size e.size || nat_le e.size ((e.offset + e.count - 1) * 4096)

-- more than the twelve bits of a mode, too great a size in a file, any size in a directory
abbrev pub is_attr_out_of_range : Kind → AttrEntry → Bool
is_attr_out_of_range File e = nat_lt 4095 e.mode || nat_lt most_size e.size
is_attr_out_of_range Directory e = nat_lt 4095 e.mode || not (e.size == 0)

-- `.` or `..`
abbrev pub is_dots : List ℕ → Bool
is_dots (a ∷ []) = a == 46
is_dots (a ∷ b ∷ []) = (a == 46) && (b == 46)
is_dots _ = false

-- it has a byte 0 or a `/`
abbrev pub has_bad_byte : List ℕ → Bool
has_bad_byte name = list_any (λ b. (b == 0) || (b == 47)) name

-- a name that no path can say, or a number that no name may say
abbrev pub is_name_out_of_range : Super → NameEntry → Bool
is_name_out_of_range s e = has_bad_byte e.name || is_dots e.name || not (is_name_number s e.inode)

-- no link, or more than a file can have
abbrev pub is_links_out_of_range : LinksEntry → Bool
is_links_out_of_range e = (e.count == 0) || nat_lt most_links e.count

-- what the entry says is out of range for an inode of this kind
abbrev pub is_out_of_range : Super → Kind → Entry → Bool
is_out_of_range s kind NextPage = false
is_out_of_range s kind (Write e) = is_write_out_of_range s e
is_out_of_range s kind (Attr e) = is_attr_out_of_range kind e
is_out_of_range s kind (Name e) = is_name_out_of_range s e
is_out_of_range s kind (Links e) = is_links_out_of_range e

-- a write or links entry of a directory, or a name entry of a file
abbrev pub is_wrong_kind : Entry → Kind → Bool
is_wrong_kind (Write _) Directory = true
is_wrong_kind (Links _) Directory = true
is_wrong_kind (Name _) File = true
is_wrong_kind _ _ = false

-- the fault in what an entry says, the wrong kind before the rest
abbrev pub content_fault : Super → Kind → Entry → Option ContentFault
content_fault s kind e =
    if is_wrong_kind e kind then Some WrongKind
    else if is_out_of_range s kind e then Some OutOfRange
    else None

-- an entry that counts for the state of its inode
abbrev pub is_good : Super → Kind → Entry → Bool
is_good s kind e = not (is_wrong_kind e kind) && not (is_out_of_range s kind e)
