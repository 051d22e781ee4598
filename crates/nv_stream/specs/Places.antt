-- What may be put in the place of a file.
use Rattle.std.specs.Prelude.{Bool, ◌&&◌, ◌==◌, not, false, Option, None, Some, if◌then◌else◌}
use Rattle.nv_stream.specs.declared.place.Stamp.{Stamp}
use Rattle.nv_stream.specs.declared.place.Allowed.{Allowed}
use Rattle.nv_stream.specs.declared.saving.Unsaved.{Unsaved}
use Rattle.nv_stream.specs.declared.saving.Unsaved.TheVariants.{Exists, IsRead}

-- both are of one file
abbrev pub is_same_file : Stamp → Stamp → Bool
is_same_file a b = (a.device == b.device) && (a.inode == b.inode)

-- there are two stamps, of one file
abbrev pub are_one_file : Option Stamp → Option Stamp → Bool
are_one_file None other = false
are_one_file (Some file) None = false
are_one_file (Some file) (Some other) = is_same_file file other

-- Why no file may be put in a place, where something is or not, by the file that is there: it is the one that the command reads;
-- or something is there, which is not the image that the command may replace, and no force is given.
abbrev pub refused_place : Bool → Option Stamp → Allowed → Option Unsaved
refused_place is_taken file allowed = if are_one_file file allowed.read then Some IsRead
    else if is_taken && not allowed.force && not (are_one_file file allowed.image) then Some Exists
    else None
