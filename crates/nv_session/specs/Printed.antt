-- What a command prints, which may be the line of a part of a file that is read as it is written.
use Rattle.std.specs.Prelude.{◌≡◌, ◌≤◌, ◌-◌, ℕ, false, List, map, min, flat_map, Some, None, string_bytes}
use Rattle.std.specs.List.{range_with_len}
use Rattle.nv_region.specs.RegionState.{RegionState}
use Rattle.nv_tree.specs.Path.{IsPath}
use Rattle.nv_tree.specs.Tree.{Node}
use Rattle.nv_tree.specs.Refusals.{first_refusal, read_tests}
use Rattle.nv_paths.specs.Seen.{LeadsTo, tree_of}
use Rattle.nv_text.specs.Names.{hex_byte, data_line}
use Rattle.nv_calls.specs.Mount.{Mount}
use Rattle.nv_session.specs.Sessions.{mount_in}
use Rattle.nv_session.specs.declared.session.Session.{Session}
use Rattle.nv_session.specs.declared.printed.FilePart.{FilePart}
use Rattle.nv_session.specs.declared.printed.Printed.{Printed}
use Rattle.nv_session.specs.declared.printed.Printed.TheVariants.{Text, Part}

-- A read of this path isn't refused by what is mounted, and leads to a file that shows this.
pub record IsReadable (m : Mount RegionState) (path : List ℕ) : Type 0 where
  pub runs : m.stopped ≡ false
  pub names : List (List ℕ)
  pub is_path : IsPath path names
  pub allowed : first_refusal (read_tests (tree_of m.memory.region m.rows) (Some names)) ≡ None
  pub inode : ℕ
  pub node : Node
  pub leads : LeadsTo (tree_of m.memory.region m.rows) names inode node

-- so many bytes of a file from an offset on, where it has them
abbrev pub bytes_from : Node → ℕ → ℕ → List ℕ
bytes_from node at count = map node.bytes (range_with_len at count)

-- two hexadecimal digits for each byte
abbrev pub digits_of : List ℕ → List ℕ
digits_of bytes = flat_map hex_byte bytes

-- the line that shows the bytes of a file from an offset up to an end
abbrev pub part_line : Node → ℕ → ℕ → List ℕ
part_line node offset end = data_line (bytes_from node offset (end - offset))

-- The part is what a read of this path shows, from this offset on, at most so many bytes.
pub record IsLongPart (m : Mount RegionState) (path : List ℕ) (offset count : ℕ) (part : FilePart) : Type 0 where
  pub path_is : part.path.items ≡ path
  pub offset_is : part.offset ≡ offset
  pub file : IsReadable m path
  pub within : part.end ≤ file.node.size
  pub as_many : part.end - offset ≡ min count (file.node.size - offset)

-- a part of a file of what is mounted has this line
abbrev pub ShowsFilePart : Mount RegionState → FilePart → List ℕ → Type 0
ShowsFilePart m part said = (file : IsReadable m part.path.items) × (part.end ≤ file.node.size) × (said ≡ part_line file.node part.offset part.end)

-- what a command prints is this: a text, or the line of a part of a file of what the session has mounted
abbrev pub Prints : Session → Printed → List ℕ → Type 0
Prints s (Text text) said = said ≡ string_bytes text
Prints s (Part part) said = (m : Mount RegionState) × (mount_in s.store ≡ Some m) × ShowsFilePart m part said
