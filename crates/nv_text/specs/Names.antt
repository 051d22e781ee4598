-- Bytes as text: names with their escapes, and the content of files.
use Rattle.std.specs.Prelude.{ℕ, Bool, ◌&&◌, not, nat_le, ◌==◌, if◌then◌else◌, ◌/◌, ◌%◌, false, List, [], ◌∷◌, ◌++◌, flat_map, codes, decimal}
use Rattle.std.specs.Fmt.{digits}
use Rattle.nv_text.specs.Answers.{line}

-- a byte in two lower-case hexadecimal digits
abbrev pub hex_byte : ℕ → List ℕ
hex_byte b = digits 16 false (b / 16) ++ digits 16 false (b % 16)

-- a byte of a name that is printed as it is: from 33 to 126, and no backslash
abbrev pub is_plain : ℕ → Bool
is_plain b = nat_le 33 b && (nat_le b 126 && not (b == 92))

-- a byte of a name, as it is or as an escape
unfoldable pub escaped_byte : ℕ → List ℕ
escaped_byte b = if is_plain b then b ∷ [] else (codes "\\x" ++ hex_byte b)

-- a name with its escapes
abbrev pub escaped : List ℕ → List ℕ
escaped name = flat_map escaped_byte name

-- a name and its inode
abbrev pub list_line : List ℕ → ℕ → List ℕ
list_line name inode = escaped name ++ line (codes " " ++ decimal inode)

-- the same in a report
abbrev pub name_line : List ℕ → ℕ → List ℕ
name_line name inode = codes "  name " ++ list_line name inode

-- what follows the word `data`
abbrev pub data_text : List ℕ → List ℕ
data_text [] = []
data_text (b ∷ bs) = codes " " ++ flat_map hex_byte (b ∷ bs)

-- the content of a part of a file
abbrev pub data_line : List ℕ → List ℕ
data_line bytes = line (codes "data" ++ data_text bytes)
