-- The names of a directory, each behind the numbers of its inode.
use Rattle.std.specs.Prelude.{◌≡◌, ℕ, List, ◌++◌, flat_map, codes, decimal, Option, Some, None}
use Rattle.nv_super.specs.Kind.{kind_word}
use Rattle.nv_names.specs.Names.{ListsNames}
use Rattle.nv_scan.specs.declared.piece.Row.{Row}
use Rattle.nv_rows.specs.Rows.{row_of}
use Rattle.nv_text.specs.Names.{list_line}

-- the kind of an inode and its mode, and how often it is named
abbrev pub kind_text : Row → List ℕ
kind_text row = kind_word row.kind ++ codes " " ++ decimal row.numbers.mode ++ codes " " ++ decimal row.numbers.links ++ codes " "

-- whose it is
abbrev pub whose_text : Row → List ℕ
whose_text row = decimal row.numbers.owner ++ codes " " ++ decimal row.numbers.group ++ codes " "

-- how large it is, and when it was changed
abbrev pub size_text : Row → List ℕ
size_text row = decimal row.numbers.size ++ codes " " ++ decimal row.numbers.time ++ codes " "

-- the numbers of the inode that a name stands for, if it is in use
abbrev pub long_head : Option Row → List ℕ
long_head None = codes "unused "
long_head (Some row) = kind_text row ++ whose_text row ++ size_text row

-- the line of a name
abbrev pub long_line : List Row → List ℕ → ℕ → List ℕ
long_line rows name inode = long_head (row_of rows inode) ++ list_line name inode

-- the lines of names
abbrev pub long_lines : List Row → List (List ℕ × ℕ × ℕ) → List ℕ
long_lines rows listed = flat_map (λ (e : List ℕ × ℕ × ℕ). long_line rows e.0 e.1) listed

-- all names of a directory, each once and rising by bytes
abbrev pub IsLongText : List Row → Row → List ℕ → Type 0
IsLongText rows row text = (listed : List (List ℕ × ℕ × ℕ)) × ListsNames row.names listed × (text ≡ long_lines rows listed)
