-- The names of several directories, each with its path.
use Rattle.std.specs.Prelude.{◌≡◌, ℕ, Bool, if◌then◌else◌, List, [], ◌∷◌, ◌++◌, flat_map, codes, Option, Some, None}
use Rattle.nv_folders.specs.Folders.{Spot}
use Rattle.nv_names.specs.Names.{ListsNames}
use Rattle.nv_rows.specs.Rows.{row_of}
use Rattle.nv_scan.specs.declared.piece.Row.{Row}
use Rattle.nv_text.specs.Answers.{line}
use Rattle.nv_text.specs.Names.{escaped, list_line}
use Rattle.nv_listing.specs.Long.{long_lines}

-- the lines of names, each with its inode
abbrev pub short_lines : List (List ℕ × ℕ × ℕ) → List ℕ
short_lines listed = flat_map (λ (e : List ℕ × ℕ × ℕ). list_line e.0 e.1) listed

-- the same, and where the list is long each behind the numbers of its inode
abbrev pub lines_of : Bool → List Row → List (List ℕ × ℕ × ℕ) → List ℕ
lines_of long rows listed = if long then long_lines rows listed else short_lines listed

-- all names of a directory, each once and rising by bytes; none where it isn't in use
abbrev pub IsNamesText : Bool → List Row → Option Row → List ℕ → Type 0
IsNamesText long rows None text = text ≡ []
IsNamesText long rows (Some row) text = (listed : List (List ℕ × ℕ × ℕ)) × ListsNames row.names listed × (text ≡ lines_of long rows listed)

-- a path with its escapes; that of the root is empty
abbrev pub shown_path : List ℕ → List ℕ
shown_path [] = codes "/"
shown_path (b ∷ bs) = escaped (b ∷ bs)

-- a directory: its path with a colon, and its names
abbrev pub IsFolderText : Bool → List Row → Spot → List ℕ → Type 0
IsFolderText long rows x text = (names : List ℕ) × IsNamesText long rows (row_of rows x.1) names × (text ≡ line (shown_path x.0 ++ codes ":") ++ names)

-- directories, each behind an empty line
abbrev pub AreMoreTexts : Bool → List Row → List Spot → List ℕ → Type 0
AreMoreTexts long rows [] text = text ≡ []
AreMoreTexts long rows (x ∷ folders) text = (first : List ℕ) × (rest : List ℕ) × IsFolderText long rows x first × AreMoreTexts long rows folders rest × (text ≡ line [] ++ first ++ rest)

-- directories, with an empty line between two
abbrev pub AreFolderTexts : Bool → List Row → List Spot → List ℕ → Type 0
AreFolderTexts long rows [] text = text ≡ []
AreFolderTexts long rows (x ∷ folders) text = (first : List ℕ) × (rest : List ℕ) × IsFolderText long rows x first × AreMoreTexts long rows folders rest × (text ≡ first ++ rest)
