-- Paths as byte texts.
use Rattle.std.specs.Prelude.{◌≡◌, ℕ, ◌≤◌, Bool, ◌==◌, false, All, List, [], ◌∷◌, drop, length, Option, Some, None}
use Rattle.std.specs.List.{flat_map, before_first, position_or_len}
use Rattle.nv_entry.specs.Content.{has_bad_byte, is_dots}
use Rattle.nv_entry.specs.Name.{IsName}

-- A name that a path can say: 1 to 255 bytes, no byte 0, no `/`, and not `.` or `..`.
pub record IsPathName (name : List ℕ) : Type 0 where
  pub fits : IsName name
  pub bytes : has_bad_byte name ≡ false
  pub no_dots : is_dots name ≡ false

-- the names, each behind a `/`
abbrev pub spelled : List (List ℕ) → List ℕ
spelled names = flat_map (λ name. 47 ∷ name) names

-- `/` for the root, and else the names, each behind a `/`
abbrev pub path_text : List (List ℕ) → List ℕ
path_text [] = 47 ∷ []
path_text (name ∷ names) = spelled (name ∷ names)

-- The text is the path of these names from the root on, in at most 4,096 bytes.
pub record IsPath (text : List ℕ) (names : List (List ℕ)) : Type 0 where
  pub spells : text ≡ path_text names
  pub short : length text ≤ 4096
  pub good : All IsPathName names

-- the names that a text says, or nothing where it is no path
abbrev pub Says : List ℕ → Option (List (List ℕ)) → Type 0
Says text (Some names) = IsPath text names
Says text None = (names : List (List ℕ)) → IsPath text names → ⊥

-- the last name of a path, in the directory that the names before it lead to
abbrev pub last_name : List (List ℕ) → List ℕ
last_name [] = []
last_name (name ∷ []) = name
last_name (name ∷ next ∷ names) = last_name (next ∷ names)

-- ---- a text cut behind its first name

-- the byte is a `/`
abbrev pub is_slash : ℕ → Bool
is_slash b = b == 47

-- what stands behind the first byte, up to the next `/`
abbrev pub first_name : List ℕ → List ℕ
first_name text = before_first is_slash (drop 1 text)

-- what stands from that next `/` on
abbrev pub behind_name : List ℕ → List ℕ
behind_name text = drop (position_or_len is_slash (drop 1 text)) (drop 1 text)
