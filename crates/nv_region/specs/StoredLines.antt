-- The lines that were stored to since the last fence, in rows, with their words as they were then.
use Rattle.std.specs.Prelude.{ℕ, Bool, List, [], ◌∷◌, map, length, get_or, nat_le, nat_lt, ◌&&◌, ◌+◌, ◌-◌, ◌*◌, ◌/◌, if◌then◌else◌}
use Rattle.std.specs.List.{list_any, range_with_len}
use Rattle.nv_region.specs.declared.stored.StoredRow.{StoredRow}

-- how many words there are, the rows of lines that were stored to, and the words that are kept of them
pub record Noted : Type 0 where
  pub total : ℕ
  pub rows : List StoredRow
  pub kept : List ℕ

-- the line of this number is in the row
abbrev pub holds : StoredRow → ℕ → Bool
holds row p = nat_le row.first p && nat_lt p row.end

-- the line was stored to
abbrev pub is_stored : Noted → ℕ → Bool
is_stored noted p = list_any (λ row. holds row p) noted.rows

-- the word of this number at the last fence: as it was kept where its line was stored to, and else as it reads
abbrev pub word_before : List StoredRow → List ℕ → List ℕ → ℕ → ℕ
word_before [] kept words i = get_or words i 0
word_before (row ∷ rows) kept words i = if holds row (i / 8) then get_or kept (row.at + (i - 8 * row.first)) 0 else word_before rows kept words i

-- the words at the last fence, of the words of now
unfoldable pub words_before : List StoredRow → List ℕ → List ℕ → List ℕ
words_before rows kept words = map (word_before rows kept words) (range_with_len 0 (length words))
