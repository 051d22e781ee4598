-- How the lines that were stored to are held: each in one row, as a mark, and with its words.
use Rattle.std.specs.Prelude.{◌≡◌, ◌<◌, ◌≤◌, ◌+◌, ◌-◌, ◌*◌, ◌/◌, ◌^◌, ℕ, List, eqb, map, min, length, get_or, vec_capacity}
use Rattle.std.specs.List.{list_any, sum_by, Contains, IsDistinct}
use Rattle.nv_blockset.specs.BlockSet.{is_set}
use Rattle.nv_region.specs.StoredLines.{holds}
use Rattle.nv_region.specs.declared.stored.StoredRow.{StoredRow}
use Rattle.nv_region.specs.declared.stored.StoredLines.TheInside.{Inside}

-- where the rows begin
abbrev pub firsts : List StoredRow → List ℕ
firsts rows = map (λ row. row.first) rows

-- how many lines are in a row
abbrev pub lines_in : StoredRow → ℕ
lines_in row = row.end - row.first

-- Rows of the lines of so many words. Each ends before the next begins, and the words that it has are among those that are kept.
pub record AreKept (total : ℕ) (rows : List StoredRow) (kept : List ℕ) : Type 0 where
  pub once : IsDistinct eqb (firsts rows)
  pub some : (row : StoredRow) → Contains rows row → row.first < row.end
  pub below : (row : StoredRow) → Contains rows row → 8 * row.end < total + 8
  pub apart : (row other : StoredRow) → Contains rows row → Contains rows other → row.first < other.first → row.end ≤ other.first
  pub within : (row : StoredRow) → Contains rows row → row.at + (min (8 * row.end) total - 8 * row.first) ≤ length kept

-- Each line of a row has its mark, and there is room for rows of all lines and for all words.
pub record AreMarked (s : Inside) : Type 0 where
  pub small : s.total ≤ 2 ^ 27
  pub rows : AreKept s.total s.rows.items s.kept.items
  pub few : length s.kept.items ≤ 8 * sum_by lines_in s.rows.items
  pub marks : (s.total + 7) / 8 ≤ 64 * length s.marks.items
  pub marked : (p : ℕ) → is_set s.marks.items p ≡ list_any (λ row. holds row p) s.rows.items
  pub room : (s.total + 7) / 8 ≤ vec_capacity s.rows
  pub wide : 8 * ((s.total + 7) / 8) ≤ vec_capacity s.kept

-- the rows are in rising order
abbrev pub RowsRise : List StoredRow → Type 0
RowsRise rows = (j k : ℕ) (d : StoredRow) → j < k → k < length rows → (get_or rows j d).end ≤ (get_or rows k d).first
