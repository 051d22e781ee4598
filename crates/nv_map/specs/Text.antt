-- The text of a map.
use Rattle.std.specs.Prelude.{ℕ, ◌*◌, ◌==◌, Bool, if◌then◌else◌, List, [], ◌++◌, flat_map, length, take, drop, codes, decimal}
use Rattle.std.specs.Int.{div_ceil}
use Rattle.std.specs.List.{list_any, range_with_len}
use Rattle.nv_map.specs.declared.uses.BlockUse.{BlockUse}
use Rattle.nv_map.specs.declared.uses.BlockUse.TheVariants.{Free, System, Table, Data, Log, Doubled}
use Rattle.nv_map.specs.declared.cells.Cells.{Cells}
use Rattle.nv_map.specs.Rank.{rank}

-- the letter or sign that stands for a use
abbrev pub letter : BlockUse → List ℕ
letter Free = codes "."
letter System = codes "S"
letter Table = codes "T"
letter Data = codes "D"
letter Log = codes "L"
letter Doubled = codes "!"

-- the letters of cells
abbrev pub letters : List BlockUse → List ℕ
letters uses = flat_map letter uses

-- the line of this number, of 64 cells or what is left
abbrev pub line_at : List BlockUse → ℕ → List ℕ
line_at uses k = letters (take 64 (drop (64 * k) uses)) ++ codes "\n"

-- all lines of a map
abbrev pub lines_of : List BlockUse → List ℕ
lines_of uses = flat_map (line_at uses) (range_with_len 0 (div_ceil (length uses) 64))

-- whether a cell tells of a table's chain
abbrev pub shows_table : List BlockUse → Bool
shows_table uses = list_any (λ told. rank told == rank Table) uses

-- what the letter of tables means, where a cell has it: a region of version 1 has none
abbrev pub table_word : List BlockUse → List ℕ
table_word uses = if shows_table uses then codes "T table, " else []

-- what the letters mean, and how many blocks a cell has
abbrev pub legend : List BlockUse → ℕ → List ℕ
legend uses each = codes "blocks in a cell " ++ decimal each ++ codes ": . free, S system, " ++ table_word uses ++ codes "D data, L log, ! doubled\n"

-- the lines of the cells, and what they mean
abbrev pub map_text : Cells → List ℕ
map_text cells = lines_of cells.uses.items ++ legend cells.uses.items cells.each
