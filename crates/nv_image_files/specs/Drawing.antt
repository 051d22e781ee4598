-- The drawing of a map.
use Rattle.std.specs.Prelude.{ℕ, ◌+◌, ◌*◌, ◌/◌, ◌%◌, ◌==◌, nat_lt, nat_le, if◌then◌else◌, Bool, List, [], ◌∷◌, ◌++◌, length, flat_map, codes, decimal}
use Rattle.std.specs.Int.{div_ceil}
use Rattle.std.specs.List.{list_any}
use Rattle.nv_map.specs.declared.uses.BlockUse.{BlockUse}
use Rattle.nv_map.specs.declared.uses.BlockUse.TheVariants.{Free, System, Table, Data, Log, Doubled}
use Rattle.nv_map.specs.declared.cells.Cells.{Cells}
use Rattle.nv_map.specs.declared.shares.Share.{Share}
use Rattle.nv_map.specs.Shares.{told_by}

-- the colour of a use
abbrev pub colour : BlockUse → List ℕ
colour Free = codes "#e6e6e6"
colour System = codes "#7f7f7f"
colour Table = codes "#b07aa1"
colour Data = codes "#4c8ed9"
colour Log = codes "#59a14f"
colour Doubled = codes "#d62728"

-- what a use is called
abbrev pub use_name : BlockUse → List ℕ
use_name Free = codes "free"
use_name System = codes "system"
use_name Table = codes "table"
use_name Data = codes "data"
use_name Log = codes "log"
use_name Doubled = codes "doubled"

-- what a title calls blocks of a use
abbrev pub use_phrase : BlockUse → List ℕ
use_phrase Free = codes "free"
use_phrase System = codes "of the system"
use_phrase Table = codes "of tables"
use_phrase Data = codes "of data"
use_phrase Log = codes "of logs"
use_phrase Doubled = codes "doubled"

-- the last use that one of the blocks has
abbrev pub told_use : Share → BlockUse
told_use share = if nat_lt 0 share.doubled then Doubled
    else if nat_lt 0 share.logs then Log
    else if nat_lt 0 share.files then Data
    else if nat_lt 0 share.tables then Table
    else if nat_lt 0 share.system then System
    else Free

-- By how many of its blocks a cell is shaded. Doubled ones are shown as clearly as if all were.
abbrev pub shaded_blocks : Share → BlockUse → ℕ
shaded_blocks share Doubled = share.blocks
shaded_blocks share kind = told_by share kind

-- How opaque a square is, of which so many of its blocks have the use that is told: from 20 hundredths to 1, where all have it.
abbrev pub shade_text : ℕ → ℕ → List ℕ
shade_text count blocks = if nat_le blocks count then codes "1" else codes "." ++ decimal (20 + count * 80 / blocks)

-- the first lines, for rows of this height in all, below which there is place for what the colours mean; the ground is white
unfoldable pub head_line : ℕ → List ℕ
head_line height =
    codes "<svg xmlns=\"http://www.w3.org/2000/svg\" viewBox=\"0 0 690 " ++ decimal (height + 30)
    ++ codes "\" width=\"690\" height=\"" ++ decimal (height + 30)
    ++ codes "\" font-family=\"sans-serif\" font-size=\"12\">\n<rect width=\"690\" height=\"" ++ decimal (height + 30)
    ++ codes "\" fill=\"#ffffff\"/>\n"

-- the number of a row's first block, beside it
unfoldable pub number_line : ℕ → ℕ → List ℕ
number_line y number =
    codes "<text x=\"34\" y=\"" ++ decimal (y + 8) ++ codes "\" font-size=\"9\" text-anchor=\"end\">" ++ decimal number ++ codes "</text>\n"

-- the same where the cell of this place, with this first block, is the first of a row
abbrev pub number_at : ℕ → ℕ → List ℕ
number_at place first = if place % 64 == 0 then number_line (place / 64 * 10) first else []

-- how many blocks have a use, where some do
abbrev pub part_text : ℕ → List ℕ → List ℕ
part_text count phrase = if nat_lt 0 count then decimal count ++ codes " " ++ phrase ++ codes ", " else []

-- the same of a cell and a use
abbrev pub kind_text : Share → BlockUse → List ℕ
kind_text share kind = part_text (told_by share kind) (use_phrase kind)

-- the same of a cell and some uses
abbrev pub parts_text : Share → List BlockUse → List ℕ
parts_text share kinds = flat_map (kind_text share) kinds

-- which blocks a cell has
unfoldable pub range_text : ℕ → ℕ → List ℕ
range_text first last = codes "blocks " ++ decimal first ++ codes " to " ++ decimal last ++ codes ": "

-- how many blocks are free
unfoldable pub free_text : ℕ → List ℕ
free_text free = decimal free ++ codes " free"

-- which blocks a cell has, and how many of them have each use
unfoldable pub title_text : Share → List ℕ
title_text share = range_text share.first share.last ++ parts_text share (Doubled ∷ Log ∷ Data ∷ Table ∷ System ∷ []) ++ free_text share.free

-- where a square is, and its colour
unfoldable pub place_text : ℕ → ℕ → BlockUse → List ℕ
place_text x y kind =
    codes "<rect x=\"" ++ decimal x ++ codes "\" y=\"" ++ decimal y
    ++ codes "\" width=\"9\" height=\"9\" fill=\"" ++ colour kind ++ codes "\" fill-opacity=\""

-- the square of a cell, with its title
unfoldable pub cell_line : ℕ → ℕ → Share → List ℕ
cell_line x y share =
    place_text x y (told_use share) ++ shade_text (shaded_blocks share (told_use share)) share.blocks
    ++ codes "\"><title>" ++ title_text share ++ codes "</title></rect>\n"

-- a square of the colour of a use
unfoldable pub square_line : ℕ → ℕ → BlockUse → List ℕ
square_line x y kind =
    codes "<rect x=\"" ++ decimal x ++ codes "\" y=\"" ++ decimal y
    ++ codes "\" width=\"9\" height=\"9\" fill=\"" ++ colour kind ++ codes "\"/>\n"

-- words beside such a square
unfoldable pub words_line : ℕ → ℕ → List ℕ → List ℕ
words_line x y words =
    codes "<text x=\"" ++ decimal x ++ codes "\" y=\"" ++ decimal (y + 9) ++ codes "\">" ++ words ++ codes "</text>\n"

-- the squares of cells from the one of this number on, 64 in a row
unfoldable pub cell_lines : ℕ → List Share → List ℕ
cell_lines place [] = []
cell_lines place (share ∷ shares) =
    number_at place share.first ++ cell_line (40 + place % 64 * 10) (place / 64 * 10) share ++ cell_lines (place + 1) shares

-- the squares of the uses from the one of this number on, each with what the use is called
unfoldable pub use_lines : ℕ → ℕ → List BlockUse → List ℕ
use_lines y place [] = []
use_lines y place (kind ∷ kinds) =
    square_line (40 + place * 8 * 10) y kind ++ words_line (40 + place * 8 * 10 + 14) y (use_name kind) ++ use_lines y (place + 1) kinds

-- whether a cell has a block of a table's chain
abbrev pub has_tables : List Share → Bool
has_tables shares = list_any (λ share. nat_lt 0 share.tables) shares

-- the uses that are told below: that of tables where a cell has it, which a region of version 1 has not
abbrev pub told_uses : List Share → List BlockUse
told_uses shares = if has_tables shares then Free ∷ System ∷ Table ∷ Data ∷ Log ∷ Doubled ∷ [] else Free ∷ System ∷ Data ∷ Log ∷ Doubled ∷ []

-- how many blocks a cell has, behind so many uses
unfoldable pub each_line : ℕ → ℕ → ℕ → List ℕ
each_line y count each =
    codes "<text x=\"" ++ decimal (40 + count * 8 * 10) ++ codes "\" y=\"" ++ decimal (y + 9)
    ++ codes "\">blocks in a cell: " ++ decimal each ++ codes "</text>\n"

-- what the colours mean, and how many blocks a cell has
abbrev pub legend_lines : ℕ → List BlockUse → ℕ → List ℕ
legend_lines y uses each = use_lines y 0 uses ++ each_line y (length uses) each

-- the height of all rows of so many cells
abbrev pub rows_height : ℕ → ℕ
rows_height count = div_ceil count 64 * 10

-- the whole drawing
abbrev pub drawing : Cells → List ℕ
drawing cells =
    head_line (rows_height (length cells.shares.items)) ++ cell_lines 0 cells.shares.items
    ++ legend_lines (rows_height (length cells.shares.items) + 10) (told_uses cells.shares.items) cells.each ++ codes "</svg>\n"
