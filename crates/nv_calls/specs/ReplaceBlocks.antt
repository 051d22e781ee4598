-- How many blocks `replace` takes.
use Rattle.std.specs.Prelude.{ℕ, ◌+◌, Bool, false, if◌then◌else◌, List, Some, None}
use Rattle.std.specs.Option.{option_map_or}
use Rattle.nv_scan.specs.declared.piece.Row.{Row}
use Rattle.nv_tree.specs.Path.{last_name}
use Rattle.nv_tree.specs.Tree.{Tree, found, walk}
use Rattle.nv_tree.specs.Refusals.{Path, target}
use Rattle.nv_tree.specs.Replace.{are_one}
use Rattle.nv_steps.specs.Across.{handed_entries}
use Rattle.nv_steps.specs.Takes.{take_entries}
use Rattle.nv_calls.specs.LinkCalls.{links_blocks}
use Rattle.nv_calls.specs.MoveCalls.{end_together, rename_blocks}
use Rattle.nv_calls.specs.NameCalls.{ended_row, name_blocks, row_blocks}
use Rattle.nv_calls.specs.ReplaceLogs.{has_others}

-- the inode of a path is a file with more links than one
abbrev pub is_named_twice : Tree → Path → Bool
is_named_twice t p = option_map_or (λ i. option_map_or has_others (t i) false) (target t p) false

-- those of one log for all three entries, or those of each of two directories for its own
abbrev pub names_blocks : List Row → Tree → List (List ℕ) → List (List ℕ) → ℕ
names_blocks rows t names others = if end_together (walk t 1 names) (walk t 1 others)
    then row_blocks (ended_row rows (walk t 1 names)) (take_entries 0 0 (last_name names) (last_name others) 0) else name_blocks rows t (Some names) + row_blocks (ended_row rows (walk t 1 others))
    (handed_entries 0 0 (last_name others) 0)

-- where the new name stands for another inode, and those of its log where it has other names
abbrev pub taken_blocks : List Row → Tree → List (List ℕ) → List (List ℕ) → ℕ
taken_blocks rows t names others = if are_one t (Some names) (Some others) then 0 else names_blocks rows t names others
    + (if is_named_twice t (Some others) then links_blocks rows t (Some others) else 0)

-- else it takes those of `rename`
abbrev pub replace_blocks : List Row → Tree → Path → Path → ℕ
replace_blocks rows t None q = 0
replace_blocks rows t (Some names) None = 0
replace_blocks rows t (Some names) (Some others) = option_map_or (λ j. taken_blocks rows t names others) (found t others) (rename_blocks rows t (Some names) (Some others))
