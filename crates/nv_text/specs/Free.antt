-- The lines of the free blocks.
use Rattle.std.specs.Prelude.{ℕ, ◌+◌, ◌-◌, ◌==◌, if◌then◌else◌, List, ◌++◌, flat_map, codes, decimal}
use Rattle.std.specs.List.{enumerate_from}
use Rattle.nv_super.specs.declared.owners.Run.{Run}
use Rattle.nv_text.specs.Answers.{line}

-- the blocks of a run: the first and the last, or the one
unfoldable pub run_text : Run → List ℕ
run_text r = if r.count == 1 then decimal r.start else (decimal r.start ++ codes "-" ++ decimal (r.start + r.count - 1))

-- the free runs of one CPU's pool
abbrev pub free_line : ℕ → List Run → List ℕ
free_line cpu runs = line (codes "free " ++ decimal cpu ++ flat_map (λ r. codes " " ++ run_text r) runs)

-- the same for each CPU, numbered from 0 on
abbrev pub free_lines : List (List Run) → List ℕ
free_lines pools = flat_map (λ (x : ℕ × List Run). free_line x.0 x.1) (enumerate_from 0 pools)
