-- How many blocks `set_attr` takes.
use Rattle.std.specs.Prelude.{ℕ, List}
use Rattle.nv_scan.specs.declared.piece.Row.{Row}
use Rattle.nv_tree.specs.Tree.{Tree}
use Rattle.nv_tree.specs.Refusals.{Path}
use Rattle.nv_calls.specs.GrownLogs.{log_blocks}
use Rattle.nv_steps.specs.Attributes.{attributes}

-- how many blocks they take in the log of the inode that a path leads to
abbrev pub attributes_blocks : List Row → Tree → Path → ℕ
attributes_blocks rows t p = log_blocks rows t p (λ row. attributes row.numbers.size 0 0 0 0)
