-- How many blocks `unlink` takes.
use Rattle.std.specs.Prelude.{ℕ, ◌+◌, nat_lt, Bool, false, if◌then◌else◌, List}
use Rattle.std.specs.Option.{option_map_or}
use Rattle.nv_scan.specs.declared.piece.Row.{Row}
use Rattle.nv_tree.specs.Tree.{Tree}
use Rattle.nv_tree.specs.Calls.{links_at}
use Rattle.nv_tree.specs.Refusals.{Path, target}
use Rattle.nv_calls.specs.LinkCalls.{links_blocks}
use Rattle.nv_calls.specs.NameCalls.{name_blocks}

-- the inode of a path has more links than one
abbrev pub has_more_links : Tree → Path → Bool
has_more_links t p = option_map_or (λ i. nat_lt 1 (links_at t i)) (target t p) false

-- those of the directory, and those of the file where it stays
abbrev pub unlink_blocks : List Row → Tree → Path → ℕ
unlink_blocks rows t p = name_blocks rows t p + (if has_more_links t p then links_blocks rows t p else 0)
