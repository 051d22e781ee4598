use Rattle.std.proofs.Common.{◌≡◌, ◌++◌, map, drop}
use Rattle.nv_names.specs.Names.{line_of}
use Rattle.nv_names.specs.Table.{fresh_line}
use Rattle.nv_names.proofs.fresh.push_fresh.Given as goal

-- the lines so far and those of the names to come are all lines
abbrev pub invariant-loop-name : goal.invariant-loop-name
invariant-loop-name l = map line_of l.listed.items ++ map fresh_line (drop l.name-index l.list) ≡ map line_of l.initial.listed.items ++ map fresh_line l.list
