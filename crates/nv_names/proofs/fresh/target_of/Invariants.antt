use Rattle.std.proofs.Common.{◌≡◌, map, drop}
use Rattle.nv_names.specs.Names.{found_in}
use Rattle.nv_names.specs.Table.{fresh_line}
use Rattle.nv_names.proofs.fresh.target_of.Given as goal

-- the names so far are others
abbrev pub invariant-loop-held : goal.invariant-loop-held
invariant-loop-held l = found_in (map fresh_line (drop l.held-index l.list)) l.name ≡ found_in (map fresh_line l.list) l.name
