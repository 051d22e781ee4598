use Rattle.std.proofs.Common.{◌≡◌, ◌++◌, map, drop}
use Rattle.nv_names.specs.Buckets.{all_lines}
use Rattle.nv_names.specs.Names.{line_of}
use Rattle.nv_names.proofs.many.push_each.Given as goal

-- the lines so far and those of the buckets to come are all lines
abbrev pub invariant-loop-bucket : goal.invariant-loop-bucket
invariant-loop-bucket l = map line_of l.listed.items ++ all_lines (drop l.bucket-index l.buckets) ≡ map line_of l.initial.listed.items ++ all_lines l.buckets
