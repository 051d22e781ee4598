use Rattle.std.proofs.Common.{◌≡◌, ◌++◌, map}
use Rattle.nv_names.specs.Names.{line_of}
use Rattle.nv_names.specs.Bucket.{other_line}
use Rattle.nv_names.proofs.bucket.push_others.Given as goal

-- the lines so far and those of the names to come are all lines
abbrev pub invariant-loop-name : goal.invariant-loop-name
invariant-loop-name l = map line_of l.listed.items ++ map other_line l.name-iterator ≡ map line_of l.initial.listed.items ++ map other_line l.others.entries
