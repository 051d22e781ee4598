use Rattle.std.proofs.Common.{◌≡◌, ◌++◌, map}
use Rattle.nv_names.specs.Names.{line_of}
use Rattle.nv_names.specs.Bucket.{first_line}
use Rattle.nv_names.proofs.bucket.push_first.Given as goal

-- the lines so far and those of the names to come are all lines
abbrev pub invariant-loop-held : goal.invariant-loop-held
invariant-loop-held l = map line_of l.listed.items ++ map first_line l.held-iterator ≡ map line_of l.initial.listed.items ++ map first_line l.first.entries
