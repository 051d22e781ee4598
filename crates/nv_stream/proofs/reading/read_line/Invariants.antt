use Rattle.std.proofs.Common.{◌-◌, ◌≤◌, length}
use Rattle.std.specs.Io.KnownBytes.{Consumes}
use Rattle.std.specs.Vec.{vec_capacity}
use Rattle.nv_stream.proofs.Plain.{IsPlain}
use Rattle.nv_stream.proofs.reading.read_line.Given as goal

abbrev pub invariant-bytes : goal.invariant-bytes
invariant-bytes g l = Consumes (g.R.Read.remaining l.initial.reader) (g.R.Read.remaining l.reader) l.line.items × IsPlain l.line.items × (vec_capacity l.fn.line ≤ vec_capacity l.line)

abbrev pub decreases-bytes : goal.decreases-bytes
decreases-bytes g l = 4097 - length l.line.items
