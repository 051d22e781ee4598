use Rattle.std.proofs.Common.{rules, ap}
use Rattle.nv_stream.proofs.Limits.{read_within}
use Rattle.nv_stream.proofs.contents.read_whole.Goals as goal

pub returns-then-count-limit-clause-bytes : goal.returns-then-count-limit-clause-bytes
returns-then-count-limit-clause-bytes g c =
    read_within (g.R.Read.remaining c.args.reader) (g.R.Read.remaining c.take-reader.result.inner) c.take-reader.result.limit c.args.limit c.in_ok-bytes.bytes.items
    c.read_to_end.new.buf.items (ap g.R.Read.remaining c.take-reader.ensures.inner) c.in_ok-bytes.ensures.items c.take-reader.ensures.limit
    c.in_ok-count.ensures.bytes (search rules)
