use Rattle.std.specs.Io.KnownBytes.{Consumes}
use Rattle.nv_host.proofs.listing.read_listing.Given as goal

abbrev pub invariant-pieces : goal.invariant-pieces
invariant-pieces g l = Consumes (g.R.Read.remaining l.fn.reader) (g.R.Read.remaining l.reader) l.listing.items
