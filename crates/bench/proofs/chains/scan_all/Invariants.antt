use Rattle.std.proofs.Common.{◌≡◌, length}
use Rattle.bench.proofs.chains.scan_all.Given as goal

abbrev pub invariant-loop-ticket : goal.invariant-loop-ticket
invariant-loop-ticket l = record {
  same : l.scanner ≡ l.tables.layout.sup;
  room : length l.each.items ≡ 32;
}
