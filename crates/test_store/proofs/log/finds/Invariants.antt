use Rattle.std.proofs.Common.{◌≡◌}
use Rattle.test_store.proofs.log.finds.Given as goal

abbrev pub invariant-loop-wanted : goal.invariant-loop-wanted
invariant-loop-wanted g l = l.reader.sup ≡ l.fn.reader.sup
