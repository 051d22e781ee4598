use Rattle.std.proofs.Common.{ℕ, ◌<◌}
use Rattle.nv_records.specs.Records.{HoldsSlot}
use Rattle.nv_records.proofs.naming.search.Given as goal

abbrev pub invariant-loop-ticket : goal.invariant-loop-ticket
invariant-loop-ticket l = (t : ℕ) → t < l.ticket → HoldsSlot l.tables.layout t l.slot → ⊥
