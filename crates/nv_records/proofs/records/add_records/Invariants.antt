use Rattle.std.proofs.Common.{ℕ, List, ◌++◌}
use Rattle.nv_records.specs.Records.{AreTold}
use Rattle.nv_records.proofs.Listed.{places_from}
use Rattle.nv_records.proofs.records.add_records.Given as goal

abbrev pub invariant-loop-behind : goal.invariant-loop-behind
invariant-loop-behind g l = (places : List (ℕ × ℕ)) → AreTold l.tables.layout (g.P.Pmem.region l.memory) places l.fn.records.items
    → AreTold l.tables.layout (g.P.Pmem.region l.memory) (places ++ places_from (g.P.Pmem.region l.memory) l.cpu l.behind) l.records.items
