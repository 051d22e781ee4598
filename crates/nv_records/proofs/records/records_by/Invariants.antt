use Rattle.nv_records.specs.Records.{AreTold, all_places}
use Rattle.nv_records.proofs.records.records_by.Given as goal

abbrev pub invariant-loop-cpu : goal.invariant-loop-cpu
invariant-loop-cpu g l = AreTold l.tables.layout (g.P.Pmem.region l.memory) (all_places (g.P.Pmem.region l.memory) l.cpu) l.records.items
