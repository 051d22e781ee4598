use Rattle.std.proofs.Common.{◌≡◌, ◌≤◌, ◌+◌}
use Rattle.nv_region.specs.Region.{size}
use Rattle.nv_region.specs.Fuses.{KeepsFuse}
use Rattle.nv_region.specs.Stored.{StoresOnly, Within}
use Rattle.nv_journal.specs.Recorded.{Recorded}
use Rattle.nv_journal.specs.Undo.{journal}
use Rattle.nv_journal.proofs.committing.write_records.Given as goal

abbrev pub invariant-loop-k : goal.invariant-loop-k
invariant-loop-k g l = record {
  recorded : Recorded (g.P.Pmem.region l.memory) l.pending l.records l.k;
  wrote : StoresOnly (Within (journal l.pending.cpu + 64) 4032) (g.P.Pmem.region l.fn.memory) (g.P.Pmem.region l.memory) (g.P.Pmem.may_hold l.fn.memory) (g.P.Pmem.may_hold l.memory);
  len : size (g.P.Pmem.region l.memory) ≡ size (g.P.Pmem.region l.fn.memory);
  keeps_fuse : KeepsFuse (λ limit. journal l.pending.cpu + 4096 ≤ limit) (g.P.Pmem.fuse l.fn.memory) (g.P.Pmem.fuse l.memory);
}
