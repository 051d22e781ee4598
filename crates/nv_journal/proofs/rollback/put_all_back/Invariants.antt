use Rattle.std.proofs.Common.{◌≤◌, ◌≡◌, ◌-◌, ◌*◌}
use Rattle.nv_region.specs.Fuses.{KeepsFuse}
use Rattle.nv_region.specs.Stored.{SameOutside, StoresOnly}
use Rattle.nv_inode.specs.Permitted.{is_permitted_by, slots_end}
use Rattle.nv_journal.specs.Undo.{permitted, pending_from, stores}
use Rattle.nv_journal.specs.Undone.{OldValues}
use Rattle.nv_journal.proofs.rollback.put_all_back.Given as goal

abbrev pub invariant-loop-done : goal.invariant-loop-done
invariant-loop-done g l = record {
  so_far : g.P.Pmem.region l.memory ≡ stores (permitted (is_permitted_by l.tables.layout) (pending_from (g.P.Pmem.region l.fn.memory) l.pending.cpu (l.count - l.done) l.done)) (g.P.Pmem.region l.fn.memory);
  wrote : StoresOnly (OldValues (is_permitted_by l.tables.layout) (g.P.Pmem.region l.fn.memory) l.pending.cpu) (g.P.Pmem.region l.fn.memory) (g.P.Pmem.region l.memory) (g.P.Pmem.may_hold l.fn.memory) (g.P.Pmem.may_hold l.memory);
  outside : SameOutside (g.P.Pmem.region l.fn.memory) 4096 (4096 * (slots_end l.tables.layout.sup - 1)) (g.P.Pmem.region l.memory);
  keeps_fuse : KeepsFuse (λ limit. 4096 * slots_end l.tables.layout.sup ≤ limit) (g.P.Pmem.fuse l.fn.memory) (g.P.Pmem.fuse l.memory);
}
