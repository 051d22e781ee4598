use Rattle.std.proofs.Common.{◌≡◌}
use Rattle.nv_region.proofs.RecentStores.{AreNotedEach}
use Rattle.nv_region.proofs.recent.note_each.Given as goal

abbrev pub invariant-loop-store : goal.invariant-loop-store
invariant-loop-store l = record {
  total : l.stored.total ≡ l.initial.stored.total;
  each : AreNotedEach l.stores l.initial.stored.rows l.initial.stored.kept l.stored.rows l.stored.kept l.words l.store-index;
}
