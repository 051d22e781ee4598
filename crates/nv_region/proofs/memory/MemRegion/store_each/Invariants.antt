use Rattle.std.proofs.Common.{◌≡◌, ◌+◌, ◌*◌, ◌≤◌, ◌<◌, length, false}
use Rattle.nv_region.specs.Lines.{FirstStored}
use Rattle.nv_region.specs.Fuses.{KeepsFuse}
use Rattle.nv_region.specs.RegionState.{after_stores, fenced_or_last, fuse_state}
use Rattle.nv_region.proofs.memory.MemRegion.store_each.Given as goal

abbrev pub invariant-loop-k : goal.invariant-loop-k
invariant-loop-k l = record {
  first : FirstStored l.at l.words l.k l.fn.self.region l.self.region (fenced_or_last l.fn.self) (fenced_or_last l.self);
  after : l.self ≡ after_stores l.fn.self l.at l.words l.k;
  quiet : 0 < l.k → l.self.burnt ≡ false;
  keeps_fuse : KeepsFuse (λ limit. l.at + 8 * length l.words ≤ limit) (fuse_state l.fn.self) (fuse_state l.self);
}
