use Rattle.std.proofs.Common.{◌≡◌, ◌+◌, ◌*◌, ◌≤◌, ◌<◌, length, false}
use Rattle.nv_region.specs.Lines.{FirstStored}
use Rattle.nv_region.specs.Fuses.{KeepsFuse}
use Rattle.nv_region.proofs.pmem.Pmem.store_words.Given as goal

abbrev pub invariant-loop-k : goal.invariant-loop-k
invariant-loop-k g l = record {
  first : FirstStored l.at l.words l.k (g.Self.Pmem.region l.fn.self) (g.Self.Pmem.region l.self) (g.Self.Pmem.may_hold l.fn.self) (g.Self.Pmem.may_hold l.self);
  quiet : 0 < l.k → (g.Self.Pmem.fuse l.self).has_burnt ≡ false;
  keeps_fuse : KeepsFuse (λ limit. l.at + 8 * length l.words ≤ limit) (g.Self.Pmem.fuse l.fn.self) (g.Self.Pmem.fuse l.self);
}
