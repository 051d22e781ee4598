use Rattle.std.proofs.Common.{◌≡◌, ◌+◌, ◌*◌, ◌<◌, ◌≤◌, ℕ}
use Rattle.nv_region.specs.Region.{size, word}
use Rattle.nv_region.specs.Fuses.{KeepsFuse}
use Rattle.nv_region.specs.Stored.{StoresOnly, Within}
use Rattle.nv_inode.proofs.growing.clear_starts.Given as goal

abbrev pub invariant-loop-k : goal.invariant-loop-k
invariant-loop-k g l = record {
  long : size (g.P.Pmem.region l.memory) ≡ size (g.P.Pmem.region l.fn.memory);
  blank : (k : ℕ) → k < l.k → word (g.P.Pmem.region l.memory) (l.at + 128 * k) ≡ 0;
  wrote : StoresOnly (Within l.at 4096) (g.P.Pmem.region l.fn.memory) (g.P.Pmem.region l.memory) (g.P.Pmem.may_hold l.fn.memory) (g.P.Pmem.may_hold l.memory);
  keeps_fuse : KeepsFuse (λ limit. l.at + 4096 ≤ limit) (g.P.Pmem.fuse l.fn.memory) (g.P.Pmem.fuse l.memory);
}
