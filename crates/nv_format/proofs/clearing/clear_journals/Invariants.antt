use Rattle.std.proofs.Common.{◌≡◌, ◌+◌, ◌*◌, ◌<◌, ◌≤◌, ℕ}
use Rattle.nv_region.specs.Region.{HasBlocks, word}
use Rattle.nv_region.specs.Fuses.{KeepsFuse}
use Rattle.nv_region.specs.Stored.{StoresOnly}
use Rattle.nv_format.specs.Format.{AnyAt, IsPointer}
use Rattle.nv_format.proofs.clearing.clear_journals.Given as goal

abbrev pub invariant-loop-cpu : goal.invariant-loop-cpu
invariant-loop-cpu g l = record {
  blocks : HasBlocks (g.P.Pmem.region l.memory) l.sup.blocks;
  empty : (k : ℕ) → k < l.cpu → (word (g.P.Pmem.region l.memory) (4096 * (1 + k)) ≡ 0) × (word (g.P.Pmem.region l.memory) (4096 * (1 + k) + 8) ≡ 0);
  wrote : StoresOnly (AnyAt (IsPointer l.sup)) (g.P.Pmem.region l.fn.memory) (g.P.Pmem.region l.memory) (g.P.Pmem.may_hold l.fn.memory) (g.P.Pmem.may_hold l.memory);
  keeps_fuse : KeepsFuse (λ limit. 4096 * (1 + l.sup.cpus) ≤ limit) (g.P.Pmem.fuse l.fn.memory) (g.P.Pmem.fuse l.memory);
}
