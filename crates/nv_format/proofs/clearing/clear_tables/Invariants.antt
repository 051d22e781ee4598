use Rattle.std.proofs.Common.{◌≡◌, ◌*◌, ◌<◌, ◌≤◌, ℕ}
use Rattle.nv_region.specs.Region.{HasBlocks, word}
use Rattle.nv_region.specs.Fuses.{KeepsFuse}
use Rattle.nv_region.specs.Stored.{StoresOnly}
use Rattle.nv_super.specs.Layout.{system_blocks}
use Rattle.nv_inode.specs.Slot.{nth_slot}
use Rattle.nv_format.specs.Format.{AnyAt, IsValidWord}
use Rattle.nv_format.proofs.clearing.clear_tables.Given as goal

abbrev pub invariant-loop-place : goal.invariant-loop-place
invariant-loop-place g l = record {
  blocks : HasBlocks (g.P.Pmem.region l.memory) l.sup.blocks;
  unused : (k : ℕ) → k < l.place → word (g.P.Pmem.region l.memory) (nth_slot l.sup k) ≡ 0;
  wrote : StoresOnly (AnyAt (IsValidWord l.sup)) (g.P.Pmem.region l.fn.memory) (g.P.Pmem.region l.memory) (g.P.Pmem.may_hold l.fn.memory) (g.P.Pmem.may_hold l.memory);
  keeps_fuse : KeepsFuse (λ limit. 4096 * system_blocks l.sup ≤ limit) (g.P.Pmem.fuse l.fn.memory) (g.P.Pmem.fuse l.memory);
}
