use Rattle.std.proofs.Common.{◌≡◌, ◌+◌, ◌<◌, ◌≤◌, ℕ, false}
use Rattle.nv_region.specs.Region.{size}
use Rattle.nv_region.specs.Fuses.{KeepsFuse}
use Rattle.nv_region.specs.Stored.{StoresOnly}
use Rattle.nv_super.specs.Runs.{InRun}
use Rattle.nv_bytes.specs.Bytes.{byte_after, file_byte}
use Rattle.nv_bytes.specs.Storing.{HoldsPage, InBlocks}
use Rattle.nv_bytes.proofs.storing.store_run.Given as goal
use Rattle.nv_bytes.specs.Data.{data_bytes}

abbrev pub invariant-loop-k : goal.invariant-loop-k
invariant-loop-k g l = record {
  stored : (j : ℕ) → j < l.k → HoldsPage (g.P.Pmem.region l.memory) (byte_after l.change.offset (data_bytes l.change.content) l.change.size (file_byte (g.P.Pmem.region l.fn.memory) l.index)) (l.run.start + j) (l.page + j);
  wrote : StoresOnly (InBlocks (InRun l.run)) (g.P.Pmem.region l.fn.memory) (g.P.Pmem.region l.memory) (g.P.Pmem.may_hold l.fn.memory) (g.P.Pmem.may_hold l.memory);
  len : size (g.P.Pmem.region l.memory) ≡ size (g.P.Pmem.region l.fn.memory);
  quiet : (g.P.Pmem.fuse l.fn.memory).has_burnt ≡ false → (g.P.Pmem.fuse l.memory).has_burnt ≡ false;
  keeps_fuse : KeepsFuse (λ limit. size (g.P.Pmem.region l.fn.memory) ≤ limit) (g.P.Pmem.fuse l.fn.memory) (g.P.Pmem.fuse l.memory);
}
