use Rattle.std.proofs.Common.{◌≡◌, ◌+◌, ◌*◌, ◌<◌, ◌≤◌, false}
use Rattle.nv_region.specs.Region.{size}
use Rattle.nv_region.specs.Fuses.{KeepsFuse}
use Rattle.nv_region.specs.Stored.{StoresOnly}
use Rattle.nv_mounted.specs.Bytes.{byte_in}
use Rattle.nv_bytes.specs.Bytes.{byte_after}
use Rattle.nv_bytes.specs.Storing.{InBlocks}
use Rattle.nv_bytes.proofs.StoredPages.{HoldsWords}
use Rattle.nv_bytes.proofs.storing.store_mixed_page.Given as goal
use Rattle.nv_bytes.specs.Data.{data_bytes}

abbrev pub invariant-loop-k : goal.invariant-loop-k
invariant-loop-k g l = record {
  made : HoldsWords (g.P.Pmem.region l.memory) (byte_after l.change.offset (data_bytes l.change.content) l.change.size (byte_in (g.P.Pmem.region l.fn.memory) l.from)) l.to l.page (8 * l.k);
  wrote : StoresOnly (InBlocks (λ b. b ≡ l.to)) (g.P.Pmem.region l.fn.memory) (g.P.Pmem.region l.memory) (g.P.Pmem.may_hold l.fn.memory) (g.P.Pmem.may_hold l.memory);
  len : size (g.P.Pmem.region l.memory) ≡ size (g.P.Pmem.region l.fn.memory);
  quiet : 0 < l.k → (g.P.Pmem.fuse l.memory).has_burnt ≡ false;
  keeps_fuse : KeepsFuse (λ limit. l.to * 4096 + 4096 ≤ limit) (g.P.Pmem.fuse l.fn.memory) (g.P.Pmem.fuse l.memory);
}
