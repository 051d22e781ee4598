use Rattle.std.proofs.Common.{◌≡◌, ◌+◌, ◌≤◌, false, drop}
use Rattle.nv_region.specs.Region.{size}
use Rattle.nv_region.specs.Fuses.{KeepsFuse}
use Rattle.nv_region.specs.Stored.{StoresOnly}
use Rattle.nv_alloc.specs.Taking.{HasBlock, blocks_in}
use Rattle.nv_bytes.specs.Bytes.{byte_after, file_byte}
use Rattle.nv_bytes.specs.Storing.{InBlocks}
use Rattle.nv_bytes.proofs.StoredPages.{Storing}
use Rattle.nv_bytes.proofs.storing.store_pages.Given as goal
use Rattle.nv_bytes.specs.Data.{data_bytes}

abbrev pub invariant-loop-run : goal.invariant-loop-run
invariant-loop-run g l = record {
  storing : Storing (g.P.Pmem.region l.fn.memory) l.index (byte_after l.change.offset (data_bytes l.change.content) l.change.size (file_byte (g.P.Pmem.region l.fn.memory) l.index)) l.first l.runs (g.P.Pmem.region l.memory) l.page (drop l.run-index l.runs);
  pages : l.page + blocks_in (drop l.run-index l.runs) ≡ l.first + blocks_in l.runs;
  wrote : StoresOnly (InBlocks (HasBlock l.runs)) (g.P.Pmem.region l.fn.memory) (g.P.Pmem.region l.memory) (g.P.Pmem.may_hold l.fn.memory) (g.P.Pmem.may_hold l.memory);
  quiet : (g.P.Pmem.fuse l.fn.memory).has_burnt ≡ false → (g.P.Pmem.fuse l.memory).has_burnt ≡ false;
  keeps_fuse : KeepsFuse (λ limit. size (g.P.Pmem.region l.fn.memory) ≤ limit) (g.P.Pmem.fuse l.fn.memory) (g.P.Pmem.fuse l.memory);
}
