use Rattle.std.proofs.Common.{◌≡◌, ◌≤◌, false, drop}
use Rattle.nv_region.specs.Region.{size}
use Rattle.nv_region.specs.Fuses.{KeepsFuse}
use Rattle.nv_region.specs.Stored.{StoresOnly}
use Rattle.nv_alloc.specs.Taking.{HasBlock}
use Rattle.nv_bytes.specs.Bytes.{byte_after, file_byte}
use Rattle.nv_bytes.specs.Storing.{InBlocks}
use Rattle.nv_steps.specs.Written.{entry_blocks}
use Rattle.nv_steps.proofs.StoredEntries.{Storing}
use Rattle.nv_steps.proofs.storing_data.store_data.Given as goal
use Rattle.nv_bytes.specs.Data.{data_bytes}

abbrev pub invariant-loop-entry : goal.invariant-loop-entry
invariant-loop-entry g l = record {
  storing : Storing (g.P.Pmem.region l.fn.memory) l.index (byte_after l.change.offset (data_bytes l.change.content) l.change.size (file_byte (g.P.Pmem.region l.fn.memory) l.index)) l.entries (g.P.Pmem.region l.memory) (drop l.entry-index l.entries);
  wrote : StoresOnly (InBlocks (HasBlock (entry_blocks l.entries))) (g.P.Pmem.region l.fn.memory) (g.P.Pmem.region l.memory) (g.P.Pmem.may_hold l.fn.memory) (g.P.Pmem.may_hold l.memory);
  quiet : (g.P.Pmem.fuse l.fn.memory).has_burnt ≡ false → (g.P.Pmem.fuse l.memory).has_burnt ≡ false;
  keeps_fuse : KeepsFuse (λ limit. size (g.P.Pmem.region l.fn.memory) ≤ limit) (g.P.Pmem.fuse l.fn.memory) (g.P.Pmem.fuse l.memory);
}
