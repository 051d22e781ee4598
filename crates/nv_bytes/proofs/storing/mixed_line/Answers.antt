use Rattle.std.proofs.Common.{◌∙◌, length-set}
use Rattle.nv_mounted.specs.Bytes.{byte_in}
use Rattle.nv_bytes.specs.Bytes.{byte_after}
use Rattle.nv_bytes.proofs.StoredPages.{line_more}
use Rattle.nv_bytes.proofs.storing.mixed_line.Goals as goal
use Rattle.nv_bytes.specs.Data.{data_bytes}

pub loop-j-preserved : goal.loop-j-preserved
loop-j-preserved g c = record {
  eight = length-set c.loop-j.line c.loop-j.j c.next_word.result ∙ c.loop-j.invariant.eight;
  made =
      line_more (byte_after c.args.change.now.offset (data_bytes c.args.change.now.content) c.args.change.now.size (byte_in (g.P.Pmem.region c.args.memory.now) c.args.block)) c.loop-j.line c.args.x c.loop-j.j c.next_word.result c.loop-j.invariant.eight c.loop-j-test.true
      c.loop-j.invariant.made c.next_word.ensures;
}
