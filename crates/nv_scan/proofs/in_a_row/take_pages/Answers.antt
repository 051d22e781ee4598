use Rattle.std.proofs.Common.{ℕ, ◌+◌, arith}
use Rattle.nv_super.specs.declared.kind.Kind.TheVariants.{File}
use Rattle.nv_logpage.specs.Progress.{gone_to}
use Rattle.nv_scan.proofs.InARow.{kept_with, takes_write}
use Rattle.nv_scan.proofs.ReadSoFar.{read_write}
use Rattle.nv_scan.proofs.in_a_row.take_pages.Goals as goal

pub loop-e-preserved : goal.loop-e-preserved
loop-e-preserved g c =
    let takes = λ (i : ℕ). takes_write c.args.sup.now c.in-Some.e c.in-Some.ensures.good i c.loop-e.at c.loop-e.fold c.loop-e.numbers c.apply_write.new.self c.loop-e.fold.extents c.take_page.new.extents c.apply_write.ensures c.in-Some.ensures.wrote in
    record {
      place = c.in-Some.ensures.onward;
      read = λ head i created before. read_write (g.P.Pmem.region c.args.memory.now) head c.args.sup.now File i created (gone_to c.args.reader.now c.loop-e.at) (gone_to c.args.reader.now (c.loop-e.at + 40))
          (kept_with c.loop-e.fold c.loop-e.numbers c.loop-e.fold.extents) (kept_with c.loop-e.fold c.apply_write.new.self c.take_page.new.extents) c.in-Some.e (c.loop-e.invariant.read head i created before) c.in-Some.ensures.leads c.requires.sup c.requires.sup (takes i);
      less = omega (arith, c.in-Some.ensures.less, c.loop-e.invariant.less);
    }
