use Rattle.std.proofs.Common.{◌+◌, arith, subst, sym}
use Rattle.nv_super.specs.declared.superblock.Super.{Super}
use Rattle.nv_super.specs.declared.kind.Kind.{Kind}
use Rattle.nv_super.specs.declared.kind.Kind.TheVariants.{File}
use Rattle.nv_logpage.specs.Progress.{gone_to}
use Rattle.nv_logpage.specs.Places.{IsPlaceUpTo}
use Rattle.nv_scan.specs.Reading.{IsReadSoFar}
use Rattle.nv_scan.proofs.ReadSoFar.{read_write}
use Rattle.nv_scan.proofs.reading.take_writes.Goals as goal

pub loop-e-preserved : goal.loop-e-preserved
loop-e-preserved g c =
    let R = g.P.Pmem.region c.args.memory.now in
    let i = c.args.used.now.inode in
    let is = c.in-File.is in
    record {
      place = subst (λ (s : Super). IsPlaceUpTo s c.args.reader.now.tail c.in_ok-at.at c.end-end.result) (sym c.requires.sup) c.in_ok-at.ensures.place;
      read = λ head created before. (
          let as_file = subst (λ (k : Kind). IsReadSoFar R head k i created (gone_to c.args.reader.now c.loop-e.at) c.loop-e.fold) is (c.loop-e.invariant.read head created before) in
          let one = read_write R head c.args.sup.now File i created (gone_to c.args.reader.now c.loop-e.at) (gone_to c.args.reader.now (c.loop-e.at + 40)) c.loop-e.fold c.take_write.new.self c.in-Some.e as_file c.in-Some.ensures.leads c.requires.sup c.requires.sup c.in_ok-take_write.ensures in
          subst (λ (k : Kind). IsReadSoFar R head k i created (gone_to c.args.reader.now c.in_ok-at.at) c.take_more.new.fold) (sym is)
          (c.in_ok-at.ensures.read head i created one));
      less = omega (arith, c.in-Some.ensures.less, c.in_ok-at.ensures.less, c.loop-e.invariant.less);
    }
