use Rattle.std.proofs.Common.{◌≡◌, ◌+◌, ◌*◌, ◌≤◌, ℕ, None, arith}
use Rattle.std.proofs.lemmas.Bool.Decides.{nat_tests}
use Rattle.nv_super.specs.declared.kind.Kind.TheVariants.{File}
use Rattle.nv_logpage.specs.Progress.{gone_to}
use Rattle.nv_radix.specs.Runs.{block_by}
use Rattle.nv_scan.proofs.InARow.{kept_with, row_before, takes_write, row_more, read_same}
use Rattle.nv_scan.proofs.ReadSoFar.{read_write}
use Rattle.nv_scan.proofs.in_a_row.take_row.Goals as goal

pub loop-e-preserved : goal.loop-e-preserved
loop-e-preserved g c =
    let s = c.args.sup.now in
    let first = c.in-Some.first in
    let f = c.args.fold.now in
    let e = c.in-Some-next_in_row.e in
    let said = c.in-Some-next_in_row.ensures in
    let none : (p : ℕ) → first.size ≤ p * 4096 → block_by f.extents p ≡ None =
    λ p past. c.ends_by.ensures c.if-not-ends_by.false p (let test = c.first_page_past.ensures p in grind (arith, nat_tests, test, past)) in
    let pages = row_more s first e c.loop-e.count f.extents said.good said.page said.block said.size none in
    let takes = λ (i : ℕ). takes_write s e said.good i c.loop-e.at f c.loop-e.numbers c.apply_write.new.self (row_before first c.loop-e.count f.extents) (row_before first (c.loop-e.count + e.count) f.extents) c.apply_write.ensures pages in
    record {
      place = said.onward;
      read = λ head i created so_far. read_write (g.P.Pmem.region c.args.memory.now) head s File i created (gone_to c.args.reader.now c.loop-e.at) (gone_to c.args.reader.now (c.loop-e.at + 40))
          (kept_with f c.loop-e.numbers (row_before first c.loop-e.count f.extents)) (kept_with f c.apply_write.new.self (row_before first (c.loop-e.count + e.count) f.extents)) e (c.loop-e.invariant.read head i created so_far) said.leads c.requires.sup c.requires.sup (takes i);
      less = omega (arith, said.less, c.loop-e.invariant.less);
      few = λ some. omega (arith, said.few, said.page);
      inside = λ some. omega (arith, said.inside, said.block);
    }

pub returns-clause-read : goal.returns-clause-read
returns-clause-read g c = λ head i created so_far.
    read_same (g.P.Pmem.region c.args.memory.now) head i created (gone_to c.args.reader.now c.loop-e.at) c.args.fold.now c.loop-e.numbers (row_before c.in-Some.first c.loop-e.count c.args.fold.now.extents) c.set_run.new.self
    (λ p. c.in_ok-set_run.ensures p) (c.loop-e.invariant.read head i created so_far)
