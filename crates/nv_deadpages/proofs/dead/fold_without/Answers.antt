use Rattle.std.proofs.Common.{◌≡◌, ap, ◌∙◌}
use Rattle.nv_logpage.specs.Progress.{Progress, after}
use Rattle.nv_logpage.specs.declared.found.Finding.TheVariants.{Entry}
use Rattle.nv_logpage.specs.Light.{placed_in, finding_in}
use Rattle.nv_deadpages.proofs.ReadWithout.{read_less, read_more}
use Rattle.nv_deadpages.proofs.dead.fold_without.Goals as goal

pub reading-preserved-in-Continue-branch-3 : goal.reading-preserved-in-Continue-branch-3
reading-preserved-in-Continue-branch-3 g c =
    let R = g.P.Pmem.region c.args.memory.now in
    let is = ap (finding_in R) c.in-Entry.is in
    let moved : c.next_light.new.self ≡ after c.reading.reader (Entry (placed_in R c.in-Entry.placed)) = c.in_ok-placed.ensures.moves ∙ ap (after c.reading.reader) is in
    let sup : c.next_light.new.self.sup ≡ c.args.sup.now = ap (λ (r : Progress). r.sup) moved ∙ c.reading.invariant.sup in
    record {
      sup = sup;
      tail = ap (λ (r : Progress). r.tail) moved ∙ c.reading.invariant.tail;
      so_far = read_more R c.args.row.now c.args._created c.args.page c.args.sup.now c.reading.reader _ c.reading.fold _ (finding_in R _) (placed_in R c.in-Entry.placed)
          c.reading.invariant.so_far c.in_ok-placed.ensures.leads is c.reading.invariant.sup sup c.if-placed-page.true c.in_ok-take-in-Entry.ensures;
    }

pub reading-preserved-else-placed-page : goal.reading-preserved-else-placed-page
reading-preserved-else-placed-page g c =
    let R = g.P.Pmem.region c.args.memory.now in
    let is = ap (finding_in R) c.in-Entry.is in
    let moved : c.next_light.new.self ≡ after c.reading.reader (Entry (placed_in R c.in-Entry.placed)) = c.in_ok-placed.ensures.moves ∙ ap (after c.reading.reader) is in
    let sup : c.next_light.new.self.sup ≡ c.args.sup.now = ap (λ (r : Progress). r.sup) moved ∙ c.reading.invariant.sup in
    record {
      sup = sup;
      tail = ap (λ (r : Progress). r.tail) moved ∙ c.reading.invariant.tail;
      so_far = read_less R c.args.row.now c.args._created c.args.page c.args.sup.now c.reading.reader _ c.reading.fold (finding_in R _) (placed_in R c.in-Entry.placed)
          c.reading.invariant.so_far c.in_ok-placed.ensures.leads is c.reading.invariant.sup sup c.if-placed-page.false;
    }
