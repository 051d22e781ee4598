use Rattle.std.proofs.Common.{◌≡◌, ap, sym, ◌∙◌}
use Rattle.nv_logpage.specs.Progress.{Progress, after}
use Rattle.nv_logpage.specs.declared.found.Finding.TheVariants.{Entry}
use Rattle.nv_logpage.specs.Light.{placed_in, finding_in}
use Rattle.nv_deadpages.proofs.ReadWithoutPages.{pages_less, pages_more}
use Rattle.nv_deadpages.proofs.in_turn.fold_without_pages.Goals as goal

pub reading-preserved-in-Continue-branch-3 : goal.reading-preserved-in-Continue-branch-3
reading-preserved-in-Continue-branch-3 g c =
    let R = g.P.Pmem.region c.args.memory.now in
    let is = ap (finding_in R) c.in-Entry.is in
    let moved : c.next_light.new.self ≡ after c.reading.reader (Entry (placed_in R c.in-Entry.placed)) = c.in_ok-placed.ensures.moves ∙ ap (after c.reading.reader) is in
    let sup : c.next_light.new.self.sup ≡ c.args.sup.now = ap (λ (r : Progress). r.sup) moved ∙ c.reading.invariant.sup in
    record {
      sup = sup;
      tail = ap (λ (r : Progress). r.tail) moved ∙ c.reading.invariant.tail;
      so_far = pages_more R c.args.row.now c.args._created c.args.out.now.blocks c.args.sup.now c.reading.reader c.next_light.new.self c.reading.fold _ (finding_in R _) (placed_in R c.in-Entry.placed)
          c.reading.invariant.so_far c.in_ok-placed.ensures.leads is c.reading.invariant.sup sup (sym c.is_out.ensures ∙ c.if-not-is_out.true) c.in_ok-take-in-Entry.ensures;
    }

pub reading-preserved-else-not-is_out : goal.reading-preserved-else-not-is_out
reading-preserved-else-not-is_out g c =
    let R = g.P.Pmem.region c.args.memory.now in
    let is = ap (finding_in R) c.in-Entry.is in
    let moved : c.next_light.new.self ≡ after c.reading.reader (Entry (placed_in R c.in-Entry.placed)) = c.in_ok-placed.ensures.moves ∙ ap (after c.reading.reader) is in
    let sup : c.next_light.new.self.sup ≡ c.args.sup.now = ap (λ (r : Progress). r.sup) moved ∙ c.reading.invariant.sup in
    record {
      sup = sup;
      tail = ap (λ (r : Progress). r.tail) moved ∙ c.reading.invariant.tail;
      so_far = pages_less R c.args.row.now c.args._created c.args.out.now.blocks c.args.sup.now c.reading.reader c.next_light.new.self c.reading.fold (finding_in R _) (placed_in R c.in-Entry.placed)
          c.reading.invariant.so_far c.in_ok-placed.ensures.leads is c.reading.invariant.sup sup (sym c.is_out.ensures ∙ c.if-not-is_out.false);
    }
