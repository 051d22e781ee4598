use Rattle.std.proofs.Common.{◌≡◌, ap, ◌∙◌, sym, refl, subst}
use Rattle.nv_logpage.specs.Progress.{Progress, after}
use Rattle.nv_logpage.specs.Steps.{GoesOn}
use Rattle.nv_logpage.specs.declared.found.Finding.{Finding}
use Rattle.nv_logpage.specs.declared.found.Finding.TheVariants.{Entry, Page}
use Rattle.nv_logpage.specs.Light.{placed_in, finding_in}
use Rattle.nv_blockset.specs.Listed.{Listed}
use Rattle.nv_deadpages.specs.Changes.{AreChangesSoFar}
use Rattle.nv_deadpages.proofs.Changing.{changes_first, changes_more, changes_turned, changes_whole}
use Rattle.nv_deadpages.proofs.changes.find_changes.Goals as goal

pub reading-init : goal.reading-init
reading-init g c =
    let R = g.P.Pmem.region c.args.memory.now in
    let s = c.args.sup.now in
    record {
      sup = ap (λ (r : Progress). r.sup) c.requires.start;
      tail = ap (λ (r : Progress). r.tail) c.requires.start;
      bound = c.add_change.ensures.bound;
      so_far = subst (λ (r : Progress). AreChangesSoFar R c.args.row.now c.args._created c.args.stamps.now.index c.args.row.now.index c.add_change.new.found.blocks r c.args.fold.now) (sym c.requires.start)
          (changes_first R s c.args.row.now c.args._created c.args.stamps.now.index c.args.row.now.index c.args.found.now.blocks c.add_change.new.found.blocks c.args.fold.now _ c.requires.none
          (ap (λ (l : Listed). l.blocks) c.requires.empty) refl c.in_ok-add_change.ensures.only);
    }

pub reading-preserved-in-Continue-branch-4 : goal.reading-preserved-in-Continue-branch-4
reading-preserved-in-Continue-branch-4 g c =
    let R = g.P.Pmem.region c.args.memory.now in
    let r = c.reading.reader in
    let is = ap (finding_in R) c.in-Entry.is in
    let moved : c.next_light.new.self ≡ after r (Entry (placed_in R c.in-Entry.placed)) = c.in_ok-placed.ensures.moves ∙ ap (after r) is in
    let onward : GoesOn r.sup r.pages r.place (Entry (placed_in R c.in-Entry.placed)) = subst (λ (f : Finding). GoesOn r.sup r.pages r.place f) is c.in_ok-placed.ensures.onward in
    record {
      sup = ap (λ (q : Progress). q.sup) moved ∙ c.reading.invariant.sup;
      tail = ap (λ (q : Progress). q.tail) moved ∙ c.reading.invariant.tail;
      bound = c.reading.invariant.bound;
      so_far = changes_more R c.args.sup.now c.args.row.now c.args._created c.args.stamps.now.index c.args.row.now.index r c.next_light.new.self c.reading.found.blocks c.reading.fold c.take.new.self (finding_in R _) (placed_in R c.in-Entry.placed)
          c.reading.invariant.so_far c.in_ok-placed.ensures.leads is moved c.reading.invariant.sup onward.0 onward.1 c.in_ok-take-in-Entry.ensures;
    }

pub reading-preserved : goal.reading-preserved
reading-preserved g c =
    let R = g.P.Pmem.region c.args.memory.now in
    let r = c.reading.reader in
    let is = ap (finding_in R) c.in-Page.is in
    let moved : c.next_light.new.self ≡ after r (Page c.in-Page.start) = c.in_ok-placed.ensures.moves ∙ ap (after r) is in
    let onward : GoesOn r.sup r.pages r.place (Page c.in-Page.start) = subst (λ (f : Finding). GoesOn r.sup r.pages r.place f) is c.in_ok-placed.ensures.onward in
    record {
      sup = ap (λ (q : Progress). q.sup) moved ∙ c.reading.invariant.sup;
      tail = ap (λ (q : Progress). q.tail) moved ∙ c.reading.invariant.tail;
      bound = c.add_change-in-Page.ensures.bound;
      so_far = changes_turned R c.args.sup.now c.args.row.now c.args._created c.args.stamps.now.index c.args.row.now.index r c.next_light.new.self c.reading.found.blocks c.add_change-in-Page.new.found.blocks c.reading.fold (finding_in R _) c.in-Page.start _
          c.reading.invariant.so_far c.in_ok-placed.ensures.leads is moved c.reading.invariant.sup onward.1 refl c.in_ok-add_change-in-Page.ensures.only;
    }

pub returns-in-End-clause-changes : goal.returns-in-End-clause-changes
returns-in-End-clause-changes g c =
    let R = g.P.Pmem.region c.args.memory.now in
    let r = c.reading.reader in
    let is = ap (finding_in R) c.in-End.is in
    let moved : c.next_light.new.self ≡ r = c.in_ok-placed.ensures.moves ∙ ap (after r) is in
    changes_whole R c.args.sup.now c.args.row.now c.args._created c.args.stamps.now.index c.args.row.now.index r c.next_light.new.self c.reading.found.blocks c.reading.fold (finding_in R _) c.in-End.fault
    c.reading.invariant.so_far c.in_ok-placed.ensures.leads is c.reading.invariant.sup (ap (λ (q : Progress). q.sup) moved ∙ c.reading.invariant.sup) (ap (λ (q : Progress). q.tail) moved ∙ c.reading.invariant.tail)
