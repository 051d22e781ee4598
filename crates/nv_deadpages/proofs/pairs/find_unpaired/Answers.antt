use Rattle.std.proofs.Common.{◌≡◌, ◌/◌, ℕ, ap, ◌∙◌, sym, subst, not}
use Rattle.nv_logpage.specs.Progress.{Progress, after}
use Rattle.nv_logpage.specs.Steps.{GoesOn}
use Rattle.nv_logpage.specs.declared.found.Finding.{Finding}
use Rattle.nv_logpage.specs.declared.found.Finding.TheVariants.{Entry, Page}
use Rattle.nv_logpage.specs.Light.{placed_in, finding_in}
use Rattle.nv_blockset.specs.Listed.{Listed}
use Rattle.nv_deadpages.specs.Pairs.{AreUnpairedSoFar}
use Rattle.nv_deadpages.proofs.Pairing.{pairs_none, pairs_more, pairs_turned, pairs_whole}
use Rattle.nv_deadpages.proofs.pairs.find_unpaired.Goals as goal

pub reading-init : goal.reading-init
reading-init g c =
    let R = g.P.Pmem.region c.args.memory.now in
    record {
      sup = ap (λ (r : Progress). r.sup) c.requires.start;
      tail = ap (λ (r : Progress). r.tail) c.requires.start;
      bound = ap (λ (l : Listed). l.bound) c.requires.empty;
      so_far = subst (λ (r : Progress). AreUnpairedSoFar R c.args.row.now c.args._created c.args.fold.now c.args.found.now.blocks r (not c.has_block-looks.result) c.new-odd.result) (sym c.requires.start)
          (pairs_none R c.args.sup.now c.args.row.now c.args._created c.args.fold.now c.args.found.now.blocks _ c.new-odd.result c.requires.none (ap (λ (l : Listed). l.blocks) c.requires.empty) c.new-odd.ensures.empty);
    }

pub reading-preserved-in-Continue-branch-4 : goal.reading-preserved-in-Continue-branch-4
reading-preserved-in-Continue-branch-4 g c =
    let R = g.P.Pmem.region c.args.memory.now in
    let r = c.reading.reader in
    let is = ap (finding_in R) c.in-Entry.is in
    let moved : c.next_light.new.self ≡ after r (Entry (placed_in R c.in-Entry.placed)) = c.in_ok-placed.ensures.moves ∙ ap (after r) is in
    let onward : GoesOn r.sup r.pages r.place (Entry (placed_in R c.in-Entry.placed)) = subst (λ (f : Finding). GoesOn r.sup r.pages r.place f) is c.in_ok-placed.ensures.onward in
    record {
      sup = ap (λ (q : Progress). q.sup) moved ∙ c.reading.invariant.sup;
      tail = ap (λ (q : Progress). q.tail) moved ∙ c.reading.invariant.tail;
      bound = c.reading.invariant.bound;
      so_far = pairs_more R c.args.sup.now c.args.row.now c.args._created r c.next_light.new.self (finding_in R _) c.reading.found.blocks c.reading.fold c.take.new.self c.reading.looks c.reading.odd c.toggle_by.new.odd (placed_in R c.in-Entry.placed)
          c.reading.invariant.so_far c.in_ok-placed.ensures.leads is moved c.reading.invariant.sup onward.0 onward.1 c.in_ok-take-in-Entry.ensures c.in_ok-toggle_by-in-Entry.ensures;
    }

pub reading-preserved : goal.reading-preserved
reading-preserved g c =
    let R = g.P.Pmem.region c.args.memory.now in
    let r = c.reading.reader in
    let is = ap (finding_in R) c.in-Page.is in
    let moved : c.next_light.new.self ≡ after r (Page c.in-Page.start) = c.in_ok-placed.ensures.moves ∙ ap (after r) is in
    let onward : GoesOn r.sup r.pages r.place (Page c.in-Page.start) = subst (λ (f : Finding). GoesOn r.sup r.pages r.place f) is c.in_ok-placed.ensures.onward in
    record {
      sup = ap (λ (q : Progress). q.sup) moved ∙ c.reading.invariant.sup;
      tail = ap (λ (q : Progress). q.tail) moved ∙ c.reading.invariant.tail;
      bound = c.add_open.ensures.bound;
      so_far = pairs_turned R c.args.sup.now c.args.row.now c.args._created r c.next_light.new.self (finding_in R _) c.reading.found.blocks c.add_open.new.found.blocks c.reading.fold c.reading.looks _ c.reading.odd c.new-odd-in-Page.result c.in-Page.start _
          c.reading.invariant.so_far c.in_ok-placed.ensures.leads is moved onward.1 (ap (λ (n : ℕ). n / 4096) c.place-page.ensures.value) c.in_ok-add_open-in-Page.ensures.only c.new-odd-in-Page.ensures.empty;
    }

pub returns-in-End-clause-unpaired : goal.returns-in-End-clause-unpaired
returns-in-End-clause-unpaired g c =
    let R = g.P.Pmem.region c.args.memory.now in
    let r = c.reading.reader in
    let is = ap (finding_in R) c.in-End.is in
    let moved : c.next_light.new.self ≡ r = c.in_ok-placed.ensures.moves ∙ ap (after r) is in
    pairs_whole R c.args.sup.now c.args.row.now c.args._created r c.next_light.new.self (finding_in R _) c.reading.found.blocks c.reading.fold c.reading.looks c.reading.odd c.in-End.fault
    c.reading.invariant.so_far c.in_ok-placed.ensures.leads is c.reading.invariant.sup (ap (λ (q : Progress). q.sup) moved ∙ c.reading.invariant.sup) (ap (λ (q : Progress). q.tail) moved ∙ c.reading.invariant.tail)
