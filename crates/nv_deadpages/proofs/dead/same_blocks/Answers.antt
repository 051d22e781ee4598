use Rattle.std.proofs.Common.{sym, ◌∙◌}
use Rattle.nv_deadpages.proofs.SameIndexes.{extents_differ, same_extents}
use Rattle.nv_deadpages.proofs.dead.same_blocks.Goals as goal

pub returns-clause-yes : goal.returns-clause-yes
returns-clause-yes c = λ same p.
    sym (c.in_ok-fill_index.ensures.index p)
    ∙ same_extents c.fill_index.new.index c.args.index.now c.fill_index.new.extents.items c.in_ok-runs.runs.items c.in_ok-fill_index.ensures.extents c.in_ok-runs.ensures.extents (sym c.deref.ensures.value ∙ c.same_extents.ensures.yes same ∙ c.deref-2.ensures.value) p

pub returns-clause-no : goal.returns-clause-no
returns-clause-no c = λ differ same.
    c.same_extents.ensures.no differ (c.deref.ensures.value ∙ extents_differ c.fill_index.new.index c.args.index.now c.fill_index.new.extents.items c.in_ok-runs.runs.items c.in_ok-fill_index.ensures.extents c.in_ok-runs.ensures.extents (λ p. c.in_ok-fill_index.ensures.index p ∙ same p) ∙ sym c.deref-2.ensures.value)
