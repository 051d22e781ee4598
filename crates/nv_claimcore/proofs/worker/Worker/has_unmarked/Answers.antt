use Rattle.std.proofs.Common.{ltb, List, sym, ap, ◌∙◌}
use Rattle.std.specs.List.{count_by}
use Rattle.nv_claimcore.specs.declared.view.Record.{Record}
use Rattle.nv_claimcore.specs.declared.view.View.{View}
use Rattle.nv_claimcore.specs.Claims.{is_unmarked}
use Rattle.nv_claimcore.proofs.UnmarkedAt.{some_at}
use Rattle.nv_claimcore.proofs.worker.Worker.has_unmarked.Goals as goal

pub returns : goal.returns
returns c = let b = c.args.block in (λ i. ltb (c.first_unmarked.ensures i) ((c.len.ensures ∙ sym c.as_slice.ensures.len) i))
    ∙ (some_at c.args.block c.as_slice.result.now ∙ ap (λ (rs : List Record). ltb 0 (count_by (is_unmarked c.args.block) rs)) (c.as_slice.ensures.value ∙ ap (λ (v : View). v.records) c.self.view_is))
