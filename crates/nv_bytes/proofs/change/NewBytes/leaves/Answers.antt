use Rattle.std.proofs.Common.{ap, leb, sym, ◌∙◌}
use Rattle.std.proofs.lemmas.Bool.{leb-true}
use Rattle.nv_bytes.proofs.Changes.{stays_before, stays_behind}
use Rattle.nv_bytes.proofs.change.NewBytes.leaves.Goals as goal
use Rattle.nv_bytes.specs.Data.{data_bytes}

pub returns-then-x-self-2 : goal.returns-then-x-self-2
returns-then-x-self-2 c = λ yes k old few. (let n = c.args.self.now in stays_before n.offset n.size c.args.x k (data_bytes n.content) old c.if-x-self.true c.if-x-self-2.true few)

pub returns-else-x-self-2 : goal.returns-else-x-self-2
returns-else-x-self-2 c = λ yes k old few. (let n = c.args.self.now in
    stays_behind n.offset n.size c.args.x k (data_bytes n.content) old c.if-x-self.true (leb-true _ _ (sym (ap (λ e. leb e c.args.x) c.end.ensures) ∙ yes)) few)
