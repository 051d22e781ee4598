use Rattle.std.proofs.Common.{ℕ, ◌-◌, ◌+◌, cond, Option, Some, ap, ◌∙◌}
use Rattle.nv_radix.specs.Pages.{in_run}
use Rattle.nv_radix.proofs.index.FileIndex.put_run.Goals as goal

pub returns : goal.returns
returns c = λ p. c.set_run.ensures.blocks p ∙ ap (λ (o : Option ℕ). cond (in_run c.args.page c.args.count p) (Some (c.args.block + (p - c.args.page))) o) (c.in_ok-reserve.ensures.blocks p)
