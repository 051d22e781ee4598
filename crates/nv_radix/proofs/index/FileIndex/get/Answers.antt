use Rattle.std.proofs.Common.{sym, ◌∙◌}
use Rattle.nv_radix.proofs.Halves.{block_at-low, block_at-high}
use Rattle.nv_radix.proofs.index.FileIndex.get.Goals as goal

pub returns-then-page-lt64 : goal.returns-then-page-lt64
returns-then-page-lt64 c = rw (← c.self.view_is) (c.get.ensures ∙ sym (block_at-low c.self.inside.front c.self.inside.rest c.args.page c.self.invariant.1 c.if-page-lt64.true))

pub returns-else-page-lt64 : goal.returns-else-page-lt64
returns-else-page-lt64 c = rw (← c.self.view_is) (c.get-else-page-lt64.ensures ∙ sym (block_at-high c.self.inside.front c.self.inside.rest c.args.page c.self.invariant.0 c.if-page-lt64.false))
