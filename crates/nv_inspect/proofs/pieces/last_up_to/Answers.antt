use Rattle.std.proofs.Common.{rules}
use Rattle.std.specs.declared.ops.Bound.TheVariants.{Included, Unbounded}
use Rattle.std.specs.Ordering.{nat_cmp}
use Rattle.std.specs.BTreeMap.Range.{IsRangeOf}
use Rattle.nv_inspect.proofs.Steps.{if_none, last_piece, no_piece_yet}
use Rattle.nv_inspect.proofs.pieces.last_up_to.Goals as goal

pub returns-clause-some : goal.returns-clause-some
returns-clause-some c =
    let range : IsRangeOf nat_cmp Unbounded (Included c.args.page) c.args.pieces.now c.range.result = c.range.ensures.in_range (search rules) in
    last_piece c.args.pieces.now c.args.page c.range.result range c.next_back.new.self (c.in_ok-_start._start.now, c.in_ok-_start.piece.now) c.in_ok-_start.ensures.steps

pub returns-in_err-_start-clause-none : goal.returns-in_err-_start-clause-none
returns-in_err-_start-clause-none c =
    let range : IsRangeOf nat_cmp Unbounded (Included c.args.page) c.args.pieces.now c.range.result = c.range.ensures.in_range (search rules) in
    if_none c.from_residual.result _ (no_piece_yet c.args.pieces.now c.args.page c.range.result range c.in_err-_start.ensures.steps.0)
