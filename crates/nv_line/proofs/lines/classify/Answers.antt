use Rattle.nv_line.specs.View.{view}
use Rattle.nv_line.proofs.Grammar.{is_bad}
use Rattle.nv_line.proofs.lines.classify.Goals as goal

pub returns-in-None : goal.returns-in-None
returns-in-None c = is_bad c.args.line.now view c.in_ok-command.field-0 c.in-None.is (λ skipped. (let is = c.is_skipped.ensures.1 skipped in let not = c.if-is_skipped.false in cc)) c.in_ok-command.ensures.only
