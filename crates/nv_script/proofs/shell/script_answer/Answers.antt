use Rattle.std.proofs.Common.{refl, inl, inr}
use Rattle.std.proofs.lemmas.Result.{IfOk-weaker}
use Rattle.nv_line.specs.View.{view}
use Rattle.nv_script.proofs.shell.script_answer.Goals as goal

pub returns-in-Command-clause-tells : goal.returns-in-Command-clause-tells
returns-in-Command-clause-tells g c = IfOk-weaker c.answer.result _ _ (λ printed answers.
    let (said, prints, moves) = answers in (
      said,
      prints,
      λ state stands.
          let next = moves state stands in
          let read = rw c.in-Command.is at c.in_ok-classify.ensures in
          (next.0, inr (inr (inl (view c.in-Command.command, read.1, next.1))), next.2),
    )) c.answer.ensures

pub returns-in_ok-bad_line_text-in-Bad-clause-tells : goal.returns-in_ok-bad_line_text-in-Bad-clause-tells
returns-in_ok-bad_line_text-in-Bad-clause-tells g c =
    (_, refl, λ state stands. (state, inr (inr (inr (c.requires, rw c.in-Bad.is at c.in_ok-classify.ensures, c.in_ok-bad_line_text-in-Bad.ensures, refl))), stands))
