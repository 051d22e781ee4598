use Rattle.std.proofs.Common.{[], refl, inl, inr}
use Rattle.nv_script.proofs.Kept.{grows_none}
use Rattle.nv_script.proofs.shell.answer_line.Goals as goal

pub returns-in_ok-owned-in-Some-Help-clause-answers : goal.returns-in_ok-owned-in-Some-Help-clause-answers
returns-in_ok-owned-in-Some-Help-clause-answers g c = rw c.text_answer.ensures (_, refl, ([], grows_none _, (tt, λ state stands. (state, inr (inl (rw c.in-Some-Help.field-0-is at c.in-Some-Help.ensures.found, c.in_ok-owned-in-Some-Help.ensures, refl), refl), stands))))

pub returns-in_ok-script_answer-in-None-clause-answers : goal.returns-in_ok-script_answer-in-None-clause-answers
returns-in_ok-script_answer-in-None-clause-answers g c =
    let (text, prints, moves) = c.in_ok-script_answer-in-None.ensures.tells in (
      text,
      prints,
      (
        [],
        c.in_ok-script_answer-in-None.ensures.none_kept,
        (
          tt,
          λ state stands.
              let next = moves state stands in (next.0, inr (next.1, refl), next.2),
        ),
      ),
    )
