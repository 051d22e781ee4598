use Rattle.std.proofs.Common.{[], refl}
use Rattle.nv_script.proofs.Kept.{grows_none}
use Rattle.nv_script.proofs.ShellLines.{long_line, no_line, line_answers}
use Rattle.nv_script.proofs.shell.next_answer.Goals as goal

pub returns-in-End-clause-answers : goal.returns-in-End-clause-answers
returns-in-End-clause-answers g c = ([], tt, ([], grows_none _, (refl, λ state stands. (state, no_line c.args.number _ _ c.read_line.new.line.items [] state (rw c.in-End.is at c.in_ok-read_line.ensures.ok), stands))))

pub returns-in-TooLong-clause-answers : goal.returns-in-TooLong-clause-answers
returns-in-TooLong-clause-answers g c = ([], tt, ([], grows_none _, (refl, λ state stands. (state, long_line c.args.number _ _ c.read_line.new.line.items [] state (rw c.in-TooLong.is at c.in_ok-read_line.ensures.ok), stands))))

pub returns-in_ok-answer_line-in-Line-clause-answers : goal.returns-in_ok-answer_line-in-Line-clause-answers
returns-in_ok-answer_line-in-Line-clause-answers g c =
    let (text, prints, (kept, grown, (none, leads))) = c.in_ok-answer_line-in-Line.ensures.answers in (
      text,
      prints,
      (
        kept,
        grown,
        (
          none,
          λ state stands.
              let next = leads state stands in
              (next.0, line_answers c.args.number _ _ c.read_line.new.line.items text state next.0 c.in_ok-answer_line-in-Line.field-0 kept (rw c.in-Line.is at c.in_ok-read_line.ensures.ok) (rw c.deref.ensures.value at next.1), next.2),
        ),
      ),
    )
