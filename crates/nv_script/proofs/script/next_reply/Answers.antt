use Rattle.std.proofs.Common.{[]}
use Rattle.std.proofs.lemmas.Result.{IfOk-weaker}
use Rattle.nv_script.proofs.LineReplies.{line_replies, long_replies}
use Rattle.nv_script.proofs.script.next_reply.Goals as goal

pub returns-in-TooLong-clause-replies : goal.returns-in-TooLong-clause-replies
returns-in-TooLong-clause-replies g c = ([], tt, λ state stands. (state, long_replies _ _ c.read_line.new.line.items [] state (rw c.in-TooLong.is at c.in_ok-read_line.ensures.ok), stands))

pub returns-in-Line-clause-replies : goal.returns-in-Line-clause-replies
returns-in-Line-clause-replies g c = IfOk-weaker c.answer_line.result _ _ (λ reply answers.
    let (said, prints, leads) = answers in (
      said,
      prints,
      λ state stands.
          let next = leads state stands in
          (next.0, line_replies _ _ c.read_line.new.line.items said state next.0 reply (rw c.in-Line.is at c.in_ok-read_line.ensures.ok) (rw c.deref.ensures.value at next.1), next.2),
    )) c.answer_line.ensures.replies
