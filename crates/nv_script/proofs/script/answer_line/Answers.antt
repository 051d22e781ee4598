use Rattle.nv_script.proofs.LineReplies.{executed}
use Rattle.nv_script.proofs.script.answer_line.Goals as goal

pub returns-in_ok-answer-in-Command-clause-replies : goal.returns-in_ok-answer-in-Command-clause-replies
returns-in_ok-answer-in-Command-clause-replies g c =
    let (said, prints, moves) = c.in_ok-answer-in-Command.ensures in
    (said, prints, executed c.args.line.now c.in-Command.command c.args.session.now c.answer.new.self c.in_ok-answer-in-Command.field-0 said (rw c.in-Command.is at c.in_ok-classify.ensures) moves)
