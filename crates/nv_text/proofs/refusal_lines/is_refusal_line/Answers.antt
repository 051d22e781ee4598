use Rattle.nv_text.proofs.RefusalNames.{tells}
use Rattle.nv_text.proofs.refusal_lines.is_refusal_line.Goals as goal

pub returns-in-Some : goal.returns-in-Some
returns-in-Some c = rw c.is_name_of_one.ensures (tells c.args.text.now c.in-Some.name.now c.in-Some.ensures.some)
