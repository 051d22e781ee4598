use Rattle.nv_script.proofs.Ending.{first_lines}
use Rattle.nv_script.proofs.laws.strict_shows_first_lines.Goals as goal

pub returns : goal.returns
returns c = λ begin lines text status shown. first_lines 1 begin lines text status shown.0 shown.1
