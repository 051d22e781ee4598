use Rattle.nv_line.proofs.Grammar.{skipped_says}
use Rattle.nv_line.proofs.lines.no_skipped_command.Goals as goal

pub returns : goal.returns
returns c = skipped_says
