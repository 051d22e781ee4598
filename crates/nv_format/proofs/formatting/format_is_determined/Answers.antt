use Rattle.nv_format.proofs.Determined.{formatted_only}
use Rattle.nv_format.proofs.formatting.format_is_determined.Goals as goal

pub returns : goal.returns
returns c = formatted_only
