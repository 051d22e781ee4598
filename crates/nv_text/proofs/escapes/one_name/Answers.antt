use Rattle.nv_text.proofs.Spellings.{name_one}
use Rattle.nv_text.proofs.escapes.one_name.Goals as goal

pub returns : goal.returns
returns c = name_one
