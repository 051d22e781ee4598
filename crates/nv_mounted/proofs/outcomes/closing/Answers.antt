use Rattle.nv_mounted.proofs.Closes as made
use Rattle.nv_mounted.proofs.outcomes.closing.Goals as goal

pub returns : goal.returns
returns c = λ R s held rows free m. (made.closing m.sound rows free m.keeps, made.own_undo m.sound)
