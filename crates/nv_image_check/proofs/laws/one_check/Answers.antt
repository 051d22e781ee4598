use Rattle.nv_image_check.proofs.OneCheck.{check_one}
use Rattle.nv_image_check.proofs.laws.one_check.Goals as goal

pub returns-clause-text : goal.returns-clause-text
returns-clause-text c = λ region workers text other status another p q. (check_one region workers text other status another p q).0

pub returns-clause-status : goal.returns-clause-status
returns-clause-status c = λ region workers text other status another p q. (check_one region workers text other status another p q).1
