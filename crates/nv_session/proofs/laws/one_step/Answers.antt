use Rattle.nv_session.proofs.OneStep.{step_one, step_text}
use Rattle.nv_session.proofs.laws.one_step.Goals as goal

pub returns-clause-text : goal.returns-clause-text
returns-clause-text c = λ old new next request text other unarmed p q. step_text old request unarmed new next text other p q

pub returns-clause-left : goal.returns-clause-left
returns-clause-left c = λ old new next request text other unarmed reads p q. (step_one old request unarmed reads text other new next p q).1
