use Rattle.nv_session.proofs.AlikeSteps.{first_alike, step_itself, steps_alike}
use Rattle.nv_session.proofs.laws.alike_states_answer_alike.Goals as goal

pub returns-clause-text : goal.returns-clause-text
returns-clause-text c = λ old other new next request text another states unarmed words p q. (steps_alike old other new next request text another states unarmed words p q).0

pub returns-clause-left : goal.returns-clause-left
returns-clause-left c = λ old other new next request text another states unarmed words p q. (steps_alike old other new next request text another states unarmed words p q).1

pub returns-clause-first : goal.returns-clause-first
returns-clause-first c = first_alike

pub returns-clause-itself : goal.returns-clause-itself
returns-clause-itself c = step_itself
