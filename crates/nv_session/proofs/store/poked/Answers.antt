use Rattle.nv_steps.proofs.Refusals.{not_refused}
use Rattle.nv_session.proofs.store.poked.Goals as goal

pub returns-clause-settled : goal.returns-clause-settled
returns-clause-settled c = not_refused c.commit_word.result c.is_err.result c.is_err.ensures.value c.if-is_err.false c.commit_word.ensures.settled
