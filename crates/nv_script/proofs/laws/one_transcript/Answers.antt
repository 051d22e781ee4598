use Rattle.std.proofs.Common.{refl}
use Rattle.nv_session.specs.Machine.{first_state}
use Rattle.nv_session.proofs.AlikeSteps.{first_alike}
use Rattle.nv_script.proofs.OneTranscript.{hinted_one, shows_one}
use Rattle.nv_script.proofs.laws.one_transcript.Goals as goal

pub returns-clause-text : goal.returns-clause-text
returns-clause-text c = λ lines text other status another none words p q. (shows_one 1 first_state lines none words first_alike refl text other status another p q).0

pub returns-clause-status : goal.returns-clause-status
returns-clause-status c = λ lines text other status another none words p q. (shows_one 1 first_state lines none words first_alike refl text other status another p q).1

pub returns-clause-hints : goal.returns-clause-hints
returns-clause-hints c = λ lines hints other status another none words p q. hinted_one 1 first_state lines none words first_alike refl hints other p q
