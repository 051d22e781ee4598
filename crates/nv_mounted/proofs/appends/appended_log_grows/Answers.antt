use Rattle.nv_mounted.proofs.Appending as made
use Rattle.nv_mounted.proofs.Commits.{pages_clear}
use Rattle.nv_mounted.proofs.appends.appended_log_grows.Goals as goal

pub returns-clause-behind : goal.returns-clause-behind
returns-clause-behind c = λ l held R S i new h entries fresh slots undoubled shows is free appends. made.has_behind l held i h is fresh free shows S new entries slots undoubled appends

pub returns-clause-grown : goal.returns-clause-grown
returns-clause-grown c = λ l held S T i a new h more fresh slots. made.tail_follows l held S T i a new h more fresh (pages_clear slots)
