use Rattle.std.proofs.Common.{◌≡◌, sym, subst}
use Rattle.nv_region.specs.Region.{Region}
use Rattle.nv_journal.specs.Undo.{undone}
use Rattle.nv_outcome.specs.Outcome.{IsOutcome}
use Rattle.nv_outcome.specs.Same.{lasting_outcome}
use Rattle.nv_outcome.specs.Answer.{outcome_of}
use Rattle.nv_history.proofs.tests.mount.Goals as goal

pub open-requires-clause-outcome : goal.open-requires-clause-outcome
open-requires-clause-outcome c =
    subst (λ (R : Region). IsOutcome R (lasting_outcome (outcome_of c.in_ok-recovered.recovered))) (sym c.in_ok-recovered.ensures.undone)
    (c.rolled_back_outcome.ensures.outcome c.args.memory.region (outcome_of c.in_ok-recovered.recovered) c.in_ok-recovered.ensures.ok)

pub open-requires-clause-own : goal.open-requires-clause-own
open-requires-clause-own c =
    subst (λ (R : Region). undone c.in_ok-recovered.recovered.sup R ≡ R) (sym c.in_ok-recovered.ensures.undone)
    (c.rolled_back_outcome.ensures.same c.args.memory.region (outcome_of c.in_ok-recovered.recovered) c.in_ok-recovered.ensures.ok)

pub open-requires-clause-settled : goal.open-requires-clause-settled
open-requires-clause-settled c = c.in_ok-recovered.ensures.kept.settled c.requires
