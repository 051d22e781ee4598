use Rattle.std.proofs.Common.{List, ℕ, sym, subst}
use Rattle.nv_metadata.specs.Parts.{IsFront}
use Rattle.nv_metadata.proofs.Ready.{front_first}
use Rattle.nv_metadata.proofs.parts.first_block.Goals as goal

pub returns-clause-front : goal.returns-clause-front
returns-clause-front c = subst (λ (l : List ℕ). IsFront c.args._sup.now l) (sym c.in_ok-first.ensures.items) (front_first c.args._sup.now c.args.front.now c.requires)
