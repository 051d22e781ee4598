use Rattle.std.proofs.Common.{inl, inr}
use Rattle.nv_region.specs.Region.{Region}
use Rattle.nv_super.specs.declared.superblock.SuperFault.TheVariants.{Magic}
use Rattle.nv_super.specs.Super.{IsRefused}
use Rattle.nv_outcome.specs.Outcome.{Outcome, IsOutcome}
use Rattle.nv_calls.proofs.stops.stopped_format.Goals as goal

-- a region that is refused has no outcome
no_outcome : (left : Region) → IsRefused left Magic → (o : Outcome) → IsOutcome left o → ⊥
no_outcome left refused o is = let sup = is.sup in sup.sound Magic refused.applies

pub returns : goal.returns
returns c = λ old left s time leaves. elim leaves [
  | inl before ↦ inl before
  | inr w ↦ elim w [
    | inl refused ↦ inr (inl (refused, no_outcome left refused))
    | inr made ↦ inr (inr made)
  ]
]
