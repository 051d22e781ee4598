use Rattle.std.proofs.Common.{subst, ap₂, ◌∙◌, ◌++◌, List}
use Rattle.std.proofs.lemmas.List.{take-append-drop}
use Rattle.std.specs.List.{Contains}
use Rattle.std.proofs.lemmas.List.Elements.{Contains-append_left, Contains-append_right}
use Rattle.nv_metadata.specs.declared.logs.LogEnds.{LogEnds}
use Rattle.nv_metadata.proofs.parts.halves.Goals as goal

pub returns-clause-all : goal.returns-clause-all
returns-clause-all c = ap₂ ◌++◌ c.split_at.ensures.front c.split_at.ensures.back ∙ take-append-drop _ c.args.logs.now

pub returns-clause-first : goal.returns-clause-first
returns-clause-first c log has = c.requires log (subst (λ (l : List LogEnds). Contains l log) (returns-clause-all c) (Contains-append_left _ _ log has))

pub returns-clause-second : goal.returns-clause-second
returns-clause-second c log has = c.requires log (subst (λ (l : List LogEnds). Contains l log) (returns-clause-all c) (Contains-append_right _ _ log has))
