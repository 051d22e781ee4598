use Rattle.std.proofs.Common.{◌/◌, ℕ, ◌∙◌, sym, subst}
use Rattle.std.specs.List.{Contains}
use Rattle.std.proofs.lemmas.Bool.{eqb-true}
use Rattle.std.proofs.lemmas.Map.Views.{Contains-from_any}
use Rattle.nv_metadata.proofs.walking.next_page.Goals as goal

pub returns-then-contains-clause-none : goal.returns-then-contains-clause-none
returns-then-contains-clause-none c apart start =
    subst (λ (w : ℕ). Contains c.args.walked.now.blocks (w / 4096)) c.load-next.ensures
    (Contains-from_any (λ x y e. eqb-true x y e) (c.load-next.result / 4096) c.args.walked.now.blocks (sym c.contains.ensures ∙ c.if-contains.true))
