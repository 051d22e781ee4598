use Rattle.std.proofs.Common.{ℕ, ◌+◌, List, sym, refl, ap, ◌∙◌, subst, arith}
use Rattle.nv_super.specs.declared.owners.Owner.{Owner}
use Rattle.nv_claimcore.specs.Spans.{mask_all, claim_all, Rises}
use Rattle.nv_claimcore.proofs.WordRuns.{run_mask, run_rises}
use Rattle.nv_claimmap.proofs.Keeping.{claims_allowed}
use Rattle.nv_claimmap.proofs.steps.claim_step.Goals as goal

pub fetch_or-requires : goal.fetch_or-requires
fetch_or-requires g c = let s = c.args._start in let n = c.args._count in let o = c.args._owner in let words = c.requires.table.0 in
    let at = c.requires.word.0 in let some = c.requires.word.1 in let in_word = c.requires.run.0 in let in_map = c.requires.run.1 in (
      c.requires.own,
      omega arith,
      claims_allowed _ _ _ _ _ c.args.word _ s (s + n) g.I.Intent.claims (c.requires.mask ∙ (sym (run_mask s o n in_word) ∙ ap mask_all (sym c.requires.intent))) (omega arith) (omega arith) (omega arith) in_map
          (subst (λ (ps : List (ℕ × Owner)). Rises c.args._start (c.args._start + c.args._count) ps) (sym c.requires.intent) (run_rises s o n)) refl c.requires.seat,
    )

pub returns-clause-me : goal.returns-clause-me
returns-clause-me g c = c.fetch_or.ensures.2 ∙ ap (λ (ps : List (ℕ × Owner)). (claim_all c.fetch_or.result ps c.args.seat.now.me.0, c.args.seat.now.me.1)) c.requires.intent
