use Rattle.std.proofs.Common.{ℕ, ◌+◌, List, sym, ap, ◌∙◌, subst, arith}
use Rattle.std.specs.Prelude.{bit_and}
use Rattle.nv_super.specs.declared.owners.Owner.{Owner}
use Rattle.nv_super.specs.Owners.{pairs}
use Rattle.nv_claimcore.specs.Spans.{mask_all, Rises, AreUnmarked}
use Rattle.nv_claimcore.proofs.WordRuns.{run_mask, run_rises, lost_mask, lost_rises}
use Rattle.nv_claimmap.proofs.Keeping.{marks_allowed}
use Rattle.nv_claimmap.proofs.steps.mark_step.Goals as goal

pub fetch_or-requires : goal.fetch_or-requires
fetch_or-requires g c = let s = c.args._start in let n = c.args._count in let o = c.args._owner in let words = c.requires.table.0 in let all = c.requires.table.1 in let second = c.second_from.ensures in
    let at = c.requires.word.0 in let some = c.requires.word.1 in let in_word = c.requires.run.0 in let in_map = c.requires.run.1 in (
      c.requires.own,
      omega arith,
      marks_allowed _ _ _ _ _ c.args.word _ s (s + n) g.I.Intent.claims
          (c.requires.lost ∙ (ap (bit_and c.args._found) (sym (run_mask s o n in_word)) ∙ (sym (lost_mask c.args._found (pairs s o n)) ∙ ap mask_all (sym c.requires.intent)))) (omega arith) (omega arith) (omega arith) in_map
          (subst (λ (ps : List (ℕ × Owner)). Rises c.args._start (c.args._start + c.args._count) ps) (sym c.requires.intent) (lost_rises c.args._found s (s + n) (pairs s o n) (run_rises s o n))) (omega arith)
          (subst (λ (ps : List (ℕ × Owner)). AreUnmarked ps c.args.seat.now.me.0) (sym c.requires.intent) c.requires.unmarked),
    )
