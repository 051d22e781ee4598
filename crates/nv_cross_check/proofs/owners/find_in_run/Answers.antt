use Rattle.std.proofs.Common.{◌∷◌, ◌++◌, ◌+◌, [], ◌*◌, ◌<◌, ℕ, length, sym, ap, ◌∙◌, arith}
use Rattle.nv_super.specs.declared.owners.Owner.{Owner}
use Rattle.nv_cross_check.proofs.FoundInRuns.{pair_each, found_block, passed_block}
use Rattle.nv_cross_check.proofs.owners.find_in_run.Goals as goal
use Rattle.nv_cross_check.proofs.owners.find_in_run.Goals.{then-contains+in_ok-push, else-contains}

pub contains-requires : goal.contains-requires
contains-requires c =
    let run = c.args.run.now in
    let covered = pair_each (λ (x : ℕ × Owner). x.0 < 64 * length c.args.second.now) run.run.start run.owner run.run.count c.loop-by.by c.loop-by-test.true c.requires.covers in
    omega (arith, covered)

pub loop-by-preserved : goal.loop-by-preserved
loop-by-preserved c =
    let words = c.args.second.now in let old = c.args.found.now.items in let now = c.loop-by.found.items in
    let s = c.args.run.now.run.start in let o = c.args.run.now.owner in let j = c.loop-by.by in
    elim c.if-contains.branch [
      | then-contains+in_ok-push w ↦ found_block words old now c.if-contains.found.items s o j c.loop-by.invariant (sym c.contains.ensures ∙ w.if-contains.true)
          (ap (λ v. v.items) w.found-is ∙ w.in_ok-push.ensures.items ∙ ap (λ (q : Owner). now ++ (s + j, q) ∷ []) w.raised.ensures)
      | else-contains w ↦ passed_block words old now c.if-contains.found.items s o j c.loop-by.invariant (sym c.contains.ensures ∙ w.if-contains.false) (ap (λ v. v.items) w.found-is)
    ]
