use Rattle.std.proofs.Common.{◌≡◌, sym, ap, ◌∙◌}
use Rattle.nv_cross_check.specs.Steps.{count_fault, count_fault_of}
use Rattle.nv_cross_check.proofs.Counting.{skips, takes}
use Rattle.nv_cross_check.proofs.counts.push_counts.Goals as goal
use Rattle.nv_cross_check.proofs.counts.push_counts.Goals.{in-Some+in_ok-push, in_default}

pub loop-place-preserved : goal.loop-place-preserved
loop-place-preserved c =
    let here = c.head.ensures in let l = here.0 in
    let count = c.requires.each c.loop-place.place l here.1.0 here.1.1 in
    let is : c.fault_of.result ≡ count_fault c.args.listings.now l = c.fault_of.ensures ∙ (λ i. count_fault_of (here.3 i) (here.2 i) (here.4 i) (count i)) in
    elim c.match-fault_of.branch [
      | in-Some+in_ok-push w ↦ takes (count_fault c.args.listings.now) _ _ l _ _ _ _ here.1.0 (sym here.1.1) (sym is ∙ w.in-Some.is) (ap (λ v. v.items) w.faults-is ∙ w.in_ok-push.ensures.items) c.loop-place.invariant
      | in_default w ↦ skips (count_fault c.args.listings.now) _ _ l _ _ _ here.1.0 (sym here.1.1) (sym is ∙ w.in_default.is) (ap (λ v. v.items) w.faults-is) c.loop-place.invariant
    ]
