use Rattle.std.proofs.Common.{◌<◌, ◌≤◌, List, subst}
use Rattle.std.proofs.lemmas.List.{take_all}
use Rattle.nv_scan.specs.declared.piece.Row.{Row}
use Rattle.nv_cross_check.specs.NameLists.{AreNamed}
use Rattle.nv_cross_check.proofs.Listed.{named_more, empty_still, told_more}
use Rattle.nv_cross_check.proofs.listing.push_all.Goals as goal

pub loop-place-preserved : goal.loop-place-preserved
loop-place-preserved c =
    let within = subst (λ n. c.loop-place.place < n) c.len-place-end.ensures c.loop-place-test.true in
    let one = c.in_ok-list.ensures.list in
    let more = c.in_ok-list.ensures.others in
    record {
      lists = named_more _ _ _ _ _ _ _ within more c.in_ok-push-2.ensures.items c.loop-place.invariant.lists one.0 one.1 one.2;
      empty = empty_still _ _ more c.loop-place.invariant.empty;
      named = told_more _ _ _ _ _ c.in_ok-push.ensures.items c.in_ok-push-2.ensures.items c.loop-place.invariant.named;
    }

pub returns-clause-lists : goal.returns-clause-lists
returns-clause-lists c =
    let past = subst (λ n. n ≤ c.loop-place.place) c.len-place-end.ensures c.loop-place-test.false in
    subst (λ (rows : List Row). AreNamed rows c.loop-place.places.items c.loop-place.lists.items) (take_all c.loop-place.place c.args.rows.now.items past) c.loop-place.invariant.lists
