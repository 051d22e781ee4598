use Rattle.std.proofs.Common.{sym, subst, string_bytes}
use Rattle.nv_super.proofs.Members.{into_map}
use Rattle.nv_difference.specs.Names.{IsVisitText}
use Rattle.nv_difference.specs.Texts.{Adds}
use Rattle.nv_difference.specs.Walk.{visit_of}
use Rattle.nv_difference.specs.declared.pair.Visit.{Visit}
use Rattle.nv_difference.proofs.Told.{next_told}
use Rattle.nv_difference.proofs.telling.push_visits.Goals as goal

pub push_visit-requires : goal.push_visit-requires
push_visit-requires g c = c.requires (visit_of c.visit-item.result) (into_map visit_of c.args.visits.now c.visit-item.result (c.loop-visit.visit-index, c.loop-visit-test.true, sym c.visit-item.is))

pub loop-visit-preserved : goal.loop-visit-preserved
loop-visit-preserved g c =
    let t = g.S.Inodes.tree c.args.first.now in
    let u = g.T.Inodes.tree c.args.second.now in
    next_told (IsVisitText t u) visit_of c.args.visits.now c.loop-visit.visit-index c.visit-item.result
    (string_bytes c.args.out.now) (string_bytes c.loop-visit.out) (string_bytes c.push_visit.new.out) c.loop-visit-test.true c.loop-visit.invariant
    (subst (λ (v : Visit). Adds (IsVisitText t u (visit_of v)) (string_bytes c.loop-visit.out) (string_bytes c.push_visit.new.out)) c.visit-item.is c.in_ok-push_visit.ensures)
