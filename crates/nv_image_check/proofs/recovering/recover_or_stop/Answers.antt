use Rattle.std.proofs.Common.{◌≡◌, [], false, IsTrue}
use Rattle.std.proofs.lemmas.Result.{IfOk-weaker}
use Rattle.nv_region.specs.Stops.{NothingPending}
use Rattle.nv_image_check.proofs.Answering.{ends, no_lists, no_stop, refused_keeps}
use Rattle.nv_image_check.proofs.recovering.recover_or_stop.Goals as goal

pub returns-in-Err-clause-ok : goal.returns-in-Err-clause-ok
returns-in-Err-clause-ok g c = IfOk-weaker c.stopped_or_refused.result _ _ (λ answer told. ends _ _ c.args.workers [] c.in-Err.error (λ bad. (c.in-Err.ensures.workers bad).1) (λ place good some. (absurd (cc)))
    c.in-Err.ensures.err answer told) c.stopped_or_refused.ensures.ok

pub returns-in-Err-clause-lists : goal.returns-in-Err-clause-lists
returns-in-Err-clause-lists g c = IfOk-weaker c.stopped_or_refused.result _ _ (no_lists c.in-Err.error) c.stopped_or_refused.ensures.ok

pub returns-in-Err-clause-unstopped : goal.returns-in-Err-clause-unstopped
returns-in-Err-clause-unstopped g c =
    let laws = g.met.P.Pmem g.world.𝓛 g.world.𝓜 g.world.𝓡 ((λ s x. x), (λ x. x), (λ x. x), λ x. x) in
    let is = c.recover.new.memory in
    λ steady. IfOk-weaker c.stopped_or_refused.result _ _ (λ answer told. no_stop c.in-Err.error answer
    (λ same. let burnt : IsTrue (g.P.Pmem.fuse is).has_burnt = c.in-Err.ensures.kept.stopped same in let still : IsTrue (g.P.Pmem.fuse is).is_steady = c.in-Err.ensures.kept.keeps_fuse.steady steady in let unburnt : (g.P.Pmem.fuse is).has_burnt ≡ false = laws.unburnt is still in cc) told) c.stopped_or_refused.ensures.ok

pub returns-in-Err-clause-settled : goal.returns-in-Err-clause-settled
returns-in-Err-clause-settled g c none = IfOk-weaker c.stopped_or_refused.result _ _ (refused_keeps (λ m. NothingPending (g.P.Pmem.region m) (g.P.Pmem.may_hold m)) c.args.memory.now c.recover.new.memory c.in-Err.error c.in-Err.ensures.kept.untouched none) c.stopped_or_refused.ensures.ok
