use Rattle.std.proofs.Common.{◌≡◌, ◌∙◌, false, IsTrue}
use Rattle.std.proofs.lemmas.Result.{IfOk-weaker}
use Rattle.nv_region.specs.Stops.{NothingPending}
use Rattle.nv_region.proofs.Stops.{settled_left}
use Rattle.nv_image_check.proofs.Answering.{replayed, replay_ends, no_lists, no_stop, refused_keeps, undoes_itself}
use Rattle.nv_image_check.proofs.recovering.replay_or_stop.Goals as goal

pub returns-in-Ok-clause-ok : goal.returns-in-Ok-clause-ok
returns-in-Ok-clause-ok g c = replayed _ _ c.args.workers c.deref.result.now c.args.schedule.now (c.deref.ensures.value ∙ c.in_ok-numbers.ensures) c.in-Ok.recovered
    (λ bad. (c.in-Ok.ensures.first.count bad).0) (λ place good some. (c.in-Ok.ensures.first.stranger place good some).0) c.in-Ok.ensures.ok c.in-Ok.ensures.undone

pub returns-clause-ok : goal.returns-clause-ok
returns-clause-ok g c = IfOk-weaker c.stopped_or_refused.result _ _ (λ answer told. replay_ends _ _ c.args.workers c.deref.result.now c.args.schedule.now (c.deref.ensures.value ∙ c.in_ok-numbers.ensures) c.in-Err.error
    (λ bad. (c.in-Err.ensures.first.count bad).1) (λ place good some. (c.in-Err.ensures.first.stranger place good some).1) c.in-Err.ensures.err answer told) c.stopped_or_refused.ensures.ok

pub returns-clause-lists : goal.returns-clause-lists
returns-clause-lists g c = IfOk-weaker c.stopped_or_refused.result _ _ (no_lists c.in-Err.error) c.stopped_or_refused.ensures.ok

pub returns-clause-unstopped : goal.returns-clause-unstopped
returns-clause-unstopped g c =
    let laws = g.met.P.Pmem in
    let is = c.recover_replay.new.memory in
    λ steady. IfOk-weaker c.stopped_or_refused.result _ _ (λ answer told. no_stop c.in-Err.error answer
    (λ same. let burnt : IsTrue (g.P.Pmem.fuse is).has_burnt = c.in-Err.ensures.kept.stopped same in let still : IsTrue (g.P.Pmem.fuse is).is_steady = c.in-Err.ensures.kept.keeps_fuse.steady steady in let unburnt : (g.P.Pmem.fuse is).has_burnt ≡ false = laws.unburnt is still in cc) told) c.stopped_or_refused.ensures.ok

pub returns-clause-settled : goal.returns-clause-settled
returns-clause-settled g c none = IfOk-weaker c.stopped_or_refused.result _ _ (refused_keeps (λ m. NothingPending (g.P.Pmem.region m) (g.P.Pmem.may_hold m)) c.args.memory.now c.recover_replay.new.memory c.in-Err.error c.in-Err.ensures.kept.untouched none) c.stopped_or_refused.ensures.ok

pub returns-in_err-numbers-clause-any_stop : goal.returns-in_err-numbers-clause-any_stop
returns-in_err-numbers-clause-any_stop g c s is none left may =
    let R = g.P.Pmem.region c.args.memory.now in
    undoes_itself R left s is (settled_left R (g.P.Pmem.may_hold c.args.memory.now) none left may)
