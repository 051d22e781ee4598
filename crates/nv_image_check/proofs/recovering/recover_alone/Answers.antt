use Rattle.std.proofs.Common.{◌≡◌, [], false, IsTrue}
use Rattle.std.proofs.lemmas.Result.{IfOk-weaker, on_err_weaker}
use Rattle.nv_region.specs.Stops.{NothingPending}
use Rattle.nv_image_check.proofs.Answering.{refusal_keeps}
use Rattle.nv_image_check.proofs.Unstopped.{never_stopped, want_of_memory}
use Rattle.nv_image_check.proofs.recovering.recover_alone.Goals as goal

pub returns-in-Err-clause-err : goal.returns-in-Err-clause-err
returns-in-Err-clause-err g c =
    let laws = g.met.P.Pmem in
    let was = c.args.memory.now in
    let is = c.recover_one.new.memory in
    let R = g.P.Pmem.region was in
    let said = c.in-Err.ensures in
    let unstopped = never_stopped R (g.P.Pmem.region is) 1 [] c.in-Err.error said.err (g.P.Pmem.fuse was) c.requires.taken
    (λ steady same. let burnt : IsTrue (g.P.Pmem.fuse is).has_burnt = said.kept.stopped same in let still : IsTrue (g.P.Pmem.fuse is).is_steady = said.kept.keeps_fuse.steady steady in let unburnt : (g.P.Pmem.fuse is).has_burnt ≡ false = laws.unburnt is still in cc) said.kept.unstopped in
    on_err_weaker c.refused.result (want_of_memory R (g.P.Pmem.region is) 1 [] c.in-Err.error said.err unstopped) c.refused.ensures.err

pub returns-in-Err-clause-settled : goal.returns-in-Err-clause-settled
returns-in-Err-clause-settled g c none = IfOk-weaker c.refused.result _ _ (refusal_keeps (λ m. NothingPending (g.P.Pmem.region m) (g.P.Pmem.may_hold m)) c.args.memory.now c.recover_one.new.memory c.in-Err.error c.in-Err.ensures.kept.untouched none) c.refused.ensures.ok
