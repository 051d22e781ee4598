use Rattle.std.proofs.Common.{◌≡◌, [], false, IsTrue}
use Rattle.std.proofs.lemmas.Result.{on_err_weaker}
use Rattle.nv_image_check.proofs.Unstopped.{never_stopped, want_of_memory}
use Rattle.nv_image_check.proofs.recovering.recover_region.Goals as goal

pub returns-in-Err-clause-err : goal.returns-in-Err-clause-err
returns-in-Err-clause-err g c =
    let laws = g.met.P.Pmem g.world.𝓛 g.world.𝓜 g.world.𝓡 ((λ s x. x), (λ x. x), (λ x. x), λ x. x) in
    let was = c.args.memory.now in
    let is = c.recover.new.memory in
    let R = g.P.Pmem.region was in
    let said = c.in-Err.ensures in
    let unstopped = never_stopped R (g.P.Pmem.region is) c.args.workers [] c.in-Err.error said.err (g.P.Pmem.fuse was) c.requires.taken
    (λ steady same. let burnt : IsTrue (g.P.Pmem.fuse is).has_burnt = said.kept.stopped same in let still : IsTrue (g.P.Pmem.fuse is).is_steady = said.kept.keeps_fuse.steady steady in let unburnt : (g.P.Pmem.fuse is).has_burnt ≡ false = laws.unburnt is still in cc) said.kept.unstopped in
    on_err_weaker c.refused.result (want_of_memory R (g.P.Pmem.region is) c.args.workers [] c.in-Err.error said.err unstopped) c.refused.ensures.err
