use Rattle.std.proofs.Common.{inl, inr, arith}
use Rattle.std.proofs.lemmas.Result.{on_ok_weaker, IfOk-from_err}
use Rattle.nv_region.proofs.Wordwise.{stores_more, stores_within}
use Rattle.nv_format.proofs.Root.{laid_out}
use Rattle.nv_region.proofs.Fuses.{keeps_more, keeps_within}
use Rattle.nv_region.proofs.Told.{told_err}
use Rattle.nv_format.proofs.formatting.lay_out.Goals as goal

pub returns-in_err-clear_system-clause-done : goal.returns-in_err-clear_system-clause-done
returns-in_err-clear_system-clause-done g c = IfOk-from_err c.from_residual.result _ c.from_residual.ensures.0

pub returns-in_err-clear_system-clause-blocks : goal.returns-in_err-clear_system-clause-blocks
returns-in_err-clear_system-clause-blocks g c = c.clear_system.ensures.blocks

pub returns-in_err-clear_system-clause-wrote : goal.returns-in_err-clear_system-clause-wrote
returns-in_err-clear_system-clause-wrote g c = stores_within _ _ _ _ _ _ (λ i x system. inl system) c.clear_system.ensures.wrote

pub returns-in_err-clear_system-clause-stopped : goal.returns-in_err-clear_system-clause-stopped
returns-in_err-clear_system-clause-stopped g c = told_err c.from_residual.result c.in_err-clear_system.ensures.stopped

pub returns-in_err-clear_system-clause-keeps_fuse : goal.returns-in_err-clear_system-clause-keeps_fuse
returns-in_err-clear_system-clause-keeps_fuse g c = keeps_within (λ limit past. omega arith) c.clear_system.ensures.keeps_fuse

pub write_root-requires-clause-blocks : goal.write_root-requires-clause-blocks
write_root-requires-clause-blocks g c = c.clear_system.ensures.blocks

pub returns-clause-blocks : goal.returns-clause-blocks
returns-clause-blocks g c = c.write_root.ensures.blocks

pub returns-clause-stopped : goal.returns-clause-stopped
returns-clause-stopped g c = c.write_root.ensures.stopped

pub returns-clause-keeps_fuse : goal.returns-clause-keeps_fuse
returns-clause-keeps_fuse g c = keeps_more (λ limit past. past) (keeps_within (λ limit past. omega arith) c.clear_system.ensures.keeps_fuse) c.write_root.ensures.keeps_fuse

pub returns-clause-done : goal.returns-clause-done
returns-clause-done g c =
    on_ok_weaker c.write_root.result
    (laid_out c.args.sup.now c.args.time c.requires.layout (g.P.Pmem.region c.clear_system.new.memory) (g.P.Pmem.region c.write_root.new.memory) c.in_ok-clear_system.ensures.done c.write_root.ensures.wrote.mixed)
    c.write_root.ensures.done

pub returns-clause-wrote : goal.returns-clause-wrote
returns-clause-wrote g c = stores_more _ _ _ _ _ _ _ _ (λ i x root. inr root) (stores_within _ _ _ _ _ _ (λ i x system. inl system) c.clear_system.ensures.wrote) c.write_root.ensures.wrote
