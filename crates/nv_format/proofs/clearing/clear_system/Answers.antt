use Rattle.std.proofs.Common.{sym, arith}
use Rattle.std.proofs.lemmas.Result.{on_ok_weaker, IfOk-from_err}
use Rattle.nv_region.proofs.Fuses.{keeps_more, keeps_within}
use Rattle.nv_region.proofs.Puts.{blocks_stay}
use Rattle.nv_region.proofs.Wordwise.{stores_more, stores_within}
use Rattle.nv_region.proofs.Told.{told_err}
use Rattle.nv_format.proofs.Cleared.{numbers_put, system_cleared, number_words, pointer_words, valid_words}
use Rattle.nv_format.proofs.clearing.clear_system.Goals as goal

pub write_super-requires : goal.write_super-requires
write_super-requires g c = let size = c.requires.blocks.0 in let from = c.requires.layout.blocks_from in omega (arith, size, from)

pub returns-in_err-write_super-clause-done : goal.returns-in_err-write_super-clause-done
returns-in_err-write_super-clause-done g c = IfOk-from_err c.from_residual.result _ c.from_residual.ensures.0

pub returns-in_err-write_super-clause-blocks : goal.returns-in_err-write_super-clause-blocks
returns-in_err-write_super-clause-blocks g c = blocks_stay _ _ _ _ c.write_super.ensures.wrote.mixed c.requires.blocks

pub returns-in_err-write_super-clause-wrote : goal.returns-in_err-write_super-clause-wrote
returns-in_err-write_super-clause-wrote g c = stores_within _ _ _ _ _ _ (number_words c.args.sup.now) c.write_super.ensures.wrote

pub returns-in_err-write_super-clause-stopped : goal.returns-in_err-write_super-clause-stopped
returns-in_err-write_super-clause-stopped g c = told_err c.from_residual.result (sym c.in_err-write_super.ensures.stopped)

pub returns-in_err-write_super-clause-keeps_fuse : goal.returns-in_err-write_super-clause-keeps_fuse
returns-in_err-write_super-clause-keeps_fuse g c = keeps_within (λ limit past. omega arith) c.write_super.ensures.keeps_fuse

pub clear_journals-requires-clause-blocks : goal.clear_journals-requires-clause-blocks
clear_journals-requires-clause-blocks g c = blocks_stay _ _ _ _ c.write_super.ensures.wrote.mixed c.requires.blocks

pub returns-in_err-clear_journals-clause-done : goal.returns-in_err-clear_journals-clause-done
returns-in_err-clear_journals-clause-done g c = IfOk-from_err c.from_residual-in_err-clear_journals.result _ c.from_residual-in_err-clear_journals.ensures.0

pub returns-in_err-clear_journals-clause-blocks : goal.returns-in_err-clear_journals-clause-blocks
returns-in_err-clear_journals-clause-blocks g c = c.clear_journals.ensures.blocks

pub returns-in_err-clear_journals-clause-wrote : goal.returns-in_err-clear_journals-clause-wrote
returns-in_err-clear_journals-clause-wrote g c =
    let s = c.args.sup.now in
    stores_more _ _ _ _ _ _ _ _ (pointer_words s) (stores_within _ _ _ _ _ _ (number_words s) c.write_super.ensures.wrote) c.clear_journals.ensures.wrote

pub returns-in_err-clear_journals-clause-stopped : goal.returns-in_err-clear_journals-clause-stopped
returns-in_err-clear_journals-clause-stopped g c = told_err c.from_residual-in_err-clear_journals.result c.in_err-clear_journals.ensures.stopped

pub returns-in_err-clear_journals-clause-keeps_fuse : goal.returns-in_err-clear_journals-clause-keeps_fuse
returns-in_err-clear_journals-clause-keeps_fuse g c =
    keeps_more (λ limit past. omega arith) (keeps_within (λ limit past. omega arith) c.write_super.ensures.keeps_fuse) c.clear_journals.ensures.keeps_fuse

pub returns-clause-done : goal.returns-clause-done
returns-clause-done g c =
    let s = c.args.sup.now in
    on_ok_weaker c.clear_tables.result
    (λ unused. system_cleared s (g.P.Pmem.region c.write_super.new.memory) (g.P.Pmem.region c.clear_journals.new.memory) (g.P.Pmem.region c.clear_tables.new.memory) c.requires.layout
    (numbers_put s (g.P.Pmem.region c.args.memory.now) (g.P.Pmem.region c.write_super.new.memory) s.blocks (let from = c.requires.layout.blocks_from in omega arith) c.requires.blocks c.in_ok-write_super.ensures.done)
    c.clear_journals.ensures.wrote.mixed c.clear_tables.ensures.wrote.mixed c.in_ok-clear_journals.ensures.empty unused)
    c.clear_tables.ensures.unused

pub returns-clause-wrote : goal.returns-clause-wrote
returns-clause-wrote g c =
    let s = c.args.sup.now in
    stores_more _ _ _ _ _ _ _ _ (valid_words s)
    (stores_more _ _ _ _ _ _ _ _ (pointer_words s) (stores_within _ _ _ _ _ _ (number_words s) c.write_super.ensures.wrote) c.clear_journals.ensures.wrote)
    c.clear_tables.ensures.wrote

pub returns-clause-keeps_fuse : goal.returns-clause-keeps_fuse
returns-clause-keeps_fuse g c =
    keeps_more (λ limit past. past)
    (keeps_more (λ limit past. omega arith) (keeps_within (λ limit past. omega arith) c.write_super.ensures.keeps_fuse) c.clear_journals.ensures.keeps_fuse)
    c.clear_tables.ensures.keeps_fuse
