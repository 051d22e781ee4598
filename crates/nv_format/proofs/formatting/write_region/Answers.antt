use Rattle.std.proofs.Common.{◌⊎◌, ℕ, arith, ap, sym, ◌∙◌, subst, ◌≡◌, length}
use Rattle.std.proofs.lemmas.Result.{on_ok_weaker, IfOk-from_err}
use Rattle.nv_region.specs.Region.{Region, put, HasBlocks}
use Rattle.nv_region.specs.Stops.{IsMixed}
use Rattle.nv_region.proofs.Fuses.{keeps_more, keeps_within}
use Rattle.nv_region.proofs.Told.{told_err, burnt_told}
use Rattle.nv_region.proofs.Stops.{refused_leaves}
use Rattle.nv_super.specs.Super.{magic}
use Rattle.nv_format.specs.Format.{AnyAt, IsSystemWord, IsRootWord, IsFormatted, FormatLeaves}
use Rattle.nv_format.proofs.Formatted.{formatted}
use Rattle.nv_format.proofs.Stopped.{taken_leaves, laying_leaves, magic_leaves}
use Rattle.nv_region.proofs.Puts.{blocks_stay}
use Rattle.nv_format.proofs.formatting.write_region.Goals as goal

pub commit_word-requires-clause-within : goal.commit_word-requires-clause-within
commit_word-requires-clause-within g c = let size = c.requires.blocks.0 in let from = c.requires.layout.blocks_from in omega (arith, size, from)

pub returns-in_err-commit_word-clause-done : goal.returns-in_err-commit_word-clause-done
returns-in_err-commit_word-clause-done g c = IfOk-from_err c.from_residual.result _ c.from_residual.ensures.0

pub returns-in_err-commit_word-clause-settled : goal.returns-in_err-commit_word-clause-settled
returns-in_err-commit_word-clause-settled g c = IfOk-from_err c.from_residual.result _ c.from_residual.ensures.0

pub returns-in_err-commit_word-clause-stopped : goal.returns-in_err-commit_word-clause-stopped
returns-in_err-commit_word-clause-stopped g c = told_err c.from_residual.result (sym c.in_err-commit_word.ensures.stopped)

pub returns-in_err-commit_word-clause-keeps_fuse : goal.returns-in_err-commit_word-clause-keeps_fuse
returns-in_err-commit_word-clause-keeps_fuse g c = keeps_within (λ limit past. omega arith) c.commit_word.ensures.keeps_fuse

pub returns-in_err-commit_word-clause-blocks : goal.returns-in_err-commit_word-clause-blocks
returns-in_err-commit_word-clause-blocks g c = blocks_stay _ _ _ _ c.commit_word.ensures.wrote.mixed c.requires.blocks

pub lay_out-requires-clause-blocks : goal.lay_out-requires-clause-blocks
lay_out-requires-clause-blocks g c = blocks_stay _ _ _ _ c.commit_word.ensures.wrote.mixed c.requires.blocks

pub returns-in_err-lay_out-clause-done : goal.returns-in_err-lay_out-clause-done
returns-in_err-lay_out-clause-done g c = IfOk-from_err c.from_residual-in_err-lay_out.result _ c.from_residual-in_err-lay_out.ensures.0

pub returns-in_err-lay_out-clause-settled : goal.returns-in_err-lay_out-clause-settled
returns-in_err-lay_out-clause-settled g c = IfOk-from_err c.from_residual-in_err-lay_out.result _ c.from_residual-in_err-lay_out.ensures.0

pub returns-in_err-lay_out-clause-stopped : goal.returns-in_err-lay_out-clause-stopped
returns-in_err-lay_out-clause-stopped g c = told_err c.from_residual-in_err-lay_out.result c.in_err-lay_out.ensures.stopped

pub returns-in_err-lay_out-clause-keeps_fuse : goal.returns-in_err-lay_out-clause-keeps_fuse
returns-in_err-lay_out-clause-keeps_fuse g c = keeps_more (λ limit past. past) (keeps_within (λ limit past. omega arith) c.commit_word.ensures.keeps_fuse) c.lay_out.ensures.keeps_fuse

pub returns-in_err-lay_out-clause-blocks : goal.returns-in_err-lay_out-clause-blocks
returns-in_err-lay_out-clause-blocks g c = c.lay_out.ensures.blocks

pub returns-in_err-fence-clause-done : goal.returns-in_err-fence-clause-done
returns-in_err-fence-clause-done g c = IfOk-from_err c.from_residual-in_err-fence.result _ c.from_residual-in_err-fence.ensures.0

pub returns-in_err-fence-clause-settled : goal.returns-in_err-fence-clause-settled
returns-in_err-fence-clause-settled g c = IfOk-from_err c.from_residual-in_err-fence.result _ c.from_residual-in_err-fence.ensures.0

pub returns-in_err-fence-clause-stopped : goal.returns-in_err-fence-clause-stopped
returns-in_err-fence-clause-stopped g c = told_err c.from_residual-in_err-fence.result (sym c.in_err-fence.ensures.stopped)

pub returns-in_err-fence-clause-blocks : goal.returns-in_err-fence-clause-blocks
returns-in_err-fence-clause-blocks g c = subst (λ (r : Region). HasBlocks r c.args.sup.now.blocks) (sym c.fence.ensures.same) c.lay_out.ensures.blocks

pub commit_word-requires-2-clause-within : goal.commit_word-requires-2-clause-within
commit_word-requires-2-clause-within g c =
    let size = c.lay_out.ensures.blocks.0 in
    let from = c.requires.layout.blocks_from in
    let same : length (g.P.Pmem.region c.fence.new.self).words ≡ length (g.P.Pmem.region c.lay_out.new.memory).words = ap (λ (r : Region). length r.words) c.fence.ensures.same in
    omega (arith, size, from, same)

pub returns-clause-stopped : goal.returns-clause-stopped
returns-clause-stopped g c = burnt_told c.commit_word-2.result c.commit_word-2.ensures.stopped

pub returns-clause-blocks : goal.returns-clause-blocks
returns-clause-blocks g c = blocks_stay _ _ _ _ c.commit_word-2.ensures.wrote.mixed (subst (λ (r : Region). HasBlocks r c.args.sup.now.blocks) (sym c.fence.ensures.same) c.lay_out.ensures.blocks)

pub returns-clause-done : goal.returns-clause-done
returns-clause-done g c =
    let s = c.args.sup.now in
    let old = g.P.Pmem.region c.args.memory.now in
    let laid = g.P.Pmem.region c.lay_out.new.memory in
    let mixed = subst (λ (r : Region). IsMixed r (AnyAt (λ (a : ℕ). IsSystemWord s a ⊎ IsRootWord s a)) laid) c.in_ok-commit_word.ensures.done c.lay_out.ensures.wrote.mixed in
    let whole = formatted s c.args.time c.requires.layout c.requires.version old laid c.lay_out.ensures.blocks mixed c.in_ok-lay_out.ensures.done in
    on_ok_weaker c.commit_word-2.result
    (λ is. subst (λ (r : Region). IsFormatted old r s c.args.time) (sym (is ∙ ap (λ (r : Region). put r 0 magic) c.in_ok-fence.ensures.same)) whole)
    c.commit_word-2.ensures.done

pub returns-in_err-commit_word-clause-any_stop : goal.returns-in_err-commit_word-clause-any_stop
returns-in_err-commit_word-clause-any_stop g c settled left may =
    taken_leaves c.args.sup.now c.args.time c.requires.layout (g.P.Pmem.region c.args.memory.now) c.requires.blocks left (c.commit_word.ensures.any_stop settled left may)

pub returns-in_err-lay_out-clause-any_stop : goal.returns-in_err-lay_out-clause-any_stop
returns-in_err-lay_out-clause-any_stop g c settled =
    laying_leaves c.args.sup.now c.args.time c.requires.layout (g.P.Pmem.region c.args.memory.now) c.requires.blocks _ _ _ _ c.in_ok-commit_word.ensures.done c.in_ok-commit_word.ensures.settled c.lay_out.ensures.wrote

pub returns-in_err-fence-clause-any_stop : goal.returns-in_err-fence-clause-any_stop
returns-in_err-fence-clause-any_stop g c settled =
    refused_leaves _ _ _ _ (FormatLeaves (g.P.Pmem.region c.args.memory.now) c.args.sup.now c.args.time) c.fence.ensures.same c.in_err-fence.ensures.refused_keep
    (laying_leaves c.args.sup.now c.args.time c.requires.layout (g.P.Pmem.region c.args.memory.now) c.requires.blocks _ _ _ _ c.in_ok-commit_word.ensures.done c.in_ok-commit_word.ensures.settled c.lay_out.ensures.wrote)

pub returns-clause-any_stop : goal.returns-clause-any_stop
returns-clause-any_stop g c settled left may =
    let s = c.args.sup.now in
    let old = g.P.Pmem.region c.args.memory.now in
    let laid = g.P.Pmem.region c.lay_out.new.memory in
    let mixed = subst (λ (r : Region). IsMixed r (AnyAt (λ (a : ℕ). IsSystemWord s a ⊎ IsRootWord s a)) laid) c.in_ok-commit_word.ensures.done c.lay_out.ensures.wrote.mixed in
    let whole = formatted s c.args.time c.requires.layout c.requires.version old laid c.lay_out.ensures.blocks mixed c.in_ok-lay_out.ensures.done in
    magic_leaves s c.args.time c.requires.layout old c.requires.blocks _ laid (g.P.Pmem.region c.fence.new.self) left c.in_ok-commit_word.ensures.done c.lay_out.ensures.wrote.mixed c.in_ok-fence.ensures.same whole
    (c.commit_word-2.ensures.any_stop c.in_ok-fence.ensures.fenced left may)

pub returns-in_err-fence-clause-keeps_fuse : goal.returns-in_err-fence-clause-keeps_fuse
returns-in_err-fence-clause-keeps_fuse g c =
    keeps_more (λ limit past. omega arith) (keeps_more (λ limit past. past) (keeps_within (λ limit past. omega arith) c.commit_word.ensures.keeps_fuse) c.lay_out.ensures.keeps_fuse) c.fence.ensures.keeps_fuse

pub returns-clause-keeps_fuse : goal.returns-clause-keeps_fuse
returns-clause-keeps_fuse g c =
    keeps_more (λ limit past. omega arith)
    (keeps_more (λ limit past. omega arith) (keeps_more (λ limit past. past) (keeps_within (λ limit past. omega arith) c.commit_word.ensures.keeps_fuse) c.lay_out.ensures.keeps_fuse) c.fence.ensures.keeps_fuse)
    c.commit_word-2.ensures.keeps_fuse
