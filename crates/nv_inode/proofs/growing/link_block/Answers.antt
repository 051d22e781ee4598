use Rattle.std.proofs.Common.{sym, ap, ◌∙◌, ◌*◌, subst}
use Rattle.std.proofs.lemmas.Result.{on_ok_weaker}
use Rattle.nv_region.specs.Region.{Region, put}
use Rattle.nv_inode.specs.Growing.{IsLinked}
use Rattle.nv_inode.proofs.LinkedBlocks.{linked, linking_leaves}
use Rattle.nv_inode.proofs.growing.link_block.Goals as goal

pub returns-clause-linked : goal.returns-clause-linked
returns-clause-linked g c =
    let old = g.P.Pmem.region c.args.memory.now in
    let cleared = g.P.Pmem.region c.clear_starts.new.memory in
    let whole : IsLinked old c.args.link c.args.block (put cleared c.args.link (4096 * c.args.block)) =
    linked old cleared c.args.link c.args.block c.requires.aligned c.requires.within c.len-length.ensures.short c.requires.apart c.clear_starts.ensures.wrote.mixed c.in_ok-clear_starts.ensures.blank in
    on_ok_weaker c.commit_word.result
    (λ is. subst (λ (r : Region). IsLinked old c.args.link c.args.block r) (sym (is ∙ ap (λ (r : Region). put r c.args.link (4096 * c.args.block)) c.fence.ensures.same)) whole)
    c.commit_word.ensures.done

pub returns-clause-any_stop : goal.returns-clause-any_stop
returns-clause-any_stop g c settled left may =
    let old = g.P.Pmem.region c.args.memory.now in
    let cleared = g.P.Pmem.region c.clear_starts.new.memory in
    linking_leaves old cleared (g.P.Pmem.region c.fence.new.self) left c.args.link c.args.block c.clear_starts.ensures.wrote.mixed c.fence.ensures.same
    (linked old cleared c.args.link c.args.block c.requires.aligned c.requires.within c.len-length.ensures.short c.requires.apart c.clear_starts.ensures.wrote.mixed c.in_ok-clear_starts.ensures.blank)
    (c.commit_word.ensures.any_stop c.in_ok-fence.ensures.fenced left may)
