use Rattle.std.proofs.Common.{sym, ap, ◌∙◌, ◌≤◌, ◌*◌, length, subst, arith}
use Rattle.std.proofs.lemmas.Result.{on_ok_weaker}
use Rattle.nv_region.specs.Region.{Region, put}
use Rattle.nv_inode.specs.Upgraded.{IsUpgraded}
use Rattle.nv_inode.proofs.UpgradedTables.{is_upgraded, upgrading_leaves}
use Rattle.nv_inode.proofs.upgrading.upgrade_tables.Goals as goal

pub returns-clause-upgraded : goal.returns-clause-upgraded
returns-clause-upgraded g c =
    let old = g.P.Pmem.region c.args.memory.now in
    let cleared = g.P.Pmem.region c.clear_links.new.memory in
    let long : 16 ≤ 8 * length cleared.words = (let same = c.clear_links.ensures.wrote.mixed.as_long in let words = c.requires.blocks.0 in let from = c.requires.layout.blocks_from in omega (arith, same, words, from)) in
    let whole : IsUpgraded old c.args.sup.now.cpus (put cleared 8 2) = is_upgraded old cleared c.args.sup.now.cpus long c.clear_links.ensures.wrote.mixed c.in_ok-clear_links.ensures.cleared in
    on_ok_weaker c.commit_word.result
    (λ is. subst (λ (r : Region). IsUpgraded old c.args.sup.now.cpus r) (sym (is ∙ ap (λ (r : Region). put r 8 2) c.fence.ensures.same)) whole)
    c.commit_word.ensures.done

pub returns-clause-any_stop : goal.returns-clause-any_stop
returns-clause-any_stop g c settled left may =
    let old = g.P.Pmem.region c.args.memory.now in
    let cleared = g.P.Pmem.region c.clear_links.new.memory in
    let long : 16 ≤ 8 * length cleared.words = (let same = c.clear_links.ensures.wrote.mixed.as_long in let words = c.requires.blocks.0 in let from = c.requires.layout.blocks_from in omega (arith, same, words, from)) in
    upgrading_leaves old cleared (g.P.Pmem.region c.fence.new.self) left c.args.sup.now.cpus c.clear_links.ensures.wrote.mixed c.fence.ensures.same
    (is_upgraded old cleared c.args.sup.now.cpus long c.clear_links.ensures.wrote.mixed c.in_ok-clear_links.ensures.cleared)
    (c.commit_word.ensures.any_stop c.in_ok-fence.ensures.fenced left may)
