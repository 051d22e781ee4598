use Rattle.std.proofs.Common.{◌≡◌, ◌==◌, ◌+◌, ◌*◌, ◌≤◌, ◌∙◌, inl, inr, true, false, true≢false, is_err, ap, sym, subst, refl, Some}
use Rattle.std.proofs.lemmas.Result.{err_from_is_err_and, IfOk-from_err}
use Rattle.nv_region.specs.Region.{HasBlocks}
use Rattle.nv_region.specs.Stops.{IsMixed, LeavesOnly}
use Rattle.nv_region.specs.Fuses.{KeepsFuse}
use Rattle.nv_region.proofs.Stops.{mixed_same}
use Rattle.nv_super.specs.declared.superblock.Super.{Super}
use Rattle.nv_super.specs.Layout.{IsLayout}
use Rattle.nv_inode.specs.Upgraded.{IsUpgraded, UpgradeStores, UpgradedOrNot}
use Rattle.nv_rows.specs.RowList.{RowList}
use Rattle.nv_tree.specs.declared.refusal.Refusal.{Refusal}
use Rattle.nv_tree.proofs.Replies.{refused_by}
use Rattle.nv_mounted.proofs.BytesKept.{mixed_size}
use Rattle.nv_calls.specs.Mount.{Mount}
use Rattle.nv_calls.specs.Upgrading.{LeavesUpgrade}
use Rattle.nv_calls.proofs.CleanCall.{tree_stays}
use Rattle.nv_calls.proofs.CleanedRow.{has_blocks, region_size}
use Rattle.nv_calls.proofs.Mounts.{kept_when_stopped}
use Rattle.nv_calls.proofs.UpgradeCall.{fuse_kept, kept_so, no_version_stop, nothing_left, numbers_upgraded, tree_so, upgrade_done, upgrade_left, upgrade_refused, upgrade_stopped, upgrades_so, version_one}
use Rattle.nv_calls.proofs.fs.Fs.upgrade.Goals as goal

pub upgrade_tables-requires-clause-layout : goal.upgrade_tables-requires-clause-layout
upgrade_tables-requires-clause-layout g c = subst IsLayout (sym c.sup.ensures) c.are_laid.ensures.layout

pub upgrade_tables-requires-clause-blocks : goal.upgrade_tables-requires-clause-blocks
upgrade_tables-requires-clause-blocks g c =
    let runs : c.self.inside.stopped ≡ false = ap (λ (m : Mount g.row.P.Denot). m.stopped) c.self.view_is ∙ c.in_ok-upgradable.ensures.runs in
    let writes : c.self.inside.read_only ≡ false = ap (λ (m : Mount g.row.P.Denot). m.read_only) c.self.view_is ∙ c.in_ok-upgradable.ensures.writes in
    subst (λ (s : Super). HasBlocks (g.P.Pmem.region c.self.inside.memory) s.blocks) (sym c.sup.ensures) (has_blocks c.self.invariant.0 runs writes c.len-end.ensures.short)

-- ---- refused by its tests

pub returns-in_err-upgradable-clause-allowed : goal.returns-in_err-upgradable-clause-allowed
returns-in_err-upgradable-clause-allowed g c = IfOk-from_err c.from_residual.result _ c.from_residual.ensures.0

pub returns-in_err-upgradable-clause-refused : goal.returns-in_err-upgradable-clause-refused
returns-in_err-upgradable-clause-refused g c runs =
    let w = err_from_is_err_and c.from_residual.result c.from_residual.ensures.1 in
    refused_by c.from_residual.result c.in_err-upgradable.field-0.0 w.0 _ w.1 w.2 (inr (c.in_err-upgradable.ensures.refused runs))

pub returns-in_err-upgradable-clause-same_tree : goal.returns-in_err-upgradable-clause-same_tree
returns-in_err-upgradable-clause-same_tree g c = IfOk-from_err c.from_residual.result _ c.from_residual.ensures.0

pub returns-in_err-upgradable-clause-upgraded : goal.returns-in_err-upgradable-clause-upgraded
returns-in_err-upgradable-clause-upgraded g c = IfOk-from_err c.from_residual.result _ c.from_residual.ensures.0

pub returns-in_err-upgradable-clause-call : goal.returns-in_err-upgradable-clause-call
returns-in_err-upgradable-clause-call g c =
    let w = err_from_is_err_and c.from_residual.result c.from_residual.ensures.1 in
    upgrade_refused g.P.Pmem.region g.P.Pmem.fuse c.args.self.now c.from_residual.result c.in_err-upgradable.field-0.0 w.0 w.1 w.2 c.in_err-upgradable.ensures.stopped
    (λ runs is. no_version_stop c.args.self.now.read_only (c.args.self.now.sup.version == 2) (c.in_err-upgradable.ensures.refused runs ∙ ap (λ (e : Refusal). Some e) is))

pub returns-in_err-upgradable-clause-settled : goal.returns-in_err-upgradable-clause-settled
returns-in_err-upgradable-clause-settled g c = IfOk-from_err c.from_residual.result _ c.from_residual.ensures.0

pub returns-in_err-upgradable-clause-wrote : goal.returns-in_err-upgradable-clause-wrote
returns-in_err-upgradable-clause-wrote g c = mixed_same (g.P.Pmem.region c.args.self.now.memory) (UpgradeStores c.args.self.now.sup.cpus)

pub returns-in_err-upgradable-clause-any_stop : goal.returns-in_err-upgradable-clause-any_stop
returns-in_err-upgradable-clause-any_stop g c on able = nothing_left c.in_err-upgradable.ensures.kept on able _ (c.in_err-upgradable.ensures.settled on)

-- ---- done

pub upgrade-requires : goal.upgrade-requires
upgrade-requires g c =
    let runs : c.self.inside.stopped ≡ false = ap (λ (m : Mount g.row.P.Denot). m.stopped) c.self.view_is ∙ c.in_ok-upgradable.ensures.runs in
    let writes : c.self.inside.read_only ≡ false = ap (λ (m : Mount g.row.P.Denot). m.read_only) c.self.view_is ∙ c.in_ok-upgradable.ensures.writes in
    let one : c.self.inside.tables.layout.sup.version ≡ 1 = version_one c.self.invariant.0 runs writes (ap (λ (m : Mount g.row.P.Denot). m.sup.version == 2) c.self.view_is ∙ c.in_ok-upgradable.ensures.not_two) in
    record { version = one }

pub invariant_of-self : goal.invariant_of-self
invariant_of-self g c =
    let runs : c.self.inside.stopped ≡ false = ap (λ (m : Mount g.row.P.Denot). m.stopped) c.self.view_is ∙ c.in_ok-upgradable.ensures.runs in
    let writes : c.self.inside.read_only ≡ false = ap (λ (m : Mount g.row.P.Denot). m.read_only) c.self.view_is ∙ c.in_ok-upgradable.ensures.writes in
    let one : c.self.inside.tables.layout.sup.version ≡ 1 = version_one c.self.invariant.0 runs writes (ap (λ (m : Mount g.row.P.Denot). m.sup.version == 2) c.self.view_is ∙ c.in_ok-upgradable.ensures.not_two) in
    let up : IsUpgraded (g.P.Pmem.region c.self.inside.memory) c.self.inside.tables.layout.sup.cpus (g.P.Pmem.region c.upgrade_tables.new.memory) = subst (λ (s : Super). IsUpgraded (g.P.Pmem.region c.self.inside.memory) s.cpus (g.P.Pmem.region c.upgrade_tables.new.memory)) c.sup.ensures c.in-Ok.ensures.upgraded in (
      kept_so c.self.invariant.0 runs writes one (g.P.Pmem.region c.upgrade_tables.new.memory) up c.upgrade.new.self.layout c.upgrade-in-Ok.new.self.items c.upgrade-in-Ok-2.new.self c.upgrade.ensures.layout (ap (λ (r : RowList). r.items) c.upgrade-in-Ok.ensures) c.upgrade-in-Ok-2.ensures c.self.inside.stopped,
      numbers_upgraded c.self.inside.tables.layout c.upgrade.new.self.layout c.self.inside.rows c.upgrade-in-Ok.new.self c.upgrade.ensures.layout c.upgrade-in-Ok.ensures c.self.invariant.1,
      λ on. c.in-Ok.ensures.settled,
    )

pub returns-in-Ok-clause-allowed : goal.returns-in-Ok-clause-allowed
returns-in-Ok-clause-allowed g c = c.in_ok-upgradable.ensures.allowed

pub returns-in-Ok-clause-same_tree : goal.returns-in-Ok-clause-same_tree
returns-in-Ok-clause-same_tree g c =
    let runs : c.self.inside.stopped ≡ false = ap (λ (m : Mount g.row.P.Denot). m.stopped) c.self.view_is ∙ c.in_ok-upgradable.ensures.runs in
    let writes : c.self.inside.read_only ≡ false = ap (λ (m : Mount g.row.P.Denot). m.read_only) c.self.view_is ∙ c.in_ok-upgradable.ensures.writes in
    let one : c.self.inside.tables.layout.sup.version ≡ 1 = version_one c.self.invariant.0 runs writes (ap (λ (m : Mount g.row.P.Denot). m.sup.version == 2) c.self.view_is ∙ c.in_ok-upgradable.ensures.not_two) in
    let up : IsUpgraded (g.P.Pmem.region c.self.inside.memory) c.self.inside.tables.layout.sup.cpus (g.P.Pmem.region c.upgrade_tables.new.memory) = subst (λ (s : Super). IsUpgraded (g.P.Pmem.region c.self.inside.memory) s.cpus (g.P.Pmem.region c.upgrade_tables.new.memory)) c.sup.ensures c.in-Ok.ensures.upgraded in
    tree_stays g.P.Pmem.region c.self.view_is (g.P.Pmem.region c.upgrade_tables.new.memory) c.upgrade-in-Ok.new.self.items (tree_so c.self.invariant.0 runs writes one (g.P.Pmem.region c.upgrade_tables.new.memory) up c.upgrade.new.self.layout c.upgrade-in-Ok.new.self.items c.upgrade-in-Ok-2.new.self c.upgrade.ensures.layout (ap (λ (r : RowList). r.items) c.upgrade-in-Ok.ensures) c.upgrade-in-Ok-2.ensures)

pub returns-in-Ok-clause-upgraded : goal.returns-in-Ok-clause-upgraded
returns-in-Ok-clause-upgraded g c =
    let runs : c.self.inside.stopped ≡ false = ap (λ (m : Mount g.row.P.Denot). m.stopped) c.self.view_is ∙ c.in_ok-upgradable.ensures.runs in
    let writes : c.self.inside.read_only ≡ false = ap (λ (m : Mount g.row.P.Denot). m.read_only) c.self.view_is ∙ c.in_ok-upgradable.ensures.writes in
    let one : c.self.inside.tables.layout.sup.version ≡ 1 = version_one c.self.invariant.0 runs writes (ap (λ (m : Mount g.row.P.Denot). m.sup.version == 2) c.self.view_is ∙ c.in_ok-upgradable.ensures.not_two) in
    let up : IsUpgraded (g.P.Pmem.region c.self.inside.memory) c.self.inside.tables.layout.sup.cpus (g.P.Pmem.region c.upgrade_tables.new.memory) = subst (λ (s : Super). IsUpgraded (g.P.Pmem.region c.self.inside.memory) s.cpus (g.P.Pmem.region c.upgrade_tables.new.memory)) c.sup.ensures c.in-Ok.ensures.upgraded in
    upgrades_so g.P.Pmem.region c.self.view_is c.upgrade_tables.new.memory c.upgrade.new.self.layout c.upgrade-in-Ok.new.self.items c.upgrade-in-Ok-2.new.self refl up c.upgrade.ensures.layout (ap (λ (r : RowList). r.items) c.upgrade-in-Ok.ensures) c.upgrade-in-Ok-2.ensures _ _ _

pub returns-in-Ok-clause-call : goal.returns-in-Ok-clause-call
returns-in-Ok-clause-call g c =
    let runs : c.self.inside.stopped ≡ false = ap (λ (m : Mount g.row.P.Denot). m.stopped) c.self.view_is ∙ c.in_ok-upgradable.ensures.runs in
    let writes : c.self.inside.read_only ≡ false = ap (λ (m : Mount g.row.P.Denot). m.read_only) c.self.view_is ∙ c.in_ok-upgradable.ensures.writes in
    let mixed : IsMixed (g.P.Pmem.region c.self.inside.memory) (UpgradeStores c.self.inside.tables.layout.sup.cpus) (g.P.Pmem.region c.upgrade_tables.new.memory) = subst (λ (s : Super). IsMixed (g.P.Pmem.region c.self.inside.memory) (UpgradeStores s.cpus) (g.P.Pmem.region c.upgrade_tables.new.memory)) c.sup.ensures c.upgrade_tables.ensures.wrote.mixed in
    let layout : IsLayout c.self.inside.tables.layout.sup = c.are_laid.ensures.layout in
    let fuse = fuse_kept (g.P.Pmem.region c.self.inside.memory) c.self.inside.tables.layout.sup layout (region_size c.self.invariant.0 runs writes) (subst (λ (s : Super). KeepsFuse (λ limit. 4096 * (1 + s.cpus) ≤ limit) (g.P.Pmem.fuse c.self.inside.memory) (g.P.Pmem.fuse c.upgrade_tables.new.memory)) c.sup.ensures c.upgrade_tables.ensures.keeps_fuse) in
    upgrade_done g.P.Pmem.region g.P.Pmem.fuse c.self.view_is c.upgrade_tables.new.memory runs writes (mixed_size mixed) fuse _ c.upgrade.new.self.layout c.upgrade-in-Ok.new.self.items c.upgrade-in-Ok-2.new.self (ap (λ (r : RowList). r.items) c.upgrade-in-Ok.ensures)

pub returns-in-Ok-clause-settled : goal.returns-in-Ok-clause-settled
returns-in-Ok-clause-settled g c = c.in-Ok.ensures.settled

pub returns-in-Ok-clause-wrote : goal.returns-in-Ok-clause-wrote
returns-in-Ok-clause-wrote g c =
    let runs : c.self.inside.stopped ≡ false = ap (λ (m : Mount g.row.P.Denot). m.stopped) c.self.view_is ∙ c.in_ok-upgradable.ensures.runs in
    let writes : c.self.inside.read_only ≡ false = ap (λ (m : Mount g.row.P.Denot). m.read_only) c.self.view_is ∙ c.in_ok-upgradable.ensures.writes in
    let mixed : IsMixed (g.P.Pmem.region c.self.inside.memory) (UpgradeStores c.self.inside.tables.layout.sup.cpus) (g.P.Pmem.region c.upgrade_tables.new.memory) = subst (λ (s : Super). IsMixed (g.P.Pmem.region c.self.inside.memory) (UpgradeStores s.cpus) (g.P.Pmem.region c.upgrade_tables.new.memory)) c.sup.ensures c.upgrade_tables.ensures.wrote.mixed in
    subst (λ (m : Mount g.row.P.Denot). IsMixed (g.P.Pmem.region m.memory) (UpgradeStores m.sup.cpus) (g.P.Pmem.region c.upgrade_tables.new.memory)) c.self.view_is mixed

pub returns-in-Ok-clause-any_stop : goal.returns-in-Ok-clause-any_stop
returns-in-Ok-clause-any_stop g c on able =
    let runs : c.self.inside.stopped ≡ false = ap (λ (m : Mount g.row.P.Denot). m.stopped) c.self.view_is ∙ c.in_ok-upgradable.ensures.runs in
    let writes : c.self.inside.read_only ≡ false = ap (λ (m : Mount g.row.P.Denot). m.read_only) c.self.view_is ∙ c.in_ok-upgradable.ensures.writes in
    let one : c.self.inside.tables.layout.sup.version ≡ 1 = version_one c.self.invariant.0 runs writes (ap (λ (m : Mount g.row.P.Denot). m.sup.version == 2) c.self.view_is ∙ c.in_ok-upgradable.ensures.not_two) in
    subst (λ (m : Mount g.row.P.Denot). LeavesOnly (g.P.Pmem.region c.upgrade_tables.new.memory) (g.P.Pmem.may_hold c.upgrade_tables.new.memory) (LeavesUpgrade (g.P.Pmem.region m.memory) m)) c.self.view_is
    (upgrade_left c.self.invariant.0 runs writes one _ _ _ (λ settled. subst (λ (s : Super). LeavesOnly (g.P.Pmem.region c.upgrade_tables.new.memory) (g.P.Pmem.may_hold c.upgrade_tables.new.memory) (UpgradedOrNot (g.P.Pmem.region c.self.inside.memory) s.cpus)) c.sup.ensures (c.upgrade_tables.ensures.any_stop settled)) (c.self.invariant.2 runs))

-- ---- stopped

pub invariant_of-self-in-Err : goal.invariant_of-self-in-Err
invariant_of-self-in-Err g c = (
  kept_when_stopped (g.P.Pmem.region c.upgrade_tables.new.memory) c.self.inside.tables.layout.sup c.self.inside.tables.layout c.self.inside.rows.items c.self.inside.free c.self.inside.faults.items c.self.inside.read_only true refl c.self.invariant.0.writes c.self.invariant.0.lists refl,
  c.self.invariant.1,
  λ on. absurd (true≢false on),
)

pub returns-in-Err-clause-refused : goal.returns-in-Err-clause-refused
returns-in-Err-clause-refused g c still = inl (refl, c.in_ok-upgradable.ensures.allowed)

pub returns-in-Err-clause-call : goal.returns-in-Err-clause-call
returns-in-Err-clause-call g c =
    let runs : c.self.inside.stopped ≡ false = ap (λ (m : Mount g.row.P.Denot). m.stopped) c.self.view_is ∙ c.in_ok-upgradable.ensures.runs in
    let writes : c.self.inside.read_only ≡ false = ap (λ (m : Mount g.row.P.Denot). m.read_only) c.self.view_is ∙ c.in_ok-upgradable.ensures.writes in
    let mixed : IsMixed (g.P.Pmem.region c.self.inside.memory) (UpgradeStores c.self.inside.tables.layout.sup.cpus) (g.P.Pmem.region c.upgrade_tables.new.memory) = subst (λ (s : Super). IsMixed (g.P.Pmem.region c.self.inside.memory) (UpgradeStores s.cpus) (g.P.Pmem.region c.upgrade_tables.new.memory)) c.sup.ensures c.upgrade_tables.ensures.wrote.mixed in
    let layout : IsLayout c.self.inside.tables.layout.sup = c.are_laid.ensures.layout in
    let fuse = fuse_kept (g.P.Pmem.region c.self.inside.memory) c.self.inside.tables.layout.sup layout (region_size c.self.invariant.0 runs writes) (subst (λ (s : Super). KeepsFuse (λ limit. 4096 * (1 + s.cpus) ≤ limit) (g.P.Pmem.fuse c.self.inside.memory) (g.P.Pmem.fuse c.upgrade_tables.new.memory)) c.sup.ensures c.upgrade_tables.ensures.keeps_fuse) in
    upgrade_stopped g.P.Pmem.region g.P.Pmem.fuse c.self.view_is c.upgrade_tables.new.memory runs writes (mixed_size mixed) fuse (sym c.upgrade_tables.ensures.stopped ∙ ap is_err c.in-Err.is)

pub returns-in-Err-clause-wrote : goal.returns-in-Err-clause-wrote
returns-in-Err-clause-wrote g c =
    let runs : c.self.inside.stopped ≡ false = ap (λ (m : Mount g.row.P.Denot). m.stopped) c.self.view_is ∙ c.in_ok-upgradable.ensures.runs in
    let writes : c.self.inside.read_only ≡ false = ap (λ (m : Mount g.row.P.Denot). m.read_only) c.self.view_is ∙ c.in_ok-upgradable.ensures.writes in
    let mixed : IsMixed (g.P.Pmem.region c.self.inside.memory) (UpgradeStores c.self.inside.tables.layout.sup.cpus) (g.P.Pmem.region c.upgrade_tables.new.memory) = subst (λ (s : Super). IsMixed (g.P.Pmem.region c.self.inside.memory) (UpgradeStores s.cpus) (g.P.Pmem.region c.upgrade_tables.new.memory)) c.sup.ensures c.upgrade_tables.ensures.wrote.mixed in
    subst (λ (m : Mount g.row.P.Denot). IsMixed (g.P.Pmem.region m.memory) (UpgradeStores m.sup.cpus) (g.P.Pmem.region c.upgrade_tables.new.memory)) c.self.view_is mixed

pub returns-in-Err-clause-any_stop : goal.returns-in-Err-clause-any_stop
returns-in-Err-clause-any_stop g c on able =
    let runs : c.self.inside.stopped ≡ false = ap (λ (m : Mount g.row.P.Denot). m.stopped) c.self.view_is ∙ c.in_ok-upgradable.ensures.runs in
    let writes : c.self.inside.read_only ≡ false = ap (λ (m : Mount g.row.P.Denot). m.read_only) c.self.view_is ∙ c.in_ok-upgradable.ensures.writes in
    let one : c.self.inside.tables.layout.sup.version ≡ 1 = version_one c.self.invariant.0 runs writes (ap (λ (m : Mount g.row.P.Denot). m.sup.version == 2) c.self.view_is ∙ c.in_ok-upgradable.ensures.not_two) in
    subst (λ (m : Mount g.row.P.Denot). LeavesOnly (g.P.Pmem.region c.upgrade_tables.new.memory) (g.P.Pmem.may_hold c.upgrade_tables.new.memory) (LeavesUpgrade (g.P.Pmem.region m.memory) m)) c.self.view_is
    (upgrade_left c.self.invariant.0 runs writes one _ _ _ (λ settled. subst (λ (s : Super). LeavesOnly (g.P.Pmem.region c.upgrade_tables.new.memory) (g.P.Pmem.may_hold c.upgrade_tables.new.memory) (UpgradedOrNot (g.P.Pmem.region c.self.inside.memory) s.cpus)) c.sup.ensures (c.upgrade_tables.ensures.any_stop settled)) (c.self.invariant.2 runs))
