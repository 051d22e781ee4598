-- What `upgrade` leaves of a mounted file system.
use Rattle.std.proofs.Common.{◌≡◌, ◌⊎◌, inl, inr, ℕ, ◌+◌, ◌*◌, ◌≤◌, ◌==◌, Bool, true, false, List, [], ◌∷◌, refl, ap, sym, ◌∙◌, subst, arith, Some, Result, Err, Ok, IsTrue}
use Rattle.std.proofs.Math.Logic.{∥∥₁_elim, ∥∥₁_map}
use Rattle.std.proofs.Math.Nat.{ℕ_set}
use Rattle.std.proofs.Props.{props}
use Rattle.std.proofs.lemmas.Bool.{true≢false}
use Rattle.nv_region.specs.Region.{Region, size}
use Rattle.nv_region.specs.Stops.{Choices, LeavesOnly, NothingPending}
use Rattle.nv_region.specs.Fuses.{FuseState, KeepsFuse}
use Rattle.nv_super.specs.declared.superblock.Super.{Super}
use Rattle.nv_super.specs.declared.faults.Fault.{Fault}
use Rattle.nv_super.specs.declared.owners.Run.{Run}
use Rattle.nv_super.specs.Layout.{IsLayout, Layout}
use Rattle.nv_inode.specs.Upgraded.{IsUpgraded, UpgradedOrNot, upgraded, upgraded_layout}
use Rattle.nv_alloc.specs.FreeValue.{FreeLists}
use Rattle.nv_scan.specs.declared.piece.Row.{Row}
use Rattle.nv_rows.specs.RowList.{HasNumbersOf, RowList}
use Rattle.nv_outcome.proofs.SuperOf.{version_of_super}
use Rattle.nv_graph.specs.Read.{row_of}
use Rattle.nv_mounted.specs.Held.{Store}
use Rattle.nv_mounted.specs.Front.{SameBehind}
use Rattle.nv_mounted.specs.Mounted.{IsMounted}
use Rattle.nv_mounted.proofs.BytesKept.{data_behind}
use Rattle.nv_mounted.proofs.Closes.{own_undo}
use Rattle.nv_mounted.proofs.Upgraded.{clearing_behind, clearing_mounted, upgraded_behind, upgraded_mounted}
use Rattle.nv_commit.proofs.Left.{sound_can}
use Rattle.nv_tree.specs.declared.refusal.Refusal.{Refusal}
use Rattle.nv_tree.specs.declared.refusal.Refusal.TheVariants.{IsVersion2, ReadOnly, Stopped}
use Rattle.nv_tree.specs.Refusals.{first_refusal}
use Rattle.nv_tree.specs.Tree.{SameTree}
use Rattle.nv_paths.specs.Seen.{tree_of}
use Rattle.nv_calls.specs.Mount.{IsKept, Mount}
use Rattle.nv_calls.specs.Stopped.{IsAsMounted}
use Rattle.nv_calls.specs.Upgrading.{KeepsUpgrade, Upgrades}
use Rattle.nv_calls.proofs.CallKept.{refused_first}
use Rattle.nv_calls.proofs.Early.{good_reply}
use Rattle.nv_calls.proofs.Mounts.{bytes_stay, kept_of_mounted, mounted_of_kept}
use Rattle.nv_calls.proofs.RowChange.{unchanged}
use Rattle.nv_calls.proofs.Stopped.{files_stay, recovers_to, stays_itself}
use Rattle.nv_calls.proofs.Tests.{if_err}

-- ---- what recovery finds

-- a region with the same words behind the journals shows the same tree by the same rows
tree_behind : {R : Region} {l : Layout} {held : Store} {rows : List Row} {free : List (List Run)} → IsMounted R l held rows free → (left : Region) → SameBehind l.sup.cpus R left → SameTree (tree_of left rows) (tree_of R rows)
tree_behind {R} {l} {rows = rows} m left same j = unchanged R left rows (files_stay m left (λ i h is x. data_behind l R left h same x)) j (row_of rows j) refl

-- what is mounted without anything pending is recovered so
as_mounted : (R left : Region) (l : Layout) (held : Store) (rows : List Row) (free : List (List Run)) → IsMounted left l held rows free → SameTree (tree_of left rows) (tree_of R rows) → IsAsMounted R l rows free left
as_mounted R left l held rows free m same =
    let back = sym (own_undo m.sound) in (
      recovers_to (sound_can m.sound) (subst (λ (U : Region). IsMounted U l held rows free) back m),
      subst (λ (U : Region). SameTree (tree_of U rows) (tree_of R rows)) back same,
    )

left_by : (R left : Region) (l : Layout) (held : Store) (rows : List Row) (free : List (List Run)) → l.sup.version ≡ 1 → IsMounted R l held rows free → UpgradedOrNot R l.sup.cpus left
    → IsAsMounted R l rows free left ⊎ IsAsMounted R (upgraded_layout l) rows free left
left_by R left l held rows free one m (inl mixed) = inl (as_mounted R left l held rows free (clearing_mounted R left l held rows free one mixed m) (tree_behind m left (clearing_behind R left l mixed)))
left_by R left l held rows free one m (inr up) = inr (as_mounted R left (upgraded_layout l) held rows free (upgraded_mounted R left l held rows free one up m) (tree_behind m left (upgraded_behind R left l up)))

module _ {R : Region} {s : Super} {l : Layout} {rows : List Row} {free : FreeLists} {faults : List Fault} {read_only stopped : Bool} (kept : IsKept R s l rows free faults read_only stopped) (runs : stopped ≡ false) (writes : read_only ≡ false) where
  -- the version is 1 where it isn't 2
  pub version_one : (l.sup.version == 2) ≡ false → l.sup.version ≡ 1
  version_one off = ∥∥₁_elim (mounted_of_kept kept runs writes) prop (λ w. (let m = w.1 in let sound = m.sound in by (version_of_super R l.sup sound.sup))) where
    prop : IsProp (l.sup.version ≡ 1)
    prop = hlevel (props, ℕ_set)

    by : (l.sup.version ≡ 1) ⊎ (l.sup.version ≡ 2) → l.sup.version ≡ 1
    by (inl one) = one
    by (inr two) = absurd (true≢false (sym (ap (λ (v : ℕ). v == 2) two) ∙ off))

  -- What a stop leaves.
  pub upgrade_left : l.sup.version ≡ 1 → (S : Region) (old last : Choices) → (NothingPending R old → LeavesOnly S last (UpgradedOrNot R l.sup.cpus)) → NothingPending R old
      → LeavesOnly S last (λ left. ∥ (IsAsMounted R l rows free.pools left ⊎ IsAsMounted R (upgraded_layout l) rows free.pools left) ∥₁)
  upgrade_left one S old last step settled left may = ∥∥₁_map (mounted_of_kept kept runs writes) (λ w. left_by R left l w.0 rows free.pools one w.1 (step settled left may))

  -- Nothing was stored.
  pub nothing_left : (choices : Choices) → NothingPending R choices → LeavesOnly R choices (λ left. ∥ (IsAsMounted R l rows free.pools left ⊎ IsAsMounted R (upgraded_layout l) rows free.pools left) ∥₁)
  nothing_left choices settled left may = ∥∥₁_map (stays_itself kept runs writes choices settled left may) (λ w. inl w)

  module _ (one : l.sup.version ≡ 1) (Q : Region) (up : IsUpgraded R l.sup.cpus Q) where
    -- it is kept
    pub upgraded_kept : (now : Bool) → IsKept Q (upgraded l.sup) (upgraded_layout l) rows (record free { sup = upgraded free.sup }) faults read_only now
    upgraded_kept now = kept_of_mounted Q (upgraded l.sup) (upgraded_layout l) rows (record free { sup = upgraded free.sup }) faults read_only now refl kept.writes writes (ap upgraded kept.lists)
        (∥∥₁_map (mounted_of_kept kept runs writes) (λ w. (w.0, upgraded_mounted R Q l w.0 rows free.pools one up w.1)))

    -- and the tree is as it was
    pub upgraded_tree : SameTree (tree_of Q rows) (tree_of R rows)
    upgraded_tree j = unchanged R Q rows (bytes_stay kept runs writes Q (λ held m i h is x. data_behind l R Q h (upgraded_behind R Q l up) x)) j (row_of rows j) refl

    -- with these tables, these rows and these free lists
    module _ (k : Layout) (items : List Row) (after : FreeLists) (tables : k ≡ upgraded_layout l) (same : items ≡ rows) (lists : after ≡ record free { sup = upgraded free.sup }) where
      pub kept_so : (now : Bool) → IsKept Q k.sup k items after faults read_only now
      kept_so now =
          subst (λ (m : Layout). IsKept Q m.sup m items after faults read_only now) (sym tables)
          (subst (λ (rs : List Row). IsKept Q (upgraded l.sup) (upgraded_layout l) rs after faults read_only now) (sym same)
          (subst (λ (f : FreeLists). IsKept Q (upgraded l.sup) (upgraded_layout l) rows f faults read_only now) (sym lists) (upgraded_kept now)))

      pub tree_so : SameTree (tree_of Q items) (tree_of R rows)
      tree_so = subst (λ (rs : List Row). SameTree (tree_of Q rs) (tree_of R rows)) (sym same) upgraded_tree

-- the numbers of the rows are those of the tables
pub numbers_upgraded : (l k : Layout) (rows after : RowList) → k ≡ upgraded_layout l → after ≡ record rows { sup = record rows.sup { version = 2 } } → HasNumbersOf l rows → HasNumbersOf k after
numbers_upgraded l k rows after tables same has =
    subst (λ (m : Layout). HasNumbersOf m after) (sym tables)
    (subst (λ (r : RowList). HasNumbersOf (upgraded_layout l) r) (sym same) (record { sup = ap upgraded has.sup; sizes = has.sizes }))

-- ---- by the mount

module _ {P : Type 0} (region : P → Region) (fuse : P → FuseState) where
  -- refused before anything was stored
  pub upgrade_refused : {T W : Type 0} (m : Mount P) (r : Result T Refusal) (e x : Refusal) → r ≡ Err x → x ≡ e → (IsTrue m.stopped → ◌≡◌ {A = Result W Refusal} (Err e) (Err Stopped)) → (m.stopped ≡ false → e ≡ Stopped → ⊥)
      → KeepsUpgrade region fuse m m r
  upgrade_refused {T} {W} m r e x is same before off =
      let call = refused_first {T = T} region fuse {W = W} m r e x is same before off in
      record {
        stopped_before = call.stopped_before;
        unchanged = if_err r _ (λ f on. refl);
        tables = if_err r _ (λ f. (refl, refl));
        stopped = call.stopped;
        rows = refl;
        faults = refl;
        mode = refl;
        length = refl;
        keeps_fuse = call.keeps_fuse;
        read_only = λ only. refl;
      }

-- the journals lie within the region
pub fuse_kept : {old new : FuseState} (R : Region) (s : Super) → IsLayout s → size R ≡ 4096 * s.blocks → KeepsFuse (λ limit. 4096 * (1 + s.cpus) ≤ limit) old new → KeepsFuse (λ limit. size R ≤ limit) old new
fuse_kept R s layout long kept = record {
  burnt = kept.burnt;
  steady = kept.steady;
  stays_open = λ limit past on. kept.stays_open limit (let areas = layout.areas in let room = areas.room in omega (arith, past, long, room)) on;
}

module _ {P : Type 0} (region : P → Region) (fuse : P → FuseState) {n m : Mount P} (same : n ≡ m) (now : P) (runs : n.stopped ≡ false) (writes : n.read_only ≡ false) (length : size (region now) ≡ size (region n.memory))
    (keeps_fuse : KeepsFuse (λ limit. size (region n.memory) ≤ limit) (fuse n.memory) (fuse now)) where
  -- done
  pub upgrade_done : {T : Type 0} (a : T) (k : Layout) (items : List Row) (after : FreeLists) → items ≡ n.rows
      → KeepsUpgrade region fuse m (record { memory = now; sup = k.sup; layout = k; rows = items; free = after; faults = n.faults; read_only = n.read_only; stopped = n.stopped }) (Ok a)
  upgrade_done a k items after rows =
      let new : Mount P = record { memory = now; sup = k.sup; layout = k; rows = items; free = after; faults = n.faults; read_only = n.read_only; stopped = n.stopped } in
      subst (λ (q : Mount P). KeepsUpgrade region fuse q new (Ok a)) same (record {
        stopped_before = λ on. absurd (let clash : true ≡ false = sym on ∙ runs in cc);
        unchanged = tt;
        tables = tt;
        stopped = λ still. good_reply n.stopped a runs;
        rows = rows;
        faults = refl;
        mode = refl;
        length = length;
        keeps_fuse = keeps_fuse;
        read_only = λ only. absurd (let clash : true ≡ false = sym only ∙ writes in cc);
      })

  -- stopped
  pub upgrade_stopped : {T : Type 0} → IsTrue (fuse now).has_burnt
      → KeepsUpgrade {T = T} region fuse m (record { memory = now; sup = n.sup; layout = n.layout; rows = n.rows; free = n.free; faults = n.faults; read_only = n.read_only; stopped = true }) (Err Stopped)
  upgrade_stopped {T} burnt =
      let new : Mount P = record { memory = now; sup = n.sup; layout = n.layout; rows = n.rows; free = n.free; faults = n.faults; read_only = n.read_only; stopped = true } in
      subst (λ (q : Mount P). KeepsUpgrade {T = T} region fuse q new (Err Stopped)) same (record {
        stopped_before = λ on. absurd (let clash : true ≡ false = sym on ∙ runs in cc);
        unchanged = λ off. absurd (off refl);
        tables = (refl, refl);
        stopped = λ still. ((λ on. (refl, burnt)), (λ is. refl));
        rows = refl;
        faults = refl;
        mode = refl;
        length = length;
        keeps_fuse = keeps_fuse;
        read_only = λ only. absurd (let clash : true ≡ false = sym only ∙ writes in cc);
      })

-- what is upgraded
pub upgrades_so : {P : Type 0} (region : P → Region) {n m : Mount P} → n ≡ m → (now : P) (k : Layout) (items : List Row) (after : FreeLists) → n.layout.sup ≡ n.sup → IsUpgraded (region n.memory) n.sup.cpus (region now) → k ≡ upgraded_layout n.layout → items ≡ n.rows
    → after ≡ record n.free { sup = upgraded n.free.sup } → (read_only stopped : Bool) (faults : List Fault) → Upgrades region m (record { memory = now; sup = k.sup; layout = k; rows = items; free = after; faults = faults; read_only = read_only; stopped = stopped })
upgrades_so {P} region {n} {m} same now k items after tables up layout rows free read_only stopped faults =
    subst (λ (q : Mount P). Upgrades region q (record { memory = now; sup = k.sup; layout = k; rows = items; free = after; faults = faults; read_only = read_only; stopped = stopped })) same
    (record { stored = up; sup = ap (λ (t : Layout). t.sup) layout ∙ ap upgraded tables; layout = layout; rows = rows; free = free })

-- ---- its tests

pub no_version_stop : (read_only two : Bool) → first_refusal ((read_only, ReadOnly) ∷ (two, IsVersion2) ∷ []) ≡ Some Stopped → ⊥
no_version_stop true two e = absurd (cc)
no_version_stop false true e = absurd (cc)
no_version_stop false false e = absurd (cc)
