-- What is known of a row whose log is cleaned.
use Rattle.std.proofs.Common.{◌≡◌, ℕ, ◌+◌, ◌*◌, ◌%◌, ◌<◌, Bool, true, false, List, length, get_or, inl, ap, sym, subst, arith, Option, Some, None, IfSome}
use Rattle.std.specs.List.{Contains}
use Rattle.std.proofs.Math.Logic.{∥∥₁_elim}
use Rattle.std.proofs.Math.Nat.{ℕ_set}
use Rattle.std.proofs.Props.{props}
use Rattle.std.proofs.lemmas.List.{get_or_default}
use Rattle.nv_region.specs.Region.{HasBlocks, Region, size}
use Rattle.nv_super.specs.declared.superblock.Super.{Super}
use Rattle.nv_super.specs.declared.superblock.SuperFault.TheVariants.{Length}
use Rattle.nv_super.specs.declared.faults.Fault.{Fault}
use Rattle.nv_super.specs.Super.{IsSuper}
use Rattle.nv_super.specs.Layout.{Layout}
use Rattle.nv_alloc.specs.FreeValue.{FreeLists}
use Rattle.nv_inode.specs.Slot.{is_right_log}
use Rattle.nv_logpage.specs.Append.{EndBy}
use Rattle.nv_scan.specs.declared.piece.Row.{Row}
use Rattle.nv_mounted.specs.Held.{Held, Store}
use Rattle.nv_mounted.proofs.Shown.{stands_at}
use Rattle.nv_outcome.proofs.SuperOf.{blocks_of_super, is_equal}
use Rattle.nv_steps.specs.LessNames.{AreOwn}
use Rattle.nv_steps.specs.Steps.{ShowsRow}
use Rattle.nv_calls.specs.CleanCall.{IsKnown}
use Rattle.nv_calls.specs.Mount.{IsKept}
use Rattle.nv_calls.proofs.Mounts.{mounted_of_kept}
use Rattle.nv_calls.proofs.OneRow.{shows_row}
use Rattle.nv_calls.proofs.OwnedRow.{owns_blocks}

whole_blocks : (R : Region) (l : Layout) → IsSuper R l.sup → size R ≡ 4096 * l.sup.blocks
whole_blocks R l is =
    let blocks = blocks_of_super R l.sup is in
    let whole = is_equal (size R % 4096) 0 (λ differs. is.sound Length (inl differs)) in
    omega (arith, blocks, whole)

right_of : {R : Region} {l : Layout} {held : Store} {h : Held} {row : Row} {free : FreeLists} → ShowsRow R l held h row free → is_right_log l.sup row.head row.tail ≡ true
right_of {R} {l} {held} {h} {row} shows =
    let sound = shows.sound in
    let told = shows.told in
    let v = stands_at sound.shows row.inode h shows.holds in
    subst (λ (x : ℕ). is_right_log l.sup x row.tail ≡ true) (sym told.head) (subst (λ (y : ℕ). is_right_log l.sup h.head y ≡ true) (sym told.tail) v.is.right)

module _ {R : Region} {s : Super} {l : Layout} {rows : List Row} {free : FreeLists} {faults : List Fault} {read_only stopped : Bool} (kept : IsKept R s l rows free faults read_only stopped) (runs : stopped ≡ false) (writes : read_only ≡ false) where
  pub region_size : size R ≡ 4096 * l.sup.blocks
  region_size = ∥∥₁_elim (mounted_of_kept kept runs writes) prop (λ w. (let m = w.1 in let sound = m.sound in whole_blocks R l sound.sup)) where
    prop : IsProp (size R ≡ 4096 * l.sup.blocks)
    prop = hlevel (props, ℕ_set)

  -- the region is whole blocks, where fewer than 8 bytes stand behind its words
  pub has_blocks : length R.rest < 8 → HasBlocks R l.sup.blocks
  has_blocks short = (let all = region_size in (omega (arith, all, short), omega (arith, all, short)))

  module _ (row : Row) (c : Contains rows row) where
    pub right_log : is_right_log l.sup row.head row.tail ≡ true
    right_log = ∥∥₁_elim (mounted_of_kept kept runs writes) prop (λ w. right_of {free = free} (shows_row {free = free} w.1 kept.lists row c).1) where
      prop : IsProp (is_right_log l.sup row.head row.tail ≡ true)
      prop = hlevel (props, ℕ_set)

    pub own_pages : AreOwn free row.pages.items
    own_pages = (let own = owns_blocks kept runs writes row c in own.log)

    pub end_inside : EndBy row.pages.items (size R)
    end_inside j below =
        let own = own_pages in
        let place = own.in_data (get_or row.pages.items j 0) (j, below, get_or_default row.pages.items j (get_or row.pages.items j 0) 0 below) in
        let high : get_or row.pages.items j 0 < l.sup.blocks = subst (λ (t : Super). get_or row.pages.items j 0 < t.blocks) kept.lists place.1 in
        let all = region_size in
        omega (arith, high, all)

    -- a page that is known to go isn't the last
    pub known_before_last : (known : Option ℕ) → IsKnown R l row.inode known → IfSome known (λ k. k + 1 < length row.pages.items)
    known_before_last None is = tt
    known_before_last (Some k) is = ∥∥₁_elim (mounted_of_kept kept runs writes) prop (λ w. (
        let v = shows_row {free = free} w.1 kept.lists row c in
        let shows = v.1 in
        let told = shows.told in
        let first = is w.0 v.0 shows.sound shows.holds in
        let dead = first.0 in
        let pages = ap (λ (ps : List ℕ). length ps) told.pages in
        let more = dead.more in
        omega (arith, pages, more))) where
          prop : IsProp (k + 1 < length row.pages.items)
          prop = hlevel (props, ℕ_set)
