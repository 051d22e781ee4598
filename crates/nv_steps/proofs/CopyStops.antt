-- What a stop leaves of a file that gets longer, whose last page is copied.
use Rattle.std.proofs.Common.{◌≡◌, ℕ, suc, ◌+◌, ◌-◌, ◌/◌, ◌%◌, cond, ◌==◌, inl, inr, Bool, true, false, List, [], ◌∷◌, length, refl, ap, sym, ◌∙◌, subst, arith, Some}
use Rattle.std.proofs.lemmas.Bool.{cases_eq}
use Rattle.std.proofs.lemmas.Bool.Decides.{nat_tests}
use Rattle.nv_region.specs.Region.{Region}
use Rattle.nv_region.specs.Stops.{Choices, IsMixed, LeavesOnly, NothingPending, PendingOnly}
use Rattle.nv_region.specs.Stored.{StoresOnly}
use Rattle.nv_region.proofs.Stops.{mixed_left, mixed_same}
use Rattle.nv_region.proofs.Wordwise.{mixed_more}
use Rattle.nv_super.specs.declared.superblock.Super.{Super}
use Rattle.nv_super.specs.Layout.{slot_of, Layout}
use Rattle.nv_super.proofs.Rising.{Contains-head, Contains-tail}
use Rattle.nv_inode.specs.Chains.{layout_of}
use Rattle.nv_alloc.specs.FreeValue.{FreeLists}
use Rattle.nv_bytes.specs.Bytes.{byte_after}
use Rattle.nv_bytes.specs.Storing.{HoldsPage, InBlocks}
use Rattle.nv_entry.specs.declared.entry.AttrEntry.{AttrEntry}
use Rattle.nv_entry.specs.declared.entry.Entry.{Entry}
use Rattle.nv_logpage.specs.Append.{end_of, needed}
use Rattle.nv_radix.specs.Pages.{Pages, block_at, in_run}
use Rattle.nv_scan.specs.declared.piece.Row.{Row}
use Rattle.nv_mounted.specs.Held.{Held, Store}
use Rattle.nv_mounted.specs.Blocks.{IsUnowned}
use Rattle.nv_mounted.specs.Bytes.{byte_in}
use Rattle.nv_mounted.specs.Grows.{AreFree}
use Rattle.nv_mounted.specs.Loose.{Loose}
use Rattle.nv_mounted.specs.Mounted.{ShowsSound}
use Rattle.nv_mounted.specs.Slots.{SlotsStand}
use Rattle.nv_mounted.proofs.Fronts.{loose_sound, sound_clear}
use Rattle.nv_outcome.proofs.SuperOf.{one_super}
use Rattle.nv_commit.specs.Extends.{CanExtend, LooseOrExtended, ShowsMoved, with_log}
use Rattle.nv_commit.specs.Stopped.{LeavesEither}
use Rattle.nv_commit.proofs.Left.{loose_recovers}
use Rattle.nv_steps.specs.Sizes.{CanResize, CopiesEnd, end_block, resizing}
use Rattle.nv_steps.specs.Steps.{ShowsRow}
use Rattle.nv_steps.specs.Stopped.{Resized}
use Rattle.nv_steps.specs.Stores.{StoresIn, one_log}
use Rattle.nv_steps.specs.Taken.{TakesEach}
use Rattle.nv_steps.proofs.CopiedEnd.{copy_some, not_in_run, run_of_one}
use Rattle.nv_steps.proofs.CopyOwed.{copies_as}
use Rattle.nv_steps.proofs.CutFile.{sized_row, sized_settled}
use Rattle.nv_steps.proofs.LogGrows.{slot_there}
use Rattle.nv_steps.proofs.Stopped.{for_any, grown_row, grown_row_has, loose_pending, moved_can, moved_undo}
use Rattle.nv_steps.proofs.TakenBlocks.{all_differ, are_free}
use Rattle.nv_steps.specs.Slots.{slot_in}

-- a slot is that of one number
same_slot : (l : Layout) → SlotsStand l → (i j a : ℕ) → slot_of l i ≡ Some a → slot_of l j ≡ Some a → i ≡ j
same_slot l stand i j a left right = elim (cases_eq i j) [
  | inl same ↦ same
  | inr differ ↦ absurd (elim (stand.apart i j a a left right differ) [ inl w ↦ omega (arith, w) | inr w ↦ omega (arith, w) ])
]

-- the pages with one that is set
set_at : (page to : ℕ) (m : Pages) (p : ℕ) → block_at ((page, Some to) ∷ m) p ≡ cond (in_run page 1 p) (Some (to + (p - page))) (block_at m p)
set_at page to m p = elim (cases_eq p page) [
  | inl same ↦ (
      let on = run_of_one p page same in
      let here : (page == p) ≡ true = grind (arith, nat_tests, same) in
      let none : to ≡ to + (p - page) = omega (arith, same) in
      ap (λ (b : Bool). cond b (Some to) (block_at m p)) here ∙ ap Some none ∙ sym (ap (λ (b : Bool). cond b (Some (to + (p - page))) (block_at m p)) on))
  | inr differs ↦ (
      let off = not_in_run p page differs in
      let other : (page == p) ≡ false = grind (arith, nat_tests, differs) in
      ap (λ (b : Bool). cond b (Some to) (block_at m p)) other ∙ sym (ap (λ (b : Bool). cond b (Some (to + (p - page))) (block_at m p)) off))
]

module _ {R : Region} {l : Layout} {held : Store} {inode : ℕ} {h : Held} {slot tail : ℕ} {entries : List Entry} {fresh : List ℕ} (from to size : ℕ) (can : CanExtend R l held inode h slot tail entries fresh) (free : IsUnowned l held to) (first : Choices) (settled : NothingPending R first) where
  in_loose : (i x y : ℕ) → InBlocks (λ b. b ≡ to) i y → Loose l held i x
  in_loose i x y w = inl (subst (IsUnowned l held) (sym w) free)

  page_mixed : (left : Region) → IsMixed R (InBlocks (λ b. b ≡ to)) left → IsMixed R (Loose l held) left
  page_mixed left mixed = mixed_more (Loose l held) (InBlocks (λ b. b ≡ to)) R R left (λ i x w. in_loose i x x w) (mixed_same R (Loose l held)) mixed

  -- before the entries are written
  pub page_left : (now : Region) (last : Choices) (Made : Region → Type 0) → StoresOnly (InBlocks (λ b. b ≡ to)) R now first last → LeavesOnly now last (LeavesEither R l held Made)
  page_left now last Made wrote left may =
      let mixed = wrote.mixed in
      inl (loose_recovers R left l held can.sound (page_mixed left (mixed_left R now (InBlocks (λ b. b ≡ to)) first last mixed.as_long mixed.same_rest settled wrote.adds left may)))

  module _ {mid : Region} (mids : Choices) (wrote : StoresOnly (InBlocks (λ b. b ≡ to)) R mid first mids) (page : HoldsPage mid (byte_after 0 [] size (byte_in R (Some from))) to (size / 4096)) where
    mid_mixed : IsMixed R (Loose l held) mid
    mid_mixed = page_mixed mid wrote.mixed

    mid_sound : ShowsSound mid l held
    mid_sound = loose_sound R mid l held can.sound mid_mixed

    mid_can : CanExtend mid l held inode h slot tail entries fresh
    mid_can = record { sound = mid_sound; at = can.at; holds = can.holds; tail_is = can.tail_is; free = can.free; differ = can.differ; enough = can.enough; given = can.given; some = can.some }

    moved_all : {left : Region} → ShowsMoved mid l (with_log held inode h entries fresh) left → (m : Layout) (st : Store) (i : ℕ) (g : Held) → CanExtend mid m st i g slot tail entries fresh → ShowsMoved mid m (with_log st i g entries fresh) left
    moved_all {left} moved m st i g there =
        let sound = there.sound in
        let sups : m.sup ≡ l.sup = one_super mid l.sup m.sup mid_sound.sup sound.sup in
        let same : m ≡ l = sound.laid ∙ ap (λ (s : Super). layout_of s mid) sups ∙ sym mid_sound.laid in
        subst (λ (u : Layout). CanExtend mid u st i g slot tail entries fresh → ShowsMoved mid u (with_log st i g entries fresh) left) (sym same) (λ here.
        (let number : i ≡ inode = same_slot l (let clear = sound_clear mid_sound in clear.stand) i inode slot here.at can.at in
        subst (λ (j : ℕ). CanExtend mid l st j g slot tail entries fresh → ShowsMoved mid l (with_log st j g entries fresh) left) (sym number) (λ own. for_any mid_sound can.holds moved st g own) here)) there

    -- What a stop leaves once the page is stored, where the entries are written or committed.
    pub end_left : (now : Region) (last : Choices) → (CanExtend mid l held inode h slot tail entries fresh → PendingOnly mid mids (Loose l held) → LeavesOnly now last (LooseOrExtended mid l held inode h slot tail entries fresh))
        → LeavesOnly now last (LeavesEither R l held (λ S. CopiesEnd R S from to size slot tail entries fresh))
    end_left now last stops left may = by (stops mid_can (loose_pending R mid (Loose l held) (InBlocks (λ b. b ≡ to)) first mids in_loose settled wrote) left may) where
      by : LooseOrExtended mid l held inode h slot tail entries fresh left → LeavesEither R l held (λ S. CopiesEnd R S from to size slot tail entries fresh) left
      by (inl loose) = inl (loose_recovers R left l held can.sound (mixed_more (Loose l held) (Loose l held) R mid left (λ i x w. w) mid_mixed loose))
      by (inr w) = inr (
        moved_can mid_sound w.0,
        subst (λ (S : Region). CopiesEnd R S from to size slot tail entries fresh) (sym (moved_undo mid_sound w.0)) (record {
          mid = mid;
          page = page;
          wrote = wrote.mixed;
          moved = moved_all w.0;
          extends = w.1;
        }),
      )

module _ {R : Region} {l : Layout} {free mid : FreeLists} {cpu : ℕ} {row : Row} {fresh : List ℕ} (x : AttrEntry) (can : CanResize R l free row x) (from to : ℕ) (ends : end_block (block_at row.index) row.numbers.size x.size ≡ Some from) (taken : TakesEach free cpu (to ∷ fresh) mid)
    (enough : length fresh ≡ needed (row.tail % 4096) (resizing row.numbers.size x (Some to))) {held : Store} {h : Held} (shows : ShowsRow R l held h row free) where
  abbrev entries : List Entry
  entries = resizing row.numbers.size x (Some to)

  all_free : AreFree l held (to ∷ fresh)
  all_free = let stands = can.stands in are_free taken l held shows.lists stands.lists

  copies_there : CanExtend R l held row.inode h (slot_in l row.inode) row.tail entries fresh
  copies_there = record {
    sound = shows.sound;
    at = (let sound = shows.sound in slot_there row.inode h sound.shows shows.holds);
    holds = shows.holds;
    tail_is = (let told = shows.told in sym told.tail);
    free = λ b c. all_free b (Contains-tail to fresh b c);
    differ = λ i j less inside. all_differ taken (suc i) (suc j) (omega (arith, less)) (omega (arith, inside));
    enough = omega (arith, enough);
    given = (refl, (refl, tt));
    some = omega arith;
  }

  copied_by : (left : Region) → LeavesEither R l held (λ S. CopiesEnd R S from to row.numbers.size (slot_in l row.inode) row.tail entries fresh) left → LeavesEither R l held (Resized R l free cpu row x) left
  copied_by left (inl same) = inl same
  copied_by left (inr w) =
      let end = end_of fresh 0 row.tail entries in
      let page = row.numbers.size / 4096 in
      let grown = grown_row row fresh end in
      let new = sized_row grown x ((page, Some to) ∷ row.index) in
      let v = copy_some {grown = grown} {new = new} x can from to end ends taken enough w.1 refl (grown_row_has row fresh end) (sized_settled grown x ((page, Some to) ∷ row.index)) (set_at page to row.index) shows in
      inr (w.0, (v.0, new, v.1, v.2))

  -- the same by other names
  can_there : {slot : ℕ} {es : List Entry} {given : List ℕ} → slot ≡ slot_in l row.inode → es ≡ entries → given ≡ fresh → CanExtend R l held row.inode h slot row.tail es given
  can_there {slot} {es} {given} at same_entries same_pages =
      subst (λ (a : ℕ). CanExtend R l held row.inode h a row.tail es given) (sym at)
      (subst (λ (e : List Entry). CanExtend R l held row.inode h (slot_in l row.inode) row.tail e given) (sym same_entries) (subst (λ (bs : List ℕ). CanExtend R l held row.inode h (slot_in l row.inode) row.tail entries bs) (sym same_pages) copies_there))

  -- What is stored, by what is stored of the page and the log.
  pub copied_stores : {slot : ℕ} {es : List Entry} {given : List ℕ} → slot ≡ slot_in l row.inode → es ≡ entries → given ≡ fresh → (now : Region)
      → (CanExtend R l held row.inode h slot row.tail es given → IsUnowned l held to → StoresIn l held (one_log l row.inode) R now) → StoresIn l held (one_log l row.inode) R now
  copied_stores at same_entries same_pages now stores = stores (can_there at same_entries same_pages) (all_free to (Contains-head to fresh))

  -- What a stop leaves of the size, by what it leaves of the page and the log.
  pub left_copied : {slot : ℕ} {es : List Entry} {given : List ℕ} → slot ≡ slot_in l row.inode → es ≡ entries → given ≡ fresh → (now : Region) (last : Choices)
      → (CanExtend R l held row.inode h slot row.tail es given → IsUnowned l held to → LeavesOnly now last (LeavesEither R l held (λ S. CopiesEnd R S from to row.numbers.size slot row.tail es given)))
      → LeavesOnly now last (LeavesEither R l held (Resized R l free cpu row x))
  left_copied {slot} {es} {given} at same_entries same_pages now last stops left may = copied_by left (as_copied (stops (can_there at same_entries same_pages) (all_free to (Contains-head to fresh)) left may)) where
    as_copied : LeavesEither R l held (λ S. CopiesEnd R S from to row.numbers.size slot row.tail es given) left → LeavesEither R l held (λ S. CopiesEnd R S from to row.numbers.size (slot_in l row.inode) row.tail entries fresh) left
    as_copied (inl same) = inl same
    as_copied (inr w) = inr (w.0, copies_as at same_entries same_pages w.1)
