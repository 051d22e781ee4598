-- Two logs that grew while another inode went, and whose rows were settled: what is owed before the commit, and what was done.
use Rattle.std.proofs.Common.{◌≡◌, ◌≢◌, ℕ, ◌+◌, ◌/◌, ◌%◌, ◌≤◌, List, ◌∷◌, refl, ap, sym, ◌∙◌, subst, arith, inl, inr, Some, None, IsTrue}
use Rattle.nv_region.specs.Region.{Region, size}
use Rattle.nv_region.specs.Stops.{Choices, IsMixed, LeavesOnly, MayBeLeft, NothingPending}
use Rattle.nv_region.specs.Stored.{StoresOnly}
use Rattle.nv_region.proofs.Stops.{mixed_left}
use Rattle.nv_super.specs.Layout.{Layout}
use Rattle.nv_inode.specs.Numbers.{has_slot}
use Rattle.nv_journal.specs.Undo.{journal, undone}
use Rattle.nv_journal.specs.InOrder.{ThreeInOrder}
use Rattle.nv_alloc.specs.FreeValue.{FreeLists}
use Rattle.nv_entry.specs.declared.entry.Entry.{Entry}
use Rattle.nv_logpage.specs.Append.{EndBy, end_of, needed}
use Rattle.nv_scan.specs.declared.piece.Row.{Row}
use Rattle.nv_mounted.specs.Held.{Held, Store, with_inode}
use Rattle.nv_mounted.proofs.Fronts.{sound_clear}
use Rattle.nv_outcome.proofs.SuperOf.{layout_of_super}
use Rattle.nv_commit.specs.declared.together.Extension.{Extension}
use Rattle.nv_commit.specs.Extends.{with_log}
use Rattle.nv_commit.specs.Replaces.{BeforeOrReplaced, CanReplace, ReplaceWords, new_tail, with_replaced}
use Rattle.nv_commit.specs.Together.{ShowsIdle, UndoneShows}
use Rattle.nv_commit.specs.Stopped.{LeavesEither}
use Rattle.nv_commit.proofs.BytesStay.{replaced_bytes}
use Rattle.nv_commit.proofs.Left.{one_held}
use Rattle.nv_commit.proofs.LeftUndone.{undone_can, undone_files, undone_idle, undone_recovers}
use Rattle.nv_steps.specs.Across.{AppendedLogsLess, AppendsLogsLess, Lengthens, with_two_gone}
use Rattle.nv_steps.specs.Grown.{HasGrown}
use Rattle.nv_steps.specs.InOrder.{TailIsFirst, TailIsNext, tail_address}
use Rattle.nv_steps.specs.NewNames.{CanName, ShowsNamed}
use Rattle.nv_steps.specs.Steps.{ShowsRow}
use Rattle.nv_steps.specs.Stores.{StoresIn, two_less}
use Rattle.nv_steps.proofs.Less.{slot_behind, slot_inside, slot_whole}
use Rattle.nv_steps.proofs.OtherJournals.{undone_front}
use Rattle.nv_steps.proofs.Owed.{OwesTwo, first_tail, lengthens, owed_within, second_tail, slot_is, two_extend}
use Rattle.nv_steps.proofs.SlotPlaces.{slot_there_is}
use Rattle.nv_steps.proofs.Stopped.{grown_row, grown_row_has}
use Rattle.nv_steps.proofs.ThreeChanges.{replaced_front, replaced_stores}
use Rattle.nv_steps.specs.Slots.{slot_in}

module _ {R : Region} {l : Layout} {free after : FreeLists} {cpu : ℕ} {first row : Row} {entries : List Entry} {names : ℕ} {second other : Row} {others : List Entry} {more_names : ℕ} {x y : Extension} (o : OwesTwo R l free after cpu first row entries names second other others more_names x y)
    (j slot : ℕ) (number : IsTrue (has_slot l j)) (there : slot ≡ slot_in l j) where
  gone_can : CanName R l cpu j first
  gone_can = let one = o.one in let can = one.can in record { cpu_below = can.cpu_below; journal_empty = can.journal_empty; number = number; in_data = can.in_data }

  pub gone_whole : slot % 8 ≡ 0
  gone_whole =
      let one = o.one in
      let few = one.few in
      let ready = one.ready in
      subst (λ (a : ℕ). a % 8 ≡ 0) (sym there) (slot_whole one.stands gone_can one.taken entries few.given few.some one.count ready.same)

  pub gone_inside : slot + 8 ≤ size R
  gone_inside =
      let one = o.one in
      let few = one.few in
      let ready = one.ready in
      subst (λ (a : ℕ). a + 8 ≤ size R) (sym there) (slot_inside one.stands gone_can one.taken entries few.given few.some one.count ready.same)

  pub gone_behind : journal cpu + 4096 ≤ slot
  gone_behind =
      let one = o.one in
      let few = one.few in
      let ready = one.ready in
      subst (λ (a : ℕ). journal cpu + 4096 ≤ a) (sym there) (slot_behind one.stands gone_can one.taken entries few.given few.some one.count ready.same)

  -- Memory that is open past the region is open past all that is stored.
  pub less_within : (limit : ℕ) → size R ≤ limit → EndBy (x.tail / 4096 ∷ x.fresh.now) limit × EndBy (y.tail / 4096 ∷ y.fresh.now) limit × (x.slot + 32 ≤ limit) × (y.slot + 32 ≤ limit) × (slot + 8 ≤ limit)
  less_within limit past =
      let a = owed_within o.one limit past in
      let b = owed_within o.two limit past in
      (a.0, b.0, a.1, b.1, omega (arith, gone_inside, past))

  module _ (first_not : first.inode ≢ j) (second_not : second.inode ≢ j) where
    can_replace : {held : Store} {h g : Held} → ShowsRow R l held h first free → ShowsRow R l held g second free → CanReplace R l held cpu first.inode h x second.inode g y j slot
    can_replace here also = record {
      two = two_extend o here also;
      at = (slot_there_is l j number ∙ ap (λ (a : ℕ). Some a) (sym there));
      first_differs = first_not;
      second_differs = second_not;
    }

    store_as : (held : Store) (h g : Held) → with_replaced held first.inode h x second.inode g y j ≡ with_two_gone held first.inode h entries o.fresh second.inode g others o.more j
    store_as held h g = let one = o.one in let two = o.two in λ t. with_inode (with_log (with_log held first.inode h (one.said t) (one.blocks t)) second.inode g (two.said t) (two.blocks t)) j None

    less_by : {S : Region} {first_now second_now : Row} → Lengthens first first_now entries o.fresh → Lengthens second second_now others o.more
        → ((held : Store) (h g : Held) → ShowsRow R l held h first free → ShowsRow R l held g second free → ShowsNamed R S l cpu held (with_replaced held first.inode h x second.inode g y j)) → AppendsLogsLess R S l free after cpu first first_now entries second second_now others j
    less_by {S} is other_is shows =
        let one = o.one in
        let two = o.two in
        record {
          fresh = o.fresh;
          more = o.more;
          taken = o.all;
          count = one.count;
          more_count = two.count;
          is = is;
          other_is = other_is;
          shows = λ held h g here also. subst (λ (st : Store). ShowsNamed R S l cpu held st) (store_as held h g) (shows held h g here also);
        }

    -- Both logs have grown, and both rows, in a region that shows it, and the inode is gone.
    pub appends_less : {S : Region} {end last : ℕ} {c d : Row} {bs cs : List ℕ} → HasGrown row bs end c → x.fresh.now ≡ bs → end ≡ end_of x.fresh.now 0 x.tail x.entries.now → HasGrown other cs last d → y.fresh.now ≡ cs → last ≡ end_of y.fresh.now 0 y.tail y.entries.now
        → ((held : Store) (a b : ℕ) (h g : Held) → CanReplace R l held cpu a h x b g y j slot → ShowsIdle S l (with_replaced held a h x b g y j)) → IsMixed R (ReplaceWords cpu x y slot) S → AppendsLogsLess R S l free after cpu first c entries second d others j
    appends_less {S} grown blocks ends other_grown other_blocks other_ends shows mixed = less_by (lengthens o.one grown blocks ends) (lengthens o.two other_grown other_blocks other_ends)
        (λ held h g here also. record {
          idle = shows held first.inode second.inode h g (can_replace here also);
          bytes = replaced_bytes (can_replace here also) S mixed;
          front = replaced_front (can_replace here also) S mixed;
        })

    -- Nothing else is stored.
    pub less_stored : {S : Region} {held : Store} {h g : Held} → ShowsRow R l held h first free → ShowsRow R l held g second free → IsMixed R (ReplaceWords cpu x y slot) S → StoresIn l held (two_less l cpu first.inode second.inode j) R S
    less_stored here also mixed = replaced_stores (can_replace here also) (slot_is o.one) (slot_is o.two) there mixed

    -- The tails are stored in their order, and then the valid word.
    pub less_ordered : {S : Region} {held : Store} {h g : Held} → ShowsRow R l held h first free → ShowsRow R l held g second free → ((a b : ℕ) (e f : Held) → CanReplace R l held cpu a e x b f y j slot → ThreeInOrder R (new_tail x) (new_tail y) (slot, 0) S)
        → TailIsFirst R S l free.pools cpu first.inode first.tail entries (tail_address l second.inode) × TailIsNext R S l free.pools cpu (needed (first.tail % 4096) entries) second.inode second.tail others (slot_in l j)
    less_ordered {S} {held} {h} {g} here also orders =
        let order = orders first.inode second.inode h g (can_replace here also) in
        (first_tail o (ap (λ (a : ℕ). a + 24) (slot_is o.two)) order.0, second_tail o there order.1)

    -- What a stop leaves of all three.
    module _ {held : Store} {h g : Held} (here : ShowsRow R l held h first free) (also : ShowsRow R l held g second free) (now : Region) (old new : Choices) (wrote : StoresOnly (ReplaceWords cpu x y slot) R now old new) (settled : NothingPending R old) where
      mixed : (left : Region) → MayBeLeft now new left → IsMixed R (ReplaceWords cpu x y slot) left
      mixed left may = let stored = wrote.mixed in mixed_left R now (ReplaceWords cpu x y slot) old new stored.as_long stored.same_rest settled wrote.adds left may

      any_shows : (left : Region) → IsMixed R (ReplaceWords cpu x y slot) left → UndoneShows l (with_replaced held first.inode h x second.inode g y j) left
          → (any : Store) (e f : Held) → ShowsRow R l any e first free → ShowsRow R l any f second free → ShowsNamed R (undone l.sup left) l cpu any (with_replaced any first.inode e x second.inode f y j)
      any_shows left stored both any e f seen seen_other =
          let a = here.sound in
          let b = seen.sound in
          let same : held ≡ any = one_held a.shows b.shows in
          let firsts : Some h ≡ Some e = sym here.holds ∙ ap (λ (st : Store). st first.inode) same ∙ seen.holds in
          let seconds : Some g ≡ Some f = sym also.holds ∙ ap (λ (st : Store). st second.inode) same ∙ seen_other.holds in
          let one : h ≡ e = cc in
          let two : g ≡ f = cc in
          record {
            idle = subst (λ (st : Store). ShowsIdle (undone l.sup left) l st) (λ t. with_replaced (same t) first.inode (one t) x second.inode (two t) y j) (undone_idle both);
            bytes = undone_files both R (sound_clear b) (replaced_bytes (can_replace seen seen_other) left stored);
            front = undone_front l.sup cpu R left (layout_of_super R l.sup b.sup) b.idle (replaced_front (can_replace seen seen_other) left stored);
          }

      left_by : (left : Region) → IsMixed R (ReplaceWords cpu x y slot) left → BeforeOrReplaced l held first.inode h x second.inode g y j left → LeavesEither R l held (AppendedLogsLess R l free cpu first entries second others j) left
      left_by left stored (inl before) = inl (undone_recovers before R (sound_clear here.sound) (replaced_bytes (can_replace here also) left stored) (let sound = here.sound in sound.faultless))
      left_by left stored (inr both) =
          let end = end_of x.fresh.now 0 x.tail x.entries.now in
          let last = end_of y.fresh.now 0 y.tail y.entries.now in
          inr (
            undone_can both,
            (
              after,
              grown_row row x.fresh.now end,
              grown_row other y.fresh.now last,
              less_by (lengthens o.one (grown_row_has row x.fresh.now end) refl refl) (lengthens o.two (grown_row_has other y.fresh.now last) refl refl) (any_shows left stored both),
            ),
          )

      pub left_less : ((a b : ℕ) (e f : Held) → CanReplace R l held cpu a e x b f y j slot → NothingPending R old → LeavesOnly now new (BeforeOrReplaced l held a e x b f y j)) → LeavesOnly now new (LeavesEither R l held (AppendedLogsLess R l free cpu first entries second others j))
      left_less stops left may = left_by left (mixed left may) (stops first.inode second.inode h g (can_replace here also) settled left may)
