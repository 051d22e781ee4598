-- Three logs that were grown and whose rows were settled: what is owed before the commit, and what was done.
use Rattle.std.proofs.Common.{◌≡◌, ℕ, ◌+◌, ◌/◌, ◌%◌, ◌≤◌, List, ◌∷◌, refl, ap, sym, ◌∙◌, subst, inl, inr, Some}
use Rattle.nv_region.specs.Region.{Region, size}
use Rattle.nv_region.specs.Stops.{Choices, IsMixed, LeavesOnly, MayBeLeft, NothingPending}
use Rattle.nv_region.specs.Stored.{StoresOnly}
use Rattle.nv_region.proofs.Stops.{mixed_left}
use Rattle.nv_super.specs.Layout.{Layout}
use Rattle.nv_journal.specs.Undo.{undone}
use Rattle.nv_journal.specs.InOrder.{ThreeInOrder}
use Rattle.nv_alloc.specs.FreeValue.{FreeLists}
use Rattle.nv_entry.specs.declared.entry.Entry.{Entry}
use Rattle.nv_logpage.specs.Append.{EndBy, end_of, needed}
use Rattle.nv_scan.specs.declared.piece.Row.{Row}
use Rattle.nv_mounted.specs.Held.{Held, Store}
use Rattle.nv_mounted.proofs.Fronts.{sound_clear}
use Rattle.nv_outcome.proofs.SuperOf.{layout_of_super}
use Rattle.nv_commit.specs.declared.together.Extension.{Extension}
use Rattle.nv_commit.specs.Extends.{with_log}
use Rattle.nv_commit.specs.Replaces.{new_tail}
use Rattle.nv_commit.specs.ThreeLogs.{BeforeOrThree, CanExtendThree, ThreeTogether, with_three}
use Rattle.nv_commit.specs.Together.{ShowsIdle, UndoneShows}
use Rattle.nv_commit.specs.Stopped.{LeavesEither}
use Rattle.nv_commit.proofs.BytesStay.{three_bytes}
use Rattle.nv_commit.proofs.Left.{one_held}
use Rattle.nv_commit.proofs.LeftUndone.{undone_can, undone_files, undone_idle, undone_recovers}
use Rattle.nv_steps.specs.Across.{AppendedThreeLogs, AppendsThreeLogs, Lengthens, with_three_logs}
use Rattle.nv_steps.specs.Grown.{HasGrown}
use Rattle.nv_steps.specs.InOrder.{TailIsFirst, TailIsNext, tail_address}
use Rattle.nv_steps.specs.NewNames.{ShowsNamed}
use Rattle.nv_steps.specs.Steps.{ShowsRow}
use Rattle.nv_steps.specs.Stores.{StoresIn, three_logs}
use Rattle.nv_steps.proofs.OtherJournals.{undone_front}
use Rattle.nv_steps.proofs.Owed.{OwesThree, first_tail, lengthens, owed_within, second_tail, slot_is, three_extend}
use Rattle.nv_steps.proofs.Stopped.{grown_row, grown_row_has}
use Rattle.nv_steps.proofs.ThreeChanges.{three_front, three_stores}

module _ {R : Region} {l : Layout} {free after : FreeLists} {cpu : ℕ} {first row : Row} {entries : List Entry} {names : ℕ} {second other : Row} {others : List Entry} {more_names : ℕ} {third last : Row} {lasts : List Entry} {last_names : ℕ} {x y z : Extension}
    (o : OwesThree R l free after cpu first row entries names second other others more_names third last lasts last_names x y z) where
  -- Memory that is open past the region is open past all that is stored.
  pub three_within : (limit : ℕ) → size R ≤ limit
      → EndBy (x.tail / 4096 ∷ x.fresh.now) limit × EndBy (y.tail / 4096 ∷ y.fresh.now) limit × EndBy (z.tail / 4096 ∷ z.fresh.now) limit × (x.slot + 32 ≤ limit) × (y.slot + 32 ≤ limit) × (z.slot + 32 ≤ limit)
  three_within limit past =
      let both = o.both in
      let a = owed_within both.one limit past in
      let b = owed_within both.two limit past in
      let c = owed_within o.three limit past in
      (a.0, b.0, c.0, a.1, b.1, c.1)

  store_as : (held : Store) (h g f : Held) → with_three held first.inode h x second.inode g y third.inode f z ≡ with_three_logs held first.inode h entries o.both.fresh second.inode g others o.both.more third.inode f lasts o.rest
  store_as held h g f =
      let both = o.both in
      let one = both.one in
      let two = both.two in
      let three = o.three in
      λ t. with_log (with_log (with_log held first.inode h (one.said t) (one.blocks t)) second.inode g (two.said t) (two.blocks t)) third.inode f (three.said t) (three.blocks t)

  three_by : {S : Region} {a b c : Row} → Lengthens first a entries o.both.fresh → Lengthens second b others o.both.more → Lengthens third c lasts o.rest
      → ((held : Store) (h g f : Held) → ShowsRow R l held h first free → ShowsRow R l held g second free → ShowsRow R l held f third free → ShowsNamed R S l cpu held (with_three held first.inode h x second.inode g y third.inode f z)) → AppendsThreeLogs R S l free after cpu first a entries second b others third c lasts
  three_by {S} is other_is third_is shows =
      let both = o.both in
      let one = both.one in
      let two = both.two in
      let three = o.three in
      record {
        fresh = both.fresh;
        more = both.more;
        rest = o.rest;
        taken = o.all;
        count = one.count;
        more_count = two.count;
        rest_count = three.count;
        is = is;
        other_is = other_is;
        third_is = third_is;
        shows = λ held h g f here there also. subst (λ (st : Store). ShowsNamed R S l cpu held st) (store_as held h g f) (shows held h g f here there also);
      }

  -- All logs have grown, and all rows, in a region that shows it.
  pub appends_three : {S : Region} {end next limit : ℕ} {a b c : Row} {bs cs ds : List ℕ} → HasGrown row bs end a → x.fresh.now ≡ bs → end ≡ end_of x.fresh.now 0 x.tail x.entries.now → HasGrown other cs next b → y.fresh.now ≡ cs → next ≡ end_of y.fresh.now 0 y.tail y.entries.now
      → HasGrown last ds limit c → z.fresh.now ≡ ds → limit ≡ end_of z.fresh.now 0 z.tail z.entries.now → ((held : Store) (i j k : ℕ) (h g f : Held) → CanExtendThree R l held cpu i h x j g y k f z → ShowsIdle S l (with_three held i h x j g y k f z)) → IsMixed R (ThreeTogether cpu x y z) S
      → AppendsThreeLogs R S l free after cpu first a entries second b others third c lasts
  appends_three {S} grown blocks ends other_grown other_blocks other_ends last_grown last_blocks last_ends shows mixed =
      let both = o.both in
      three_by (lengthens both.one grown blocks ends) (lengthens both.two other_grown other_blocks other_ends) (lengthens o.three last_grown last_blocks last_ends)
      (λ held h g f here there also. record {
        idle = shows held first.inode second.inode third.inode h g f (three_extend o here there also);
        bytes = three_bytes (three_extend o here there also) S mixed;
        front = three_front (three_extend o here there also) S mixed;
      })

  -- Nothing else is stored.
  pub three_stored : {S : Region} {held : Store} {h g f : Held} → ShowsRow R l held h first free → ShowsRow R l held g second free → ShowsRow R l held f third free → IsMixed R (ThreeTogether cpu x y z) S → StoresIn l held (three_logs l cpu first.inode second.inode third.inode) R S
  three_stored here there also mixed = let both = o.both in three_stores (three_extend o here there also) (slot_is both.one) (slot_is both.two) (slot_is o.three) mixed

  -- The tails are stored in their order.
  pub three_ordered : {S : Region} {held : Store} {h g f : Held} → ShowsRow R l held h first free → ShowsRow R l held g second free → ShowsRow R l held f third free → ((i j k : ℕ) (a b c : Held) → CanExtendThree R l held cpu i a x j b y k c z → ThreeInOrder R (new_tail x) (new_tail y) (new_tail z) S)
      → TailIsFirst R S l free.pools cpu first.inode first.tail entries (tail_address l second.inode) × TailIsNext R S l free.pools cpu (needed (first.tail % 4096) entries) second.inode second.tail others (tail_address l third.inode)
  three_ordered {S} {held} {h} {g} {f} here there also orders =
      let both = o.both in
      let order = orders first.inode second.inode third.inode h g f (three_extend o here there also) in
      (first_tail both (ap (λ (a : ℕ). a + 24) (slot_is both.two)) order.0, second_tail both (ap (λ (a : ℕ). a + 24) (slot_is o.three)) order.1)

  -- What a stop leaves of all three.
  module _ {held : Store} {h g f : Held} (here : ShowsRow R l held h first free) (there : ShowsRow R l held g second free) (also : ShowsRow R l held f third free) (now : Region) (old new : Choices) (wrote : StoresOnly (ThreeTogether cpu x y z) R now old new) (settled : NothingPending R old) where
    mixed : (left : Region) → MayBeLeft now new left → IsMixed R (ThreeTogether cpu x y z) left
    mixed left may = let stored = wrote.mixed in mixed_left R now (ThreeTogether cpu x y z) old new stored.as_long stored.same_rest settled wrote.adds left may

    any_shows : (left : Region) → IsMixed R (ThreeTogether cpu x y z) left → UndoneShows l (with_three held first.inode h x second.inode g y third.inode f z) left
        → (any : Store) (a b c : Held) → ShowsRow R l any a first free → ShowsRow R l any b second free → ShowsRow R l any c third free → ShowsNamed R (undone l.sup left) l cpu any (with_three any first.inode a x second.inode b y third.inode c z)
    any_shows left stored all any a b c seen seen_other seen_third =
        let p = here.sound in
        let q = seen.sound in
        let same : held ≡ any = one_held p.shows q.shows in
        let firsts : Some h ≡ Some a = sym here.holds ∙ ap (λ (st : Store). st first.inode) same ∙ seen.holds in
        let seconds : Some g ≡ Some b = sym there.holds ∙ ap (λ (st : Store). st second.inode) same ∙ seen_other.holds in
        let thirds : Some f ≡ Some c = sym also.holds ∙ ap (λ (st : Store). st third.inode) same ∙ seen_third.holds in
        let one : h ≡ a = cc in
        let two : g ≡ b = cc in
        let three : f ≡ c = cc in
        record {
          idle = subst (λ (st : Store). ShowsIdle (undone l.sup left) l st) (λ t. with_three (same t) first.inode (one t) x second.inode (two t) y third.inode (three t) z) (undone_idle all);
          bytes = undone_files all R (sound_clear q) (three_bytes (three_extend o seen seen_other seen_third) left stored);
          front = undone_front l.sup cpu R left (layout_of_super R l.sup q.sup) q.idle (three_front (three_extend o seen seen_other seen_third) left stored);
        }

    left_by : (left : Region) → IsMixed R (ThreeTogether cpu x y z) left → BeforeOrThree l held first.inode h x second.inode g y third.inode f z left → LeavesEither R l held (AppendedThreeLogs R l free cpu first entries second others third lasts) left
    left_by left stored (inl before) = inl (undone_recovers before R (sound_clear here.sound) (three_bytes (three_extend o here there also) left stored) (let sound = here.sound in sound.faultless))
    left_by left stored (inr all) =
        let both = o.both in
        let end = end_of x.fresh.now 0 x.tail x.entries.now in
        let next = end_of y.fresh.now 0 y.tail y.entries.now in
        let limit = end_of z.fresh.now 0 z.tail z.entries.now in
        inr (
          undone_can all,
          (
            after,
            grown_row row x.fresh.now end,
            grown_row other y.fresh.now next,
            grown_row last z.fresh.now limit,
            three_by (lengthens both.one (grown_row_has row x.fresh.now end) refl refl) (lengthens both.two (grown_row_has other y.fresh.now next) refl refl) (lengthens o.three (grown_row_has last z.fresh.now limit) refl refl) (any_shows left stored all),
          ),
        )

    pub left_three : ((i j k : ℕ) (a b c : Held) → CanExtendThree R l held cpu i a x j b y k c z → NothingPending R old → LeavesOnly now new (BeforeOrThree l held i a x j b y k c z)) → LeavesOnly now new (LeavesEither R l held (AppendedThreeLogs R l free cpu first entries second others third lasts))
    left_three stops left may = left_by left (mixed left may) (stops first.inode second.inode third.inode h g f (three_extend o here there also) settled left may)
