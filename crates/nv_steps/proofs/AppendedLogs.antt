-- Two logs that were grown and whose rows were settled: what is owed before the commit, and what was done.
use Rattle.std.proofs.Common.{◌≡◌, refl, ◌≢◌, ℕ, suc, ◌+◌, ◌/◌, ◌%◌, ◌<◌, ◌≤◌, nat_le, List, [], ◌∷◌, ◌++◌, length, take, drop, ap, sym, ◌∙◌, subst, arith, Bool, true, false, cond, inl, inr, Some}
use Rattle.std.proofs.lemmas.List.{length-drop, length-take-le, take-append-drop}
use Rattle.smallvec.specs.SmallVec.{HasRoomFor}
use Rattle.nv_region.specs.Region.{Region, size, word}
use Rattle.nv_region.specs.Stops.{Choices, IsMixed, LeavesOnly, MayBeLeft, NothingPending}
use Rattle.nv_region.specs.Stored.{StoresOnly}
use Rattle.nv_region.proofs.Stops.{mixed_left}
use Rattle.nv_super.specs.Layout.{Layout}
use Rattle.nv_journal.specs.Undo.{undone}
use Rattle.nv_journal.specs.InOrder.{FirstIsFirst}
use Rattle.nv_alloc.specs.FreeValue.{FreeLists}
use Rattle.nv_entry.specs.declared.entry.Entry.{Entry}
use Rattle.nv_entry.specs.Spelling.{entry_length}
use Rattle.nv_logpage.specs.Reads.{is_next_page}
use Rattle.nv_logpage.specs.Append.{AreGiven, EndBy, end_of, needed}
use Rattle.nv_names.specs.Names.{EachOnce, Names, name_at}
use Rattle.nv_outcome.specs.Same.{SameRow}
use Rattle.nv_radix.specs.Pages.{Pages, block_at}
use Rattle.nv_scan.specs.declared.piece.Row.{Row}
use Rattle.nv_mounted.specs.Held.{Held, Store}
use Rattle.nv_mounted.proofs.Fronts.{sound_clear}
use Rattle.nv_outcome.proofs.SuperOf.{layout_of_super}
use Rattle.nv_commit.specs.declared.together.Extension.{Extension}
use Rattle.nv_commit.specs.Extends.{with_log}
use Rattle.nv_commit.specs.Together.{BeforeOrBoth, CanCommit, CanExtendTwo, ShowsIdle, TogetherWords, UndoneShows, with_logs}
use Rattle.nv_commit.specs.Stopped.{LeavesEither}
use Rattle.nv_commit.proofs.BytesStay.{together_bytes}
use Rattle.nv_commit.proofs.Left.{one_held}
use Rattle.nv_commit.proofs.LeftUndone.{undone_can, undone_files, undone_idle, undone_recovers}
use Rattle.nv_steps.specs.Grown.{HasGrown, StandsRight}
use Rattle.nv_steps.specs.MoreNames.{AppendsLogs, AreFew, GrowsSame, NamesOnce, ReadiesRow}
use Rattle.nv_steps.specs.NewNames.{CanName, ShowsNamed}
use Rattle.nv_steps.specs.Steps.{ShowsRow}
use Rattle.nv_steps.specs.Stopped.{AppendedBoth}
use Rattle.nv_steps.specs.Taken.{TakesEach}
use Rattle.nv_steps.specs.InOrder.{TailIsFirst}
use Rattle.nv_steps.proofs.OneByOne.{by_rule}
use Rattle.nv_steps.proofs.Stopped.{grown_row, grown_row_has}
use Rattle.nv_steps.proofs.TwoLogs.{as_extension, can_extend_two, cut_each, row_commits, stands_after}
use Rattle.nv_steps.proofs.OtherJournals.{together_front, undone_front}
use Rattle.nv_steps.specs.Stores.{StoresIn, two_logs}
use Rattle.nv_steps.proofs.Stores.{two_stores}
use Rattle.nv_steps.specs.Slots.{slot_in}

-- one entry takes a page at most
pub needed_one : (offset : ℕ) (es : List Entry) → length es ≡ 1 → needed offset es ≤ 1
needed_one offset [] one = omega arith
needed_one offset (e ∷ []) one = by _ where
  by : (b : Bool) → cond b 0 1 ≤ 1
  by true = omega arith
  by false = omega arith
needed_one offset (e ∷ f ∷ es) one = absurd (omega (arith, one))

-- Entries take a page each at most.
pub needed_few : (offset : ℕ) (es : List Entry) → needed offset es ≤ length es
needed_few offset [] = omega arith
needed_few offset (e ∷ es) = by (nat_le (offset + entry_length e) 4064) (needed_few (offset + entry_length e) es) (needed_few (entry_length e) es) where
  by : (b : Bool) → needed (offset + entry_length e) es ≤ length es → needed (entry_length e) es ≤ length es → cond b (needed (offset + entry_length e) es) (suc (needed (entry_length e) es)) ≤ suc (length es)
  by true one two = omega (arith, one)
  by false one two = omega (arith, two)

pub few_one : (e : Entry) → is_next_page e ≡ false → AreFew (e ∷ [])
few_one e given = record { given = (given, tt); some = omega arith; few = omega arith }

-- a row that was made ready and then settled
pub grows_same : {old mid new : Row} {blocks fresh : List ℕ} {last end : ℕ} → SameRow old mid → HasGrown mid blocks last new → blocks ≡ fresh → last ≡ end → GrowsSame old fresh end new
grows_same {old} {mid} {new} {blocks} {fresh} {last} {end} same grown is ends = record {
  inode = grown.inode ∙ same.inode;
  kind = grown.kind ∙ same.kind;
  numbers = grown.numbers ∙ same.numbers;
  head = grown.head ∙ same.head;
  tail = grown.tail ∙ ends;
  pages = grown.pages ∙ (λ t. same.pages t ++ is t);
  index = λ p. ap (λ (m : Pages). block_at m p) grown.index ∙ same.index p;
  names = λ q. ap (λ (m : Names). name_at m q) grown.names ∙ same.names q;
}

pub once_still : (old : Row) {mid new : Row} {blocks : List ℕ} {last : ℕ} → NamesOnce old mid → HasGrown mid blocks last new → NamesOnce old new
once_still old once grown = (once.0, subst EachOnce (sym grown.names) once.1)

module _ {R : Region} {l : Layout} {free after : FreeLists} {first second row other : Row} {cpu : ℕ} {items : List ℕ} {entries others : List Entry} {names more_names : ℕ} (ready : ReadiesRow first row entries names) (other_ready : ReadiesRow second other others more_names)
    (stands : StandsRight R l free first × CanName R l cpu first.inode first) (other_stands : StandsRight R l free second × CanName R l cpu second.inode second) (taken : TakesEach free cpu items after) (counted : length items ≡ needed (first.tail % 4096) entries + needed (second.tail % 4096) others)
    (apart : first.inode ≢ second.inode) (given : AreGiven entries) (more_given : AreGiven others) (some : 0 < length entries) (more_some : 0 < length others) where
  abbrev n : ℕ
  n = needed (first.tail % 4096) entries

  abbrev fresh : List ℕ
  fresh = take n items

  abbrev more : List ℕ
  more = drop n items

  all : TakesEach free cpu (fresh ++ more) after
  all = subst (λ (xs : List ℕ). TakesEach free cpu xs after) (sym (take-append-drop n items)) taken

  count : length fresh ≡ n
  count = length-take-le n items (omega (arith, counted))

  more_count : length more ≡ needed (second.tail % 4096) others
  more_count = length-drop n items ∙ omega (arith, counted)

  first_taken : TakesEach free cpu fresh (cut_each fresh more all).0
  first_taken = (cut_each fresh more all).1

  more_taken : TakesEach (cut_each fresh more all).0 cpu more after
  more_taken = (cut_each fresh more all).2

  two : StandsRight R l (cut_each fresh more all).0 second
  two = stands_after other_stands.0 first_taken

  -- The blocks, split where those of the first log end.
  module _ {m : ℕ} {given_blocks front back : List ℕ} (m_is : m ≡ needed (row.tail % 4096) entries) (value : given_blocks ≡ items) (front_is : front ≡ take m given_blocks) (back_is : back ≡ drop m given_blocks) where
    so_many : m ≡ n
    so_many = let same = ready.same in m_is ∙ ap (λ (t : ℕ). needed (t % 4096) entries) same.tail

    front_fresh : front ≡ fresh
    front_fresh = front_is ∙ (λ t. take (so_many t) (value t))

    back_more : back ≡ more
    back_more = back_is ∙ (λ t. drop (so_many t) (value t))

    -- There is room for the pages.
    pub first_room : HasRoomFor row.pages (length front)
    first_room = let room = ready.room in subst (λ (bs : List ℕ). HasRoomFor row.pages (length bs)) (sym front_fresh) (omega (arith, room, count))

    pub second_room : HasRoomFor other.pages (length back)
    second_room = let room = other_ready.room in subst (λ (bs : List ℕ). HasRoomFor other.pages (length bs)) (sym back_more) (omega (arith, room, more_count))

    module _ (x y : Extension) (slot : x.slot ≡ slot_in l row.inode) (tail : x.tail ≡ row.tail) (es : x.entries.now ≡ entries) (x_blocks : x.fresh.now ≡ front)
        (other_slot : y.slot ≡ slot_in l other.inode) (other_tail : y.tail ≡ other.tail) (other_es : y.entries.now ≡ others) (y_blocks : y.fresh.now ≡ back) where
      blocks : x.fresh.now ≡ fresh
      blocks = x_blocks ∙ front_fresh

      other_blocks : y.fresh.now ≡ more
      other_blocks = y_blocks ∙ back_more

      slot_is : x.slot ≡ slot_in l first.inode
      slot_is = let same = ready.same in slot ∙ ap (slot_in l) same.inode

      tail_is : x.tail ≡ first.tail
      tail_is = let same = ready.same in tail ∙ same.tail

      other_slot_is : y.slot ≡ slot_in l second.inode
      other_slot_is = let same = other_ready.same in other_slot ∙ ap (slot_in l) same.inode

      other_tail_is : y.tail ≡ second.tail
      other_tail_is = let same = other_ready.same in other_tail ∙ same.tail

      pub first_commits : CanCommit R cpu x
      first_commits = row_commits entries stands.0 stands.1 first_taken count given x slot_is tail_is es blocks

      pub second_commits : CanCommit R cpu y
      second_commits = row_commits others two other_stands.1 more_taken more_count more_given y other_slot_is other_tail_is other_es other_blocks

      pub extends_two : (held : Store) (f h : Held) → ShowsRow R l held f first free → ShowsRow R l held h second free → CanExtendTwo R l held cpu first.inode f x second.inode h y
      extends_two held f h shows shows_other = can_extend_two entries others fresh more (let right = stands.0 in right.lists) all count more_count given more_given some more_some shows shows_other (let can = stands.1 in can.cpu_below) apart blocks other_blocks
          (λ w. as_extension entries stands.0 stands.1 first_taken count given x slot_is tail_is es blocks w) (λ w. as_extension others two other_stands.1 more_taken more_count more_given y other_slot_is other_tail_is other_es other_blocks w)

      -- Memory that is open past the region is open past all that is stored.
      pub both_within : (limit : ℕ) → size R ≤ limit → EndBy (x.tail / 4096 ∷ x.fresh.now) limit × EndBy (y.tail / 4096 ∷ y.fresh.now) limit × (x.slot + 32 ≤ limit) × (y.slot + 32 ≤ limit)
      both_within limit past =
          let a = first_commits in
          let b = second_commits in
          let append = a.append in
          let other_append = b.append in (
            (λ k below. (let inside = append.inside k below in omega (arith, inside, past))),
            (λ k below. (let inside = other_append.inside k below in omega (arith, inside, past))),
            (let inside = a.inside in omega (arith, inside, past)),
            (let inside = b.inside in omega (arith, inside, past)),
          )

      -- Both logs have grown, and both rows, in a region that shows it.
      appends_by : {S : Region} {end last : ℕ} {c d : Row} {bs cs : List ℕ} → bs ≡ fresh → cs ≡ more → end ≡ end_of x.fresh.now 0 x.tail x.entries.now → last ≡ end_of y.fresh.now 0 y.tail y.entries.now → HasGrown row bs end c → HasGrown other cs last d
          → ((held : Store) (h g : Held) → ShowsRow R l held h first free → ShowsRow R l held g second free → ShowsNamed R S l cpu held (with_log (with_log held first.inode h entries fresh) second.inode g others more)) → AppendsLogs R S l free after cpu (first ∷ second ∷ []) (c ∷ d ∷ []) 0 entries 1 others
      appends_by {S} {end} {last} {c} {d} {bs} {cs} settled other_settled ends other_ends grown other_grown shows = record {
        first = first;
        second = second;
        step = record {
          first_now = c;
          second_now = d;
          at = refl;
          other_at = refl;
          fresh = fresh;
          more = more;
          taken = all;
          count = count;
          more_count = more_count;
          is = grows_same ready.same grown settled (ends ∙ (λ t. end_of (blocks t) 0 (tail_is t) (es t)));
          other_is = grows_same other_ready.same other_grown other_settled (other_ends ∙ (λ t. end_of (other_blocks t) 0 (other_tail_is t) (other_es t)));
          once = once_still first ready.once grown;
          other_once = once_still second other_ready.once other_grown;
          put = refl;
          shows = shows;
        };
      }

      pub appends_logs : {S : Region} {end last : ℕ} {c d : Row} → end ≡ end_of x.fresh.now 0 x.tail x.entries.now → last ≡ end_of y.fresh.now 0 y.tail y.entries.now → HasGrown row front end c → HasGrown other back last d
          → ((held : Store) (a b : ℕ) (h g : Held) → CanExtendTwo R l held cpu a h x b g y → ShowsIdle S l (with_logs held a h x b g y)) → IsMixed R (TogetherWords cpu x y) S → AppendsLogs R S l free after cpu (first ∷ second ∷ []) (c ∷ d ∷ []) 0 entries 1 others
      appends_logs {S} ends other_ends grown other_grown shows mixed = appends_by front_fresh back_more ends other_ends grown other_grown
          (λ held h g seen seen_other. record {
            idle = subst (λ (st : Store). ShowsIdle S l st) (λ t. with_log (with_log held first.inode h (es t) (blocks t)) second.inode g (other_es t) (other_blocks t)) (shows held first.inode second.inode h g (extends_two held h g seen seen_other));
            bytes = together_bytes (extends_two held h g seen seen_other) S mixed;
            front = together_front (extends_two held h g seen seen_other) S mixed;
          })

      -- Nothing else is stored.
      pub logs_store : {S : Region} {held : Store} {h k : Held} → ShowsRow R l held h first free → ShowsRow R l held k second free → IsMixed R (TogetherWords cpu x y) S → StoresIn l held (two_logs l cpu first.inode second.inode) R S
      logs_store {S} {held} {h} {k} here there mixed = two_stores (extends_two held h k here there) slot_is other_slot_is mixed

      -- The second tail is stored after the first.
      pub logs_in_order : {S : Region} {held : Store} {h k : Held} → ShowsRow R l held h first free → ShowsRow R l held k second free
          → ((a b : ℕ) (f g : Held) → CanExtendTwo R l held cpu a f x b g y → FirstIsFirst R (x.slot + 24) (end_of x.fresh.now 0 x.tail x.entries.now) (y.slot + 24) S) → TailIsFirst R S l free.pools cpu first.inode first.tail entries (slot_in l second.inode + 24)
      logs_in_order {S} {held} {h} {k} here there orders = elim (orders first.inode second.inode h k (extends_two held h k here there)) [
        | inl still ↦ inl (subst (λ (a : ℕ). word S (a + 24) ≡ word R (a + 24)) other_slot_is still)
        | inr stored ↦ inr (record {
          fresh = fresh;
          rest = (cut_each fresh more all).0.pools;
          taken = by_rule first_taken;
          count = count;
          moved = subst (λ (a : ℕ). word S (a + 24) ≡ end_of fresh 0 first.tail entries) slot_is (stored ∙ (λ t. end_of (blocks t) 0 (tail_is t) (es t)));
        })
      ]

      -- What a stop leaves of both.
      module _ {held : Store} {h k : Held} (here : ShowsRow R l held h first free) (there : ShowsRow R l held k second free) (now : Region) (old new : Choices) (wrote : StoresOnly (TogetherWords cpu x y) R now old new) (settled : NothingPending R old) where
        mixed : (left : Region) → MayBeLeft now new left → IsMixed R (TogetherWords cpu x y) left
        mixed left may = let stored = wrote.mixed in mixed_left R now (TogetherWords cpu x y) old new stored.as_long stored.same_rest settled wrote.adds left may

        shows_both : (left : Region) → IsMixed R (TogetherWords cpu x y) left → UndoneShows l (with_logs held first.inode h x second.inode k y) left
            → (any : Store) (f g : Held) → ShowsRow R l any f first free → ShowsRow R l any g second free → ShowsNamed R (undone l.sup left) l cpu any (with_log (with_log any first.inode f entries fresh) second.inode g others more)
        shows_both left stored both any f g seen seen_other =
            let a = here.sound in
            let b = seen.sound in
            let same : held ≡ any = one_held a.shows b.shows in
            let firsts : Some h ≡ Some f = sym here.holds ∙ ap (λ (st : Store). st first.inode) same ∙ seen.holds in
            let seconds : Some k ≡ Some g = sym there.holds ∙ ap (λ (st : Store). st second.inode) same ∙ seen_other.holds in
            let one : h ≡ f = cc in
            let two : k ≡ g = cc in
            record {
              idle = subst (λ (st : Store). ShowsIdle (undone l.sup left) l st) (λ t. with_log (with_log (same t) first.inode (one t) (es t) (blocks t)) second.inode (two t) (other_es t) (other_blocks t)) (undone_idle both);
              bytes = undone_files both R (sound_clear b) (together_bytes (extends_two any f g seen seen_other) left stored);
              front = undone_front l.sup cpu R left (layout_of_super R l.sup b.sup) b.idle (together_front (extends_two any f g seen seen_other) left stored);
            }

        left_by : (left : Region) → IsMixed R (TogetherWords cpu x y) left → BeforeOrBoth l held first.inode h x second.inode k y left → LeavesEither R l held (AppendedBoth R l free cpu first entries second others) left
        left_by left stored (inl before) = inl (undone_recovers before R (sound_clear here.sound) (together_bytes (extends_two held h k here there) left stored) (let sound = here.sound in sound.faultless))
        left_by left stored (inr both) =
            let end = end_of x.fresh.now 0 x.tail x.entries.now in
            let last = end_of y.fresh.now 0 y.tail y.entries.now in
            inr (undone_can both, (after, grown_row row fresh end, grown_row other more last, appends_by refl refl refl refl (grown_row_has row fresh end) (grown_row_has other more last) (shows_both left stored both)))

        pub left_logs : ((a b : ℕ) (f g : Held) → CanExtendTwo R l held cpu a f x b g y → NothingPending R old → LeavesOnly now new (BeforeOrBoth l held a f x b g y)) → LeavesOnly now new (LeavesEither R l held (AppendedBoth R l free cpu first entries second others))
        left_logs stops left may = left_by left (mixed left may) (stops first.inode second.inode h k (extends_two held h k here there) settled left may)
