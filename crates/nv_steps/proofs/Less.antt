-- Entries behind a log and an inode that is gone, once they are committed and the log's row is settled.
use Rattle.std.proofs.Common.{◌≡◌, ◌≢◌, ℕ, ◌+◌, ◌*◌, ◌/◌, ◌%◌, ◌<◌, ◌≤◌, inl, inr, List, ◌∷◌, ◌++◌, length, refl, ap, sym, ◌∙◌, subst, arith, Some, None}
use Rattle.nv_region.specs.Region.{Region, size, word}
use Rattle.nv_region.specs.Stops.{Choices, IsMixed, LeavesOnly, MayBeLeft, NothingPending}
use Rattle.nv_region.specs.Stored.{StoresOnly}
use Rattle.nv_region.proofs.Stops.{mixed_left}
use Rattle.nv_super.specs.Layout.{slot_of, Layout}
use Rattle.nv_journal.specs.Undo.{journal, undone}
use Rattle.nv_alloc.specs.FreeValue.{FreeLists}
use Rattle.nv_entry.specs.declared.entry.Entry.{Entry}
use Rattle.nv_logpage.specs.Append.{AreGiven, EndBy, end_of, needed}
use Rattle.nv_names.specs.Names.{EachOnce, Names, name_at}
use Rattle.nv_radix.specs.Pages.{Pages, block_at}
use Rattle.nv_scan.specs.declared.piece.Row.{Row}
use Rattle.nv_outcome.specs.Same.{SameRow}
use Rattle.nv_mounted.specs.Held.{Held, Store, with_inode}
use Rattle.nv_mounted.specs.Bytes.{byte_of}
use Rattle.nv_mounted.proofs.Fronts.{sound_clear}
use Rattle.nv_outcome.proofs.SuperOf.{layout_of_super}
use Rattle.nv_commit.specs.declared.together.Extension.{Extension}
use Rattle.nv_commit.specs.Extends.{with_log}
use Rattle.nv_commit.specs.Together.{CanCommit, ShowsIdle, UndoneShows}
use Rattle.nv_commit.specs.Stopped.{LeavesEither}
use Rattle.nv_commit.specs.Removes.{BeforeOrRemoved, CanRemove, RemoveWords, with_removed}
use Rattle.nv_commit.proofs.BytesStay.{removed_bytes}
use Rattle.nv_commit.proofs.Left.{one_held}
use Rattle.nv_commit.proofs.LeftUndone.{undone_can, undone_files, undone_idle, undone_recovers}
use Rattle.nv_steps.specs.Grown.{HasGrown, StandsRight}
use Rattle.nv_steps.specs.MoreNames.{GrowsSame, NamesOnce}
use Rattle.nv_steps.specs.Takes.{AppendedLess, AppendsLess}
use Rattle.nv_steps.specs.NameEntries.{with_gone}
use Rattle.nv_steps.specs.NewNames.{CanName}
use Rattle.nv_steps.specs.Steps.{ShowsRow}
use Rattle.nv_steps.specs.Taken.{TakesEach}
use Rattle.nv_journal.specs.InOrder.{FirstIsFirst}
use Rattle.nv_steps.specs.InOrder.{TailIsFirst}
use Rattle.nv_steps.proofs.OneByOne.{by_rule}
use Rattle.nv_steps.proofs.LogGrows.{can_extend, stores_within_region}
use Rattle.nv_steps.proofs.SlotPlaces.{behind_there, inside_there, slot_there_is, whole_there}
use Rattle.nv_steps.proofs.TwoLogs.{as_extension, row_commits}
use Rattle.nv_steps.specs.Fronts.{SameFrontBut}
use Rattle.nv_steps.proofs.OtherJournals.{removed_front, undone_front}
use Rattle.nv_steps.specs.Stores.{StoresIn, one_less}
use Rattle.nv_steps.proofs.Stores.{less_stores}
use Rattle.nv_steps.specs.Slots.{slot_in}

-- a row that was made ready and then settled
grown_after : {old mid new : Row} {fresh others : List ℕ} {end last : ℕ} → SameRow old mid → HasGrown mid fresh end new → fresh ≡ others → end ≡ last → GrowsSame old others last new
grown_after {old} {mid} {new} {fresh} {others} {end} {last} same grown blocks ends = record {
  inode = grown.inode ∙ same.inode;
  kind = grown.kind ∙ same.kind;
  numbers = grown.numbers ∙ same.numbers;
  head = grown.head ∙ same.head;
  tail = grown.tail ∙ ends;
  pages = grown.pages ∙ (λ t. same.pages t ++ blocks t);
  index = λ p. ap (λ (m : Pages). block_at m p) grown.index ∙ same.index p;
  names = λ q. ap (λ (m : Names). name_at m q) grown.names ∙ same.names q;
}

-- the row that it would be, by the names of before
abbrev longer_row : Row → Row → List ℕ → ℕ → Row
longer_row old mid fresh end = record mid { tail = end; pages = record mid.pages { items = mid.pages.items ++ fresh }; names = old.names }

longer_has : (old mid : Row) (fresh : List ℕ) (end : ℕ) → SameRow old mid → GrowsSame old fresh end (longer_row old mid fresh end)
longer_has old mid fresh end same = record {
  inode = same.inode;
  kind = same.kind;
  numbers = same.numbers;
  head = same.head;
  tail = refl;
  pages = ap (λ (ps : List ℕ). ps ++ fresh) same.pages;
  index = same.index;
  names = λ q. refl;
}

module _ {R : Region} {l : Layout} {free after : FreeLists} {old mid : Row} {cpu j : ℕ} {fresh : List ℕ} (stands : StandsRight R l free old) (can : CanName R l cpu j old) (taken : TakesEach free cpu fresh after) (entries : List Entry) (given : AreGiven entries) (some : 0 < length entries)
    (count : length fresh ≡ needed (old.tail % 4096) entries) (same : SameRow old mid) where
  -- the slot of the inode that goes
  gone_slot : slot_of l j ≡ Some (slot_in l j)
  gone_slot = slot_there_is l j can.number

  pub slot_whole : slot_in l j % 8 ≡ 0
  slot_whole = let whole = whole_there l j stands.laid can.number in omega (arith, whole)

  pub slot_inside : slot_in l j + 8 ≤ size R
  slot_inside = let inside = inside_there l j stands.laid can.number in let blocks = stands.blocks in omega (arith, inside, blocks)

  pub slot_behind : journal cpu + 4096 ≤ slot_in l j
  slot_behind =
      let behind = behind_there l j stands.laid can.number in
      let below = can.cpu_below in
      let before : journal cpu + 4096 ≤ (1 + l.sup.cpus) * 4096 = omega (arith, below) in
      omega (arith, behind, before)

  module _ (x : Extension) (slot : x.slot ≡ slot_in l mid.inode) (tail : x.tail ≡ mid.tail) (more : x.entries.now ≡ entries) (blocks : x.fresh.now ≡ fresh) where
    old_slot : x.slot ≡ slot_in l old.inode
    old_slot = slot ∙ ap (slot_in l) same.inode

    old_tail : x.tail ≡ old.tail
    old_tail = tail ∙ same.tail

    pub commits : CanCommit R cpu x
    commits = row_commits entries stands can taken count given x old_slot old_tail more blocks

    can_remove : (gone : ℕ) → gone ≡ slot_in l j → old.inode ≢ j → (held : Store) (h : Held) → ShowsRow R l held h old free → CanRemove R l held cpu mid.inode h x j gone
    can_remove gone there differ held h shows = subst (λ (d : ℕ). CanRemove R l held cpu d h x j gone) (sym same.inode) (record {
      journals = can.cpu_below;
      parent = as_extension entries stands can taken count given x old_slot old_tail more blocks (can_extend entries shows stands.lists taken count given some);
      at = gone_slot ∙ ap (λ (a : ℕ). Some a) (sym there);
      differ = differ;
    })

    -- Nothing else is stored.
    stores_less : (S : Region) (gone : ℕ) → gone ≡ slot_in l j → old.inode ≢ j → {held : Store} {h : Held} → ShowsRow R l held h old free → IsMixed R (RemoveWords cpu x gone) S → StoresIn l held (one_less l cpu old.inode j) R S
    stores_less S gone there differ {held} {h} shows mixed = subst (λ (d : ℕ). StoresIn l held (one_less l cpu d j) R S) same.inode (less_stores (can_remove gone there differ held h shows) slot there mixed)

    -- The valid word is stored after the directory's tail.
    in_order_less : (S : Region) (gone : ℕ) → gone ≡ slot_in l j → old.inode ≢ j → {held : Store} {h : Held} → ShowsRow R l held h old free
        → (CanRemove R l held cpu mid.inode h x j gone → FirstIsFirst R (x.slot + 24) (end_of x.fresh.now 0 x.tail x.entries.now) gone S) → TailIsFirst R S l free.pools cpu old.inode old.tail entries (slot_in l j)
    in_order_less S gone there differ {held} {h} shows orders = elim (orders (can_remove gone there differ held h shows)) [
      | inl still ↦ inl (subst (λ (a : ℕ). word S a ≡ word R a) there still)
      | inr stored ↦ inr (record {
        fresh = fresh;
        rest = after.pools;
        taken = by_rule taken;
        count = count;
        moved = subst (λ (a : ℕ). word S (a + 24) ≡ end_of fresh 0 old.tail entries) old_slot (stored ∙ (λ t. end_of (blocks t) 0 (old_tail t) (more t)));
      })
    ]

    -- Both.
    pub less_told : (S : Region) (gone : ℕ) → gone ≡ slot_in l j → old.inode ≢ j → {held : Store} {h : Held} → ShowsRow R l held h old free
        → (CanRemove R l held cpu mid.inode h x j gone → FirstIsFirst R (x.slot + 24) (end_of x.fresh.now 0 x.tail x.entries.now) gone S) → IsMixed R (RemoveWords cpu x gone) S
        → TailIsFirst R S l free.pools cpu old.inode old.tail entries (slot_in l j) × StoresIn l held (one_less l cpu old.inode j) R S
    less_told S gone there differ shows orders mixed = (in_order_less S gone there differ shows orders, stores_less S gone there differ shows mixed)

    store_as : (held : Store) (d : ℕ) (h : Held) → with_removed held d h x j ≡ with_gone held d h entries fresh j
    store_as held d h = λ t. with_inode (with_log held d h (more t) (blocks t)) j None

    appends_by : {S : Region} {new : Row} (gone : ℕ) → gone ≡ slot_in l j → old.inode ≢ j → GrowsSame old fresh (end_of x.fresh.now 0 x.tail x.entries.now) new → NamesOnce old new
        → ((held : Store) (h : Held) → CanRemove R l held cpu mid.inode h x j gone → ShowsIdle S l (with_removed held mid.inode h x j))
        → ((held : Store) (h : Held) → CanRemove R l held cpu mid.inode h x j gone → (i : ℕ) (g : Held) → held i ≡ Some g → (y : ℕ) → byte_of S l g y ≡ byte_of R l g y)
        → ((held : Store) (h : Held) → CanRemove R l held cpu mid.inode h x j gone → SameFrontBut l.sup.cpus cpu R S) → AppendsLess R S l free after cpu old new j entries
    appends_by {S} {new} gone there differ row once shows bytes front = record {
      fresh = fresh;
      taken = taken;
      count = count;
      row = subst (λ (n : ℕ). GrowsSame old fresh n new) (λ t. end_of (blocks t) 0 (old_tail t) (more t)) row;
      once = once;
      shows = λ held h seen. record {
        idle = subst (λ (st : Store). ShowsIdle S l st) (store_as held old.inode h) (subst (λ (d : ℕ). ShowsIdle S l (with_removed held d h x j)) same.inode (shows held h (can_remove gone there differ held h seen)));
        bytes = bytes held h (can_remove gone there differ held h seen);
        front = front held h (can_remove gone there differ held h seen);
      };
    }

    pub appends_less : {S : Region} {new : Row} (gone end : ℕ) (bs : List ℕ) → gone ≡ slot_in l j → old.inode ≢ j → bs ≡ fresh → end ≡ end_of x.fresh.now 0 x.tail x.entries.now → HasGrown mid bs end new → EachOnce old.names → EachOnce new.names
        → ((held : Store) (h : Held) → CanRemove R l held cpu mid.inode h x j gone → ShowsIdle S l (with_removed held mid.inode h x j)) → IsMixed R (RemoveWords cpu x gone) S → AppendsLess R S l free after cpu old new j entries
    appends_less {S} gone end bs there differ others ends grown once once_now shows mixed =
        appends_by gone there differ (grown_after same grown others ends) (once, once_now) shows (λ held h can. removed_bytes can S mixed) (λ held h can. removed_front can S mixed)

    -- What a stop leaves: the row that there would be is as it was but for the log.
    module _ (gone : ℕ) (there : gone ≡ slot_in l j) (differ : old.inode ≢ j) {held : Store} {h : Held} (shows : ShowsRow R l held h old free) (once : EachOnce old.names) (now : Region) (first_may last_may : Choices) (wrote : StoresOnly (RemoveWords cpu x gone) R now first_may last_may) (settled : NothingPending R first_may) where
      removes : CanRemove R l held cpu mid.inode h x j gone
      removes = can_remove gone there differ held h shows

      mixed : (left : Region) → MayBeLeft now last_may left → IsMixed R (RemoveWords cpu x gone) left
      mixed left may = let stored = wrote.mixed in mixed_left R now (RemoveWords cpu x gone) first_may last_may stored.as_long stored.same_rest settled wrote.adds left may

      any_idle : (left : Region) → UndoneShows l (with_removed held mid.inode h x j) left → (other : Store) (g : Held) → CanRemove R l other cpu mid.inode g x j gone → ShowsIdle (undone l.sup left) l (with_removed other mid.inode g x j)
      any_idle left w other g here =
          let parent = here.parent in
          let one = shows.sound in
          let two = parent.sound in
          let equal : held ≡ other = one_held one.shows two.shows in
          let both : Some h ≡ Some g = sym shows.holds ∙ ap held (sym same.inode) ∙ ap (λ (st : Store). st mid.inode) equal ∙ parent.holds in
          let is : h ≡ g = cc in
          subst (λ (k : Held). ShowsIdle (undone l.sup left) l (with_removed other mid.inode k x j)) is (subst (λ (st : Store). ShowsIdle (undone l.sup left) l (with_removed st mid.inode h x j)) equal (undone_idle w))

      any_bytes : (left : Region) → UndoneShows l (with_removed held mid.inode h x j) left → IsMixed R (RemoveWords cpu x gone) left → (other : Store) (g : Held) → CanRemove R l other cpu mid.inode g x j gone → (i : ℕ) (f : Held) → other i ≡ Some f → (y : ℕ) → byte_of (undone l.sup left) l f y ≡ byte_of R l f y
      any_bytes left w stored other g here = let parent = here.parent in undone_files w R (sound_clear parent.sound) (removed_bytes here left stored)

      any_front : (left : Region) → IsMixed R (RemoveWords cpu x gone) left → (other : Store) (g : Held) → CanRemove R l other cpu mid.inode g x j gone → SameFrontBut l.sup.cpus cpu R (undone l.sup left)
      any_front left stored other g here = let parent = here.parent in let sound = parent.sound in undone_front l.sup cpu R left (layout_of_super R l.sup sound.sup) sound.idle (removed_front here left stored)

      less_by : (left : Region) → IsMixed R (RemoveWords cpu x gone) left → BeforeOrRemoved l held mid.inode h x j left → LeavesEither R l held (AppendedLess R l free cpu old j entries) left
      less_by left stored (inl w) = inl (undone_recovers w R (sound_clear shows.sound) (removed_bytes removes left stored) (let sound = shows.sound in sound.faultless))
      less_by left stored (inr w) =
          let end = end_of x.fresh.now 0 x.tail x.entries.now in
          inr (
            undone_can w,
            (
              after,
              longer_row old mid fresh end,
              appends_by {S = undone l.sup left} gone there differ (longer_has old mid fresh end same) (once, once) (any_idle left w) (any_bytes left w stored) (any_front left stored),
            ),
          )

      pub left_less : (CanRemove R l held cpu mid.inode h x j gone → NothingPending R first_may → LeavesOnly now last_may (BeforeOrRemoved l held mid.inode h x j)) → LeavesOnly now last_may (LeavesEither R l held (AppendedLess R l free cpu old j entries))
      left_less stops left may = less_by left (mixed left may) (stops removes settled left may)

  -- Memory that is open past the region is open past all that is stored.
  pub less_within : (a b t : ℕ) (bs : List ℕ) → a ≡ slot_in l j → b ≡ slot_in l mid.inode → t ≡ mid.tail → bs ≡ fresh → (limit : ℕ) → size R ≤ limit
      → EndBy (t / 4096 ∷ bs) limit × (b + 32 ≤ limit) × (a + 8 ≤ limit)
  less_within a b t bs gone slot tail blocks limit past =
      let w = stores_within_region entries bs b stands taken count given blocks (slot ∙ ap (slot_in l) same.inode) limit past in (
        subst (λ (n : ℕ). EndBy (n / 4096 ∷ bs) limit) (sym (tail ∙ same.tail)) w.0,
        w.1,
        omega (arith, slot_inside, gone, past),
      )
