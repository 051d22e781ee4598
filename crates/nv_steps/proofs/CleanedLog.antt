-- What a page that goes from the log of a row makes of the row, the region and the free lists.
use Rattle.std.proofs.Common.{◌≡◌, ◌⊎◌, inl, inr, ℕ, zero, suc, ◌+◌, ◌-◌, ◌*◌, ◌%◌, ◌<◌, ◌≤◌, false, eqb, List, length, get_or, refl, ap, sym, ◌∙◌, subst, arith, Option, Some, None, IfSome}
use Rattle.std.specs.List.{Contains, remove}
use Rattle.std.proofs.lemmas.Bool.{cases_lt, ne_eqb}
use Rattle.std.proofs.lemmas.List.{get_or_default}
use Rattle.nv_region.specs.Region.{Region, put, size, word}
use Rattle.nv_region.specs.Stored.{Stored}
use Rattle.nv_region.specs.Stops.{Choices, IsMixed, LeavesOnly, One}
use Rattle.nv_region.proofs.Wordwise.{put_stored}
use Rattle.nv_super.specs.declared.superblock.Super.{Super}
use Rattle.nv_super.specs.declared.kind.Kind.{Kind}
use Rattle.nv_super.specs.declared.owners.Run.{Run}
use Rattle.nv_super.specs.Layout.{slot_of, system_blocks, Layout}
use Rattle.nv_alloc.specs.FreeValue.{FreeLists}
use Rattle.nv_alloc.specs.FreeLists.{CanJoin, Joins}
use Rattle.nv_alloc.specs.Taking.{HasBlock, pool_at, block_run}
use Rattle.nv_radix.specs.Pages.{block_at}
use Rattle.nv_names.specs.Names.{name_at}
use Rattle.nv_logpage.specs.Append.{EndBy}
use Rattle.nv_logpage.specs.Good.{good_entries}
use Rattle.nv_logpage.specs.Reads.{Reads}
use Rattle.nv_logpage.specs.declared.found.Placed.{Placed}
use Rattle.nv_logpage.specs.Unlinked.{head_without, page_behind, word_to}
use Rattle.nv_deadpages.specs.Dead.{IsFirstDead, IsSaidBy}
use Rattle.nv_scan.specs.Faults.{IsEntryFault}
use Rattle.nv_deadpages.specs.InTurn.{AreDeadPages, IsCleanLog}
use Rattle.nv_deadpages.specs.declared.in_turn.DeadPages.{DeadPages}
use Rattle.nv_scan.specs.Rows.{AreNumbers}
use Rattle.nv_scan.specs.State.{block_of, named}
use Rattle.nv_scan.specs.declared.piece.Row.{Row}
use Rattle.nv_mounted.specs.Held.{Held, Store, HoldsInode, with_inode}
use Rattle.nv_mounted.specs.Blocks.{KeepsFree}
use Rattle.nv_mounted.specs.Cleaned.{cleaned}
use Rattle.nv_mounted.specs.Mounted.{KeepsRow, ShowsSound}
use Rattle.nv_mounted.proofs.Cleaned.{bytes_stay, lists_cleaned, row_cleaned, sound_cleaned}
use Rattle.nv_mounted.proofs.Shown.{holds_at}
use Rattle.nv_commit.specs.Stopped.{LeavesEither, RollsBackTo}
use Rattle.nv_commit.proofs.Left.{itself_recovers, made_there, one_held}
use Rattle.nv_steps.specs.Cleans.{Cleans, HasLess, IsKnownDead, LosesNone, LosesPageAt}
use Rattle.nv_steps.specs.Grown.{StandsRight}
use Rattle.nv_steps.specs.LessNames.{AreOwn}
use Rattle.nv_steps.specs.Steps.{ShowsRow}
use Rattle.nv_steps.specs.Stopped.{PageLess}
use Rattle.nv_steps.specs.Stores.{StoresIn, one_page_less}
use Rattle.nv_steps.proofs.LogGrows.{slot_there}
use Rattle.nv_steps.proofs.RowsAt.{same_row}
use Rattle.nv_steps.proofs.Stores.{link_stores}
use Rattle.nv_steps.proofs.WriteStops.{some_kept}
use Rattle.nv_steps.specs.Slots.{slot_in}

-- One page is the first that a log can do without, or none is.
pub one_first_dead : (s : Super) (kind : Kind) (i created : ℕ) (es : List Placed) (pages : List ℕ) (o p : Option ℕ) → IsFirstDead s kind i created es pages o → IsFirstDead s kind i created es pages p → o ≡ p
one_first_dead s kind i created es pages None None one other = refl
one_first_dead s kind i created es pages None (Some k) none some = absurd (none k some.0)
one_first_dead s kind i created es pages (Some k) None some none = absurd (none k some.0)
one_first_dead s kind i created es pages (Some j) (Some k) one other = ap (λ (n : ℕ). Some n) (elim (cases_lt j k) [
  | inl before ↦ absurd (other.1 j before one.0)
  | inr behind ↦ elim (cases_lt k j) [ inl after ↦ absurd (one.1 k after other.0) | inr same ↦ omega (arith, behind, same) ]
])

module _ {R : Region} {l : Layout} {held : Store} {h : Held} {row : Row} {free : FreeLists} (shows : ShowsRow R l held h row free) where
  told : KeepsRow l h row
  told = shows.told

  at : slot_of l row.inode ≡ Some (slot_in l row.inode)
  at = (let sound = shows.sound in slot_there row.inode h sound.shows shows.holds)

  pub holds : HoldsInode R l (slot_in l row.inode) h
  holds = (let sound = shows.sound in holds_at sound.shows row.inode (slot_in l row.inode) h at shows.holds)

  -- The row is that of the log.
  pub said : IsSaidBy R l.sup h.created h.entries row
  said = record {
    reads =
        subst (λ (a : ℕ). Reads R l.sup a row.tail h.entries row.pages.items None) (sym told.head)
        (subst (λ (a : ℕ). Reads R l.sup h.head a h.entries row.pages.items None) (sym told.tail)
        (subst (λ (ps : List ℕ). Reads R l.sup h.head h.tail h.entries ps None) (sym told.pages) holds.reads));
    numbers = subst (λ (k : Kind). AreNumbers h.created (good_entries l.sup k h.entries) row.numbers) (sym told.kind) told.numbers;
    index = subst (λ (k : Kind). (p : ℕ) → block_at row.index p ≡ block_of (good_entries l.sup k h.entries) p) (sym told.kind) told.index;
    names = subst (λ (k : Kind). (q : List ℕ) → name_at row.names q ≡ named (good_entries l.sup k h.entries) q) (sym told.kind) told.names;
  }

  module _ (created slot : ℕ) (loaded : created ≡ word R (slot + 32)) (at_slot : slot ≡ slot_in l row.inode) where
    same_time : created ≡ h.created
    same_time = loaded ∙ ap (λ (a : ℕ). word R (a + 32)) at_slot ∙ holds.created

    said_then : IsSaidBy R l.sup created h.entries row
    said_then = subst (λ (c : ℕ). IsSaidBy R l.sup c h.entries row) (sym same_time) said

    -- What holds of the row and its log holds of what is held.
    by_row : (Holds : Kind → ℕ → List ℕ → Type 0) → Holds row.kind created row.pages.items → Holds h.kind h.created h.pages
    by_row Holds here = subst (λ (k : Kind). Holds k h.created h.pages) told.kind (subst (λ (ps : List ℕ). Holds row.kind h.created ps) told.pages (subst (λ (c : ℕ). Holds row.kind c row.pages.items) same_time here))

    by_held : (Holds : Kind → ℕ → List ℕ → Type 0) → Holds h.kind h.created h.pages → Holds row.kind created row.pages.items
    by_held Holds here = subst (λ (c : ℕ). Holds row.kind c row.pages.items) (sym same_time) (subst (λ (ps : List ℕ). Holds row.kind h.created ps) (sym told.pages) (subst (λ (k : Kind). Holds k h.created h.pages) (sym told.kind) here))

    -- The first page that it can do without, told by what is held, where the same superblock is asked.
    pub first_held : {t : Super} → t ≡ l.sup → (known found : Option ℕ) → IsKnownDead l.sup h.kind row.inode h.created h.entries h.pages known
        → (IsSaidBy R t created h.entries row → IsKnownDead t row.kind row.inode created h.entries row.pages.items known → IsFirstDead t row.kind row.inode created h.entries row.pages.items found)
        → IsFirstDead l.sup h.kind row.inode h.created h.entries h.pages found
    first_held {t} same known found dead finds = by_row (λ k c ps. IsFirstDead l.sup k row.inode c h.entries ps found) (subst (λ (u : Super). IsSaidBy R u created h.entries row → IsKnownDead u row.kind row.inode created h.entries row.pages.items known → IsFirstDead u row.kind row.inode created h.entries row.pages.items found) same finds said_then (by_held (λ k c ps. IsKnownDead l.sup k row.inode c h.entries ps known) dead))

    -- and pages that go one after another
    pub dead_held : {t : Super} → t ≡ l.sup → (found : Option DeadPages) → (IsSaidBy R t created h.entries row → IsCleanLog t row.kind row.inode h.entries → AreDeadPages t row.kind row.inode created h.entries row.pages.items found)
        → AreDeadPages l.sup h.kind row.inode h.created h.entries h.pages found
    dead_held {t} same found finds = by_row (λ k c ps. AreDeadPages l.sup k row.inode c h.entries ps found) (subst (λ (u : Super). IsSaidBy R u created h.entries row → IsCleanLog u row.kind row.inode h.entries → AreDeadPages u row.kind row.inode created h.entries row.pages.items found) same finds said_then clean) where
      clean : IsCleanLog l.sup row.kind row.inode h.entries
      clean f wrong = (
          let sound = shows.sound in
          let faultless = sound.faultless in
          faultless.clean row.inode h f shows.holds (subst (λ (k : Kind). IsEntryFault l.sup k row.inode h.entries f) told.kind wrong))

  -- What is stored where a page goes.
  pub page_stores : (S : Region) (slot k new : ℕ) (given : List ℕ) (o : Option ℕ) → slot ≡ slot_in l row.inode → slot_in l row.inode % 128 ≡ 0 → given ≡ row.pages.items
      → IsFirstDead l.sup h.kind row.inode h.created h.entries h.pages (Some k) → IsFirstDead l.sup h.kind row.inode h.created h.entries h.pages o → IsMixed R (One (word_to (slot + 16) given k) new) S → StoresIn l held (one_page_less l row.inode h.pages o) R S
  page_stores S slot k new given o at_slot whole pages first other mixed =
      subst (λ (p : Option ℕ). StoresIn l held (one_page_less l row.inode h.pages p) R S) (one_first_dead l.sup h.kind row.inode h.created h.entries h.pages (Some k) o first other) (link_stores l held row.inode slot k new given h.pages at_slot whole (pages ∙ told.pages) mixed)

  -- the row without the page is of the log without it
  told_by : (k : ℕ) (new : Row) → IsFirstDead l.sup h.kind row.inode h.created h.entries h.pages (Some k) → HasLess row k new → KeepsRow l (cleaned h k) new
  told_by k new first less = row_cleaned l row.inode h k row new first.0 told less.kind less.numbers
      (less.head ∙ ap (λ (a : ℕ). head_without a row.pages.items k) told.head ∙ ap (λ (ps : List ℕ). head_without h.head ps k) told.pages)
      less.tail (less.pages ∙ ap (λ (ps : List ℕ). remove ps k) told.pages) less.index less.names

  module _ (S : Region) (new : Row) (mid after : FreeLists) (k b : ℕ) (first : IsFirstDead l.sup h.kind row.inode h.created h.entries h.pages (Some k)) (stored : Stored R (word_to (slot_in l row.inode + 16) h.pages k) (page_behind h.pages k) S)
      (less : HasLess row k new) (block : b ≡ get_or h.pages k 0) (pools : mid.pools ≡ free.pools) (lists : mid.sup ≡ l.sup) (joins : Joins mid (block_run b) after) where
    pub page_lost : LosesPageAt R S l held h row new after k b
    page_lost = record {
      block = block;
      sound = sound_cleaned R S l held row.inode (slot_in l row.inode) h k shows.sound at shows.holds first.0.more stored first.0;
      told = told_by k new first less;
      inode = less.inode;
      lists = lists_cleaned R S l held row.inode (slot_in l row.inode) h k shows.sound at shows.holds first.0.more stored first.0 mid after
          (subst (KeepsFree l held) (sym pools) shows.lists) lists (subst (λ (n : ℕ). Joins mid (block_run n) after) block joins);
      bytes = bytes_stay R S l held row.inode (slot_in l row.inode) h k shows.sound at shows.holds first.0.more stored;
    }

  -- The same of a stop: the row is as it was but for the page, and the free lists are those of what is held then.
  module _ (S : Region) (k : ℕ) (first : IsFirstDead l.sup h.kind row.inode h.created h.entries h.pages (Some k)) (stored : Stored R (word_to (slot_in l row.inode + 16) h.pages k) (page_behind h.pages k) S) where
    abbrev after : Store
    after = with_inode held row.inode (Some (cleaned h k))

    abbrev less_row : Row
    less_row = record row { head = head_without row.head row.pages.items k; pages = record row.pages { items = remove row.pages.items k } }

    less_row_has : HasLess row k less_row
    less_row_has = record { inode = refl; kind = refl; numbers = refl; head = refl; tail = refl; pages = refl; index = refl; names = refl }

    sound_after : ShowsSound S l after
    sound_after = sound_cleaned R S l held row.inode (slot_in l row.inode) h k shows.sound at shows.holds first.0.more stored first.0

    free_after : (free : List (List Run)) × KeepsFree l after free
    free_after = let w = some_kept sound_after in let keeps = w.2 in (w.1, keeps.in_lists)

    goes : Cleans R S l held h row less_row free (record free { pools = free_after.0 }) (Some (get_or h.pages k 0))
    goes = (
      k,
      first,
      record {
        block = refl;
        sound = sound_after;
        told = told_by k less_row first less_row_has;
        inode = refl;
        lists = free_after.1;
        bytes = bytes_stay R S l held row.inode (slot_in l row.inode) h k shows.sound at shows.holds first.0.more stored;
      },
    )

    -- it is so for whatever is held, since that is one thing
    goes_so : (st : Store) (g : Held) → ShowsRow R l st g row free → Cleans R S l st g row less_row free (record free { pools = free_after.0 }) (Some (get_or h.pages k 0))
    goes_so st g shown =
        let mine = shows.sound in
        let theirs = shown.sound in
        let equal : held ≡ st = one_held mine.shows theirs.shows in
        let both : Some h ≡ Some g = sym shows.holds ∙ ap (λ (x : Store). x row.inode) equal ∙ shown.holds in
        let is : h ≡ g = cc in
        let same : (held, h) ≡ (st, g) = λ i. (equal i, is i) in
        subst (λ (w : Store × Held). Cleans R S l w.0 w.1 row less_row free (record free { pools = free_after.0 }) (Some (get_or h.pages k 0))) same goes

    page_less : PageLess R l free row S
    page_less = (record free { pools = free_after.0 }, less_row, get_or h.pages k 0, goes_so, record { inode = refl; kind = refl; numbers = refl; index = refl; names = refl }, refl)

    -- What a stop leaves once the page was taken out.
    pub left_cleaned : (now : Region) (choices : Choices) → LeavesOnly now choices (λ left. (left ≡ R) ⊎ (left ≡ S)) → LeavesOnly now choices (LeavesEither R l held (PageLess R l free row))
    left_cleaned now choices leaves left may = elim (leaves left may) [
      | inl before ↦ inl (subst (λ (Q : Region). RollsBackTo R l held held Q) (sym before) (itself_recovers R l held shows.sound))
      | inr went ↦ subst (λ (Q : Region). LeavesEither R l held (PageLess R l free row) Q) (sym went) (inr (made_there (PageLess R l free row) sound_after page_less))
    ]

-- what was stored, told of the row's pages
pub word_stored : {R S : Region} {l : Layout} {held : Store} {h : Held} {row : Row} {free : FreeLists} (k slot : ℕ) → ShowsRow R l held h row free → slot ≡ slot_in l row.inode → S ≡ put R (word_to (slot + 16) row.pages.items k) (page_behind row.pages.items k)
    → word_to (slot + 16) row.pages.items k % 8 ≡ 0 → word_to (slot + 16) row.pages.items k + 8 ≤ size R → length R.rest < 8 → Stored R (word_to (slot_in l row.inode + 16) h.pages k) (page_behind h.pages k) S
word_stored {R} {S} {l} {h = h} {row = row} k slot shows at is whole inside short =
    let told = shows.told in
    let stored : Stored R (word_to (slot + 16) row.pages.items k) (page_behind row.pages.items k) S = subst (Stored R (word_to (slot + 16) row.pages.items k) (page_behind row.pages.items k)) (sym is) (put_stored R (word_to (slot + 16) row.pages.items k) (page_behind row.pages.items k) whole inside short) in
    subst (λ (a : ℕ). Stored R (word_to (a + 16) h.pages k) (page_behind h.pages k) S) at (subst (λ (ps : List ℕ). Stored R (word_to (slot + 16) ps k) (page_behind ps k) S) told.pages stored)

-- ---- what is owed

-- the words that are stored lie inside
pub within_region : {R : Region} {l : Layout} {free : FreeLists} {row : Row} (xs : List ℕ) (slot limit : ℕ) → StandsRight R l free row → EndBy row.pages.items (size R) → xs ≡ row.pages.items → slot ≡ slot_in l row.inode → size R ≤ limit → EndBy xs limit × (slot + 16 + 8 ≤ limit)
within_region {R} {l} {free} {row} xs slot limit stands inside is at long = (
  (λ j below. (let end = inside j (subst (λ (ys : List ℕ). j < length ys) is below) in let same = ap (λ (ys : List ℕ). get_or ys j 0) is in omega (arith, end, same, long))),
  (let slot_inside = stands.inside in omega (arith, slot_inside, at, long)),
)

pub word_fits : {R : Region} {l : Layout} {free : FreeLists} {row : Row} (slot k : ℕ) → StandsRight R l free row → EndBy row.pages.items (size R) → slot ≡ slot_in l row.inode → k + 1 < length row.pages.items
    → (word_to (slot + 16) row.pages.items k % 8 ≡ 0) × (word_to (slot + 16) row.pages.items k + 8 ≤ size R)
word_fits {R} {l} {free} {row} slot zero stands inside at more = let slot_inside = stands.inside in let whole = stands.whole in (omega (arith, at, whole), omega (arith, slot_inside, at))
word_fits {R} {l} {free} {row} slot (suc j) stands inside at more =
    let some : eqb (suc j) 0 ≡ false = ne_eqb (suc j) 0 (λ q. omega (arith, q)) in
    let one_less : suc j - 1 ≡ j = omega arith in
    let word_is : word_to (slot + 16) row.pages.items (suc j) ≡ 4096 * get_or row.pages.items j 0 + 4064 = rw (some, one_less) refl in
    let end = inside j (omega (arith, more)) in
    (omega (arith, word_is), omega (arith, word_is, end))

-- the block of a page can be given back
pub can_give : (free mid : FreeLists) (xs : List ℕ) (k : ℕ) → AreOwn free xs → mid.pools ≡ free.pools → mid.sup ≡ free.sup → k < length xs → CanJoin mid (block_run (get_or xs k 0))
can_give free mid xs k own pools sup inside =
    let there : Contains xs (get_or xs k 0) = (k, inside, get_or_default xs k (get_or xs k 0) 0 inside) in
    record {
      «data» = λ b w. (let here : get_or xs k 0 ≡ b = omega (arith, w.0, w.1) in
          subst (λ (n : ℕ). (system_blocks mid.sup ≤ n) × (n < mid.sup.blocks)) here (subst (λ (t : Super). (system_blocks t ≤ get_or xs k 0) × (get_or xs k 0 < t.blocks)) (sym sup) (own.in_data (get_or xs k 0) there)));
      used = λ cpu b w is_free. (let here : b ≡ get_or xs k 0 = omega (arith, w.0, w.1) in
          own.used (get_or xs k 0) cpu there (subst (λ (n : ℕ). HasBlock (pool_at free.pools cpu) n) here (subst (λ (ps : List (List Run)). HasBlock (pool_at ps cpu) b) pools is_free)));
    }

pub nothing_lost : (R : Region) (row : Row) (free : FreeLists) → LosesNone R R row row free free
nothing_lost R row free = record { region = refl; row = same_row row; free = record { sup = refl; pools = refl } }

-- what holds of a number that is there
pub there_is : (o : Option ℕ) (P : ℕ → Type 0) (k : ℕ) → o ≡ Some k → IfSome o P → P k
there_is o P k is h = subst (λ (q : Option ℕ). IfSome q P) is h
