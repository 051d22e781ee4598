-- A file whose size is set with no page copied: its log, its row, its free blocks and its bytes.
use Rattle.std.proofs.Common.{◌≡◌, ◌↔◌, ℕ, ◌+◌, ◌*◌, ◌/◌, ◌%◌, ◌<◌, ◌≤◌, ◌⊎◌, inl, inr, Bool, true, false, cond, ◌==◌, nat_le, nat_eq, not, ◌&&◌, min, is_some, List, [], ◌∷◌, ◌++◌, length, take, refl, ap, sym, ◌∙◌, subst, arith, Option, Some, None}
use Rattle.std.specs.Int.{div_ceil}
use Rattle.std.specs.List.{Contains}
use Rattle.std.proofs.lemmas.Bool.{cases_lt, le-leb, le-ltb, lt-leb, lt-ltb}
use Rattle.std.proofs.lemmas.Bool.Decides.{nat_tests}
use Rattle.std.proofs.lemmas.Option.{none-some}
use Rattle.nv_region.specs.Region.{Region}
use Rattle.nv_region.proofs.Stops.{mixed_same}
use Rattle.nv_super.specs.declared.superblock.Super.{Super}
use Rattle.nv_super.specs.declared.owners.Run.{Run}
use Rattle.nv_super.specs.declared.kind.Kind.TheVariants.{File}
use Rattle.nv_super.specs.Layout.{system_blocks, Layout}
use Rattle.nv_super.proofs.Members.{none_in}
use Rattle.nv_alloc.specs.FreeValue.{FreeLists}
use Rattle.nv_alloc.specs.FreeLists.{SameLists}
use Rattle.nv_alloc.specs.Taking.{HasBlock, pool_at, TakesSingly}
use Rattle.nv_entry.specs.declared.entry.AttrEntry.{AttrEntry}
use Rattle.nv_entry.specs.declared.entry.Entry.{Entry}
use Rattle.nv_entry.specs.declared.entry.Entry.TheVariants.{Attr}
use Rattle.nv_logpage.specs.Reads.{placed}
use Rattle.nv_logpage.specs.Append.{end_of, needed, place_of}
use Rattle.nv_radix.specs.Pages.{Pages, block_at}
use Rattle.nv_names.specs.Names.{Names, name_at}
use Rattle.nv_scan.specs.State.{block_of, mode_of, size_of}
use Rattle.nv_scan.specs.declared.numbers.Numbers.{Numbers}
use Rattle.nv_scan.specs.declared.piece.Row.{Row}
use Rattle.nv_scan.proofs.Sizes.{page_below}
use Rattle.nv_mounted.specs.Held.{Held, Store, good_in}
use Rattle.nv_mounted.specs.Blocks.{KeepsFree}
use Rattle.nv_mounted.specs.Bytes.{byte_in}
use Rattle.nv_mounted.specs.Lists.{WasTaken}
use Rattle.nv_mounted.specs.Loose.{Loose}
use Rattle.nv_mounted.specs.Mounted.{KeepsRow}
use Rattle.nv_mounted.specs.Writes.{IsReplaced, WritesData}
use Rattle.nv_mounted.proofs.DataGrows.{cut, kept}
use Rattle.nv_commit.specs.Stopped.{LeavesEither}
use Rattle.nv_commit.proofs.Left.{one_held}
use Rattle.nv_commit.specs.Extends.{CanExtend, ShowsMoved, extended, with_log}
use Rattle.nv_steps.specs.Given.{GivesPages, MapsOwn}
use Rattle.nv_steps.specs.Grown.{HasGrown, StandsRight}
use Rattle.nv_steps.specs.Sizes.{CanResize, HasSize, Resizes, SameBytes, end_block}
use Rattle.nv_steps.specs.Steps.{AppendsLog, LogFollows, ShowsRow}
use Rattle.nv_steps.specs.Taken.{SamePools}
use Rattle.nv_steps.proofs.Zeros.{no_zeros}
use Rattle.nv_steps.proofs.AttrEntries.{attr_writes, one_ends}
use Rattle.nv_steps.proofs.SizedEntries.{data_names, data_numbers}
use Rattle.nv_steps.specs.Stopped.{Appended, Resized}
use Rattle.nv_steps.proofs.WriteStops.{some_kept}
use Rattle.nv_steps.proofs.DataFollows.{data_bytes, data_follows, data_lists, data_sound}
use Rattle.nv_steps.proofs.GivenPages.{own_taken}
use Rattle.nv_steps.proofs.LogGrows.{can_extend, count_held, pages_now}
use Rattle.nv_steps.proofs.ResizeEntries.{file_attr, small_mode}
use Rattle.nv_steps.proofs.TakenBlocks.{is_taken, was_taken}
use Rattle.nv_steps.proofs.OneByOne.{single_takes, by_rule, takes_of}
use Rattle.nv_steps.specs.Slots.{slot_in}

-- ---- pages and sizes

ceil_is : (n : ℕ) → ((n % 4096 ≡ 0) × (div_ceil n 4096 ≡ n / 4096)) ⊎ ((0 < n % 4096) × (div_ceil n 4096 ≡ n / 4096 + 1))
ceil_is n = elim (cases_lt 0 (n % 4096)) [
  | inl more ↦ inr (more, ap (λ (k : ℕ). n / 4096 + k) (one (n % 4096) more))
  | inr none ↦ inl (omega (arith, none), ap (λ (k : ℕ). n / 4096 + k) (zero_of (n % 4096) (omega (arith, none))) ∙ omega arith)
] where
  one : (m : ℕ) → 0 < m → min 1 m ≡ 1
  one m some = grind (arith, nat_tests)

  zero_of : (m : ℕ) → m ≡ 0 → min 1 m ≡ 0
  zero_of m none = grind (arith, nat_tests)

-- the pages from the end on are those that begin at the size or behind it
pub past_end : (n p : ℕ) → div_ceil n 4096 ≤ p → n ≤ p * 4096
past_end n p high = elim (ceil_is n) [ inl w ↦ (let whole = w.0 in let is = w.1 in omega (arith, whole, is, high)) | inr w ↦ (let is = w.1 in omega (arith, is, high)) ]

pub from_end : (n p : ℕ) → n ≤ p * 4096 → div_ceil n 4096 ≤ p
from_end n p high = elim (ceil_is n) [ inl w ↦ (let is = w.1 in omega (arith, is, high)) | inr w ↦ (let some = w.0 in let is = w.1 in omega (arith, some, is, high)) ]

pub before_end : (n p : ℕ) → p * 4096 < n → p < div_ceil n 4096
before_end n p low = elim (cases_lt p (div_ceil n 4096)) [ inl less ↦ less | inr high ↦ absurd (let past = past_end n p high in omega (arith, past, low)) ]

-- ---- the row

-- What is made of a row whose log has grown: its numbers, and its index besides.
pub record Settled (mid : Row) (x : AttrEntry) (new : Row) : Type 0 where
  pub has : HasSize mid x new
  pub head : new.head ≡ mid.head
  pub tail : new.tail ≡ mid.tail
  pub pages : new.pages.items ≡ mid.pages.items

-- with the numbers of the row before
pub since : {row mid new : Row} {x : AttrEntry} {fresh : List ℕ} {end : ℕ} → HasGrown row fresh end mid → HasSize mid x new → HasSize row x new
since {row} {mid} {new} grown has = record {
  inode = has.inode ∙ grown.inode;
  kind = has.kind ∙ grown.kind;
  size = has.size;
  mode = has.mode;
  owner = has.owner;
  group = has.group;
  links = has.links ∙ ap (λ (n : Numbers). n.links) grown.numbers;
  time = has.time;
  names = has.names ∙ grown.names;
}

module _ {R : Region} {l : Layout} {held : Store} {h : Held} {row : Row} {free : FreeLists} (x : AttrEntry) (can : CanResize R l free row x) (shows : ShowsRow R l held h row free) where
  pub size_held : row.numbers.size ≡ size_of (good_in l h)
  size_held = let told = shows.told in let numbers = told.numbers in numbers.size

  pub file_held : h.kind ≡ File
  file_held = let told = shows.told in sym told.kind ∙ can.file

  pub mode_held : x.mode ≤ 4095
  mode_held =
      let told = shows.told in
      let numbers = told.numbers in
      let small = small_mode l.sup h.kind h.entries in
      let same : x.mode ≡ mode_of (good_in l h) = can.mode ∙ numbers.mode in
      subst (λ (n : ℕ). n ≤ 4095) (sym same) small

  -- a page with a block begins below the size
  pub maps_below : (p b : ℕ) → block_at row.index p ≡ Some b → p * 4096 < row.numbers.size
  maps_below p b at =
      let told = shows.told in
      let below = page_below l.sup h.kind h.entries p b (sym (told.index p) ∙ at) in
      subst (λ (n : ℕ). p * 4096 < n) (sym size_held) below

  -- the same row with more room in the free lists
  pub shows_with : {reserved : FreeLists} → SamePools free reserved → ShowsRow R l held h row reserved
  shows_with {reserved} same = record { sound = shows.sound; holds = shows.holds; told = shows.told; lists = subst (λ (pools : List (List Run)). KeepsFree l held pools) (sym same.pools) shows.lists }

-- The free lists are of whatever is held of the region.
pub lists_any : {R : Region} {l : Layout} {row : Row} {free : FreeLists} {held st : Store} {h g : Held} → ShowsRow R l held h row free → ShowsRow R l st g row free → (entries : List Entry) (fresh : List ℕ) (pools : List (List Run))
    → KeepsFree l (with_log held row.inode h entries fresh) pools → KeepsFree l (with_log st row.inode g entries fresh) pools
lists_any {l = l} {row = row} {held = held} {st = st} {h = h} {g = g} shows seen entries fresh pools lists =
    let a = shows.sound in
    let b = seen.sound in
    let same : held ≡ st = one_held a.shows b.shows in
    let both : Some h ≡ Some g = sym shows.holds ∙ ap (λ (z : Store). z row.inode) same ∙ seen.holds in
    let one : h ≡ g = cc in
    subst (λ (z : Store). KeepsFree l z pools) (λ t. with_log (same t) row.inode (one t) entries fresh) lists

-- ---- the file

module _ {R S : Region} {l : Layout} {free reserved mid : FreeLists} {cpu : ℕ} {row grown new : Row} (x : AttrEntry) (can : CanResize R l free row x) (stays : end_block (block_at row.index) row.numbers.size x.size ≡ None)
    (same : SamePools free reserved) (a : AppendsLog R S l reserved mid cpu row grown (Attr x ∷ []))
    (settled : Settled grown x new) (index : (p : ℕ) → block_at new.index p ≡ cond (nat_le (div_ceil x.size 4096) p) None (block_at grown.index p)) where
  -- the log's blocks are taken one by one from the pools before
  taken_singly : TakesSingly free.pools cpu a.fresh mid.pools
  taken_singly = subst (λ (pools : List (List Run)). TakesSingly pools cpu a.fresh mid.pools) same.pools (by_rule a.taken)

  module _ {held : Store} {h : Held} (shows : ShowsRow R l held h row free) where
    with_room : ShowsRow R l held h row reserved
    with_room = shows_with x can shows same

    lists : reserved.sup ≡ l.sup
    lists = let stands = can.stands in same.sup ∙ stands.lists

    extends : CanExtend R l held row.inode h (slot_in l row.inode) row.tail (Attr x ∷ []) a.fresh
    extends = can_extend (Attr x ∷ []) with_room lists a.taken a.count (refl, tt) (omega arith)

    moved : ShowsMoved R l (with_log held row.inode h (Attr x ∷ []) a.fresh) S
    moved = a.moved held h extends

    count : length a.fresh ≡ needed (h.tail % 4096) (Attr x ∷ [])
    count = count_held (Attr x ∷ []) with_room lists a.taken a.count (refl, tt) (omega arith)

    abbrev pages : List ℕ
    pages = take (needed (h.tail % 4096) (Attr x ∷ [])) a.fresh

    abbrev at : ℕ
    at = place_of a.fresh 0 h.tail (Attr x)

    abbrev end : ℕ
    end = end_of a.fresh 0 h.tail (Attr x ∷ [])

    writes : WritesData l held h (placed at (Attr x) ∷ []) pages x.size
    writes = attr_writes l held h x (file_attr l.sup h.kind x (file_held x can shows) (mode_held x can shows) can.most) pages at

    same_index : (p : ℕ) → block_at grown.index p ≡ block_of (good_in l h) p
    same_index p = let told = shows.told in let row_grown = a.row in ap (λ (m : Pages). block_at m p) row_grown.index ∙ told.index p

    -- what a page has then
    page_now : (p : ℕ) → block_at new.index p ≡ block_of (good_in l (extended h (Attr x ∷ []) a.fresh)) p
    page_now p = index p ∙ (elim (cases_lt (p * 4096) x.size) [
      | inl below ↦ (
          let off = lt-leb (div_ceil x.size 4096) p (before_end x.size p below) in
          ap (λ (t : Bool). cond t None (block_at grown.index p)) off ∙ same_index p ∙ sym (kept l held h end (placed at (Attr x) ∷ []) pages x.size writes p (λ w. none_in w.0 w.1) below))
      | inr past ↦ (
          let on = le-leb (div_ceil x.size 4096) p (from_end x.size p past) in
          ap (λ (t : Bool). cond t None (block_at grown.index p)) on ∙ sym (cut l held h end (placed at (Attr x) ∷ []) pages x.size writes p (omega arith) (λ w. none_in w.0 w.1) past))
    ])

    told_now : KeepsRow l (extended h (Attr x ∷ []) a.fresh) new
    told_now =
        let told = shows.told in
        let row_grown = a.row in
        let has = settled.has in
        let stays_named = data_names l held h end (placed at (Attr x) ∷ []) pages x.size writes in
        let tails : row.tail ≡ h.tail = told.tail in
        record {
          kind = has.kind ∙ row_grown.kind ∙ told.kind;
          numbers = (let sized = since row_grown has in data_numbers l held h end (placed at (Attr x) ∷ []) pages x.size writes x (one_ends at x) row.numbers new.numbers told.numbers sized.size sized.mode sized.owner sized.group sized.links sized.time);
          head = settled.head ∙ row_grown.head ∙ told.head;
          tail = settled.tail ∙ row_grown.tail ∙ ap (λ (t : ℕ). end_of a.fresh 0 t (Attr x ∷ [])) tails;
          pages = settled.pages ∙ row_grown.pages ∙ ap (λ (ps : List ℕ). ps ++ a.fresh) told.pages ∙ sym (pages_now (Attr x ∷ []) with_room lists a.taken a.count (refl, tt) (omega arith));
          index = page_now;
          names = λ q. ap (λ (n : Names). name_at n q) (has.names ∙ row_grown.names) ∙ told.names q ∙ sym (stays_named.names q);
        }

    -- the blocks that are given back are those of the pages that are cut
    gave : {after : FreeLists} (given : GivesPages mid grown.index (div_ceil x.size 4096) (div_ceil row.numbers.size 4096) after) (b : ℕ) → HasBlock given.runs b ↔ IsReplaced l h (placed at (Attr x) ∷ []) x.size b
    gave given b = (
      (λ has. (let w = (given.blocks b).0 has in (w.0, sym (same_index w.0) ∙ w.3, inr (past_end x.size w.0 w.1)))),
      (λ w. (given.blocks b).1 (w.0, from_end x.size w.0 (past w), before_end row.numbers.size w.0 (maps_below x can shows w.0 b (let told = shows.told in told.index w.0 ∙ w.1)), same_index w.0 ∙ w.1)),
    ) where
      past : (w : IsReplaced l h (placed at (Attr x) ∷ []) x.size b) → x.size ≤ w.0 * 4096
      past w = elim w.2 [ inl none ↦ absurd (none_in none.0 none.1) | inr high ↦ high ]

    took : (b : ℕ) → WasTaken (single_takes a.fresh) b ↔ (Contains a.fresh b ⊎ HasBlock [] b)
    took b = ((λ w. inl (is_taken a.fresh b w)), (λ either. elim either [ inl c ↦ was_taken a.fresh b c | inr none ↦ absurd (none_in none.0 none.1) ]))

    lists_now : {after : FreeLists} (given : GivesPages mid grown.index (div_ceil x.size 4096) (div_ceil row.numbers.size 4096) after) → KeepsFree l (with_log held row.inode h (Attr x ∷ []) a.fresh) after.pools
    lists_now {after} given =
        let taken = a.taken in
        let from_same = taken.same in
        let kept_lists = with_room.lists in
        data_lists (Attr x ∷ []) x.size count shows (mixed_same R (Loose l held)) extends moved a.mixed writes taken.from mid after (single_takes a.fresh) given.runs
        (subst (λ (pools : List (List Run)). KeepsFree l held pools) (sym from_same.pools) kept_lists) (from_same.sup ∙ lists) (takes_of taken) given.joined (omega arith) took (gave given)

    pub cut_follows : (after : FreeLists) → KeepsFree l (with_log held row.inode h (Attr x ∷ []) a.fresh) after.pools → LogFollows R S l held h (Attr x ∷ []) free.pools cpu row new after
    cut_follows after lists_then = (let has = settled.has in let row_grown = a.row in
        data_follows (Attr x ∷ []) x.size count shows (mixed_same R (Loose l held)) extends moved a.mixed writes free.pools mid.pools cpu taken_singly new after (has.inode ∙ row_grown.inode) told_now lists_then)

    -- a byte at the old end or behind it is zero
    zeros : (y : ℕ) → y < x.size → row.numbers.size ≤ y → (o : Option ℕ) → block_at row.index (y / 4096) ≡ o → byte_in R o y ≡ 0
    zeros y below past None at = refl
    zeros y below past (Some b) at =
        let begins = maps_below x can shows (y / 4096) b at in
        let page : y / 4096 ≡ row.numbers.size / 4096 = omega (arith, begins, past) in
        let longer = lt-ltb row.numbers.size x.size (omega (arith, below, past)) in
        let part : nat_eq (row.numbers.size % 4096) 0 ≡ false = (let rest : row.numbers.size % 4096 ≡ 0 → ⊥ = (λ none. omega (arith, none, begins, past)) in not_zero (row.numbers.size % 4096) rest) in
        let ends : end_block (block_at row.index) row.numbers.size x.size ≡ block_at row.index (row.numbers.size / 4096) = ap (λ (t : Bool). cond (t && not (nat_eq (row.numbers.size % 4096) 0)) (block_at row.index (row.numbers.size / 4096)) None) longer ∙ ap (λ (t : Bool). cond (not t) (block_at row.index (row.numbers.size / 4096)) None) part in
        absurd (none-some b (sym stays ∙ ends ∙ ap (block_at row.index) (sym page) ∙ at))
      where
        not_zero : (n : ℕ) → (n ≡ 0 → ⊥) → nat_eq n 0 ≡ false
        not_zero n differs = grind (arith, nat_tests)

    pub cut_bytes : SameBytes R S row new x.size
    cut_bytes y below =
        let told = shows.told in
        let row_grown = a.row in
        let off = lt-leb (div_ceil x.size 4096) (y / 4096) (before_end x.size (y / 4096) (omega (arith, below))) in
        let here : block_at new.index (y / 4096) ≡ block_at row.index (y / 4096) = index (y / 4096) ∙ ap (λ (t : Bool). cond t None (block_at grown.index (y / 4096))) off ∙ ap (λ (m : Pages). block_at m (y / 4096)) row_grown.index in
        let stored : byte_in S (block_at row.index (y / 4096)) y ≡ byte_in R (block_at row.index (y / 4096)) y = ap (λ (o : Option ℕ). byte_in S o y) (told.index (y / 4096)) ∙ data_bytes (Attr x ∷ []) x.size count shows (mixed_same R (Loose l held)) extends moved a.mixed writes row.inode h shows.holds y ∙ ap (λ (o : Option ℕ). byte_in R o y) (sym (told.index (y / 4096))) in
        ap (λ (o : Option ℕ). byte_in S o y) here ∙ stored ∙ (elim (cases_lt y row.numbers.size) [
          | inl low ↦ (let on = lt-ltb y row.numbers.size low in sym (ap (λ (t : Bool). cond t (byte_in R (block_at row.index (y / 4096)) y) 0) on))
          | inr high ↦ (let none = le-ltb y row.numbers.size high in zeros y below high (block_at row.index (y / 4096)) refl ∙ sym (ap (λ (t : Bool). cond t (byte_in R (block_at row.index (y / 4096)) y) 0) none))
        ])

  -- What the call makes of the file.
  pub cut_resizes : {after : FreeLists} → GivesPages mid grown.index (div_ceil x.size 4096) (div_ceil row.numbers.size 4096) after → Resizes R S l free cpu row x new after
  cut_resizes {after} given = record {
    to = None;
    copied = ap is_some (sym stays);
    between = free.pools;
    taken = refl;
    numbers = (let row_grown = a.row in since row_grown settled.has);
    fresh = λ held h shows b at. absurd (none-some b at);
    follows = λ held h shows. cut_follows shows after (lists_now shows given);
    bytes = λ held h shows. cut_bytes shows;
    zeros = λ held h shows. no_zeros S row.numbers.size x;
  }

  -- There are free lists for it, whatever was given back.
  pub cut_some : {held : Store} {h : Held} → ShowsRow R l held h row free → (after : FreeLists) × Resizes R S l free cpu row x new after × (after.sup ≡ free.sup)
  cut_some {held} {h} shows =
      let w = some_kept (data_sound (Attr x ∷ []) x.size (count shows) shows (mixed_same R (Loose l held)) (extends shows) (moved shows) a.mixed (writes shows)) in
      let keeps = w.2 in (
        record free { pools = w.1 },
        record {
          to = None;
          copied = ap is_some (sym stays);
          between = free.pools;
          taken = refl;
          numbers = (let row_grown = a.row in since row_grown settled.has);
          fresh = λ st g seen b at. absurd (none-some b at);
          follows = λ st g seen. cut_follows seen (record free { pools = w.1 }) (lists_any shows seen (Attr x ∷ []) a.fresh w.1 keeps.in_lists);
          bytes = λ st g seen. cut_bytes seen;
          zeros = λ st g seen. no_zeros S row.numbers.size x;
        },
        refl,
      )

-- ---- what is owed

-- What is known of a row stays where there is more room in the free lists.
pub stands_with : {R : Region} {l : Layout} {free reserved : FreeLists} {row : Row} → SameLists free reserved → StandsRight R l free row → StandsRight R l reserved row
stands_with {R} {l} {free} {reserved} {row} same stands = record {
  laid = stands.laid;
  lists = same.sup ∙ stands.lists;
  number = stands.number;
  whole = stands.whole;
  inside = stands.inside;
  aligned = stands.aligned;
  offset = stands.offset;
  blocks = stands.blocks;
  in_blocks = stands.in_blocks;
  used = λ cpu there. stands.used cpu (subst (λ (pools : List (List Run)). HasBlock (pool_at pools cpu) (row.tail / 4096)) same.pools there);
}

-- The blocks of its pages are in use once its log has grown.
pub own_grown : {R S : Region} {l : Layout} {free reserved mid : FreeLists} {cpu : ℕ} {row grown : Row} {entries : List Entry} → SameLists free reserved → AppendsLog R S l reserved mid cpu row grown entries → MapsOwn free row.index → MapsOwn mid grown.index
own_grown {R} {S} {l} {free} {reserved} {mid} {cpu} {row} {grown} same a own =
    let row_grown = a.row in
    subst (λ (m : Pages). MapsOwn mid m) (sym row_grown.index) (own_taken a.taken (record {
      in_data = λ p b at. subst (λ (t : Super). (system_blocks t ≤ b) × (b < t.blocks)) (sym same.sup) (own.in_data p b at);
      used = λ p b c at there. own.used p b c at (subst (λ (pools : List (List Run)). HasBlock (pool_at pools c) b) same.pools there);
      once = own.once;
    }))

-- the pages that were given back, by what their ends are
pub gives_as : {old new : FreeLists} {m : Pages} {first end from to : ℕ} → first ≡ from → end ≡ to → GivesPages old m first end new → GivesPages old m from to new
gives_as {old} {new} {m} {first} {end} {from} {to} same_first same_end given = subst (λ (n : ℕ). GivesPages old m n to new) same_first (subst (λ (n : ℕ). GivesPages old m first n new) same_end given)

-- what is left of the pages, by where they were cut
pub cut_as : (old new : Pages) {first from : ℕ} → first ≡ from → ((p : ℕ) → block_at new p ≡ cond (nat_le first p) None (block_at old p)) → (p : ℕ) → block_at new p ≡ cond (nat_le from p) None (block_at old p)
cut_as old new {first} {from} same cut_there = subst (λ (n : ℕ). (p : ℕ) → block_at new p ≡ cond (nat_le n p) None (block_at old p)) same cut_there

-- ---- a stop

-- the pages in front of one
abbrev pub cut_pages : ℕ → Pages → Pages
cut_pages first [] = []
cut_pages first (y ∷ m) = (y.0, cond (nat_le first y.0) None y.1) ∷ cut_pages first m

pub cut_at : (first : ℕ) (m : Pages) (p : ℕ) → block_at (cut_pages first m) p ≡ cond (nat_le first p) None (block_at m p)
cut_at first [] p = by (nat_le first p) where
  by : (b : Bool) → block_at [] p ≡ cond b None (block_at [] p)
  by true = refl
  by false = refl
cut_at first (y ∷ m) p = step (y.0 == p) refl (cut_at first m p) where
  step : (b : Bool) → (y.0 == p) ≡ b → block_at (cut_pages first m) p ≡ cond (nat_le first p) None (block_at m p) → cond b (cond (nat_le first y.0) None y.1) (block_at (cut_pages first m) p) ≡ cond (nat_le first p) None (cond b y.1 (block_at m p))
  step true here rest = let one : y.0 ≡ p = grind (arith, nat_tests) in ap (λ (n : ℕ). cond (nat_le first n) None y.1) one
  step false other rest = rest

-- the row of a file of a new size, by the row with its log grown
abbrev pub sized_row : Row → AttrEntry → Pages → Row
sized_row grown x index = record grown { numbers = record { size = x.size; mode = x.mode; owner = x.owner; group = x.group; links = grown.numbers.links; time = x.time }; index = index }

pub sized_settled : (grown : Row) (x : AttrEntry) (index : Pages) → Settled grown x (sized_row grown x index)
sized_settled grown x index = record { has = record { inode = refl; kind = refl; size = refl; mode = refl; owner = refl; group = refl; links = refl; time = refl; names = refl }; head = refl; tail = refl; pages = refl }

-- What a stop leaves of a size, by what it leaves of the log.
pub left_sized : {R : Region} {l : Layout} {free reserved : FreeLists} {cpu : ℕ} {row : Row} (x : AttrEntry) (can : CanResize R l free row x) (stays : end_block (block_at row.index) row.numbers.size x.size ≡ None) (same : SamePools free reserved) {held : Store} {h : Held} (shows : ShowsRow R l held h row free)
    → (left : Region) → LeavesEither R l held (Appended R l reserved cpu row (Attr x ∷ [])) left → LeavesEither R l held (Resized R l free cpu row x) left
left_sized x can stays same shows left (inl was) = inl was
left_sized {R} {l} {free} {reserved} {cpu} {row} x can stays same shows left (inr w) =
    let made = w.1 in
    let grown = made.1 in
    let first = div_ceil x.size 4096 in
    let new = sized_row grown x (cut_pages first grown.index) in
    let v = cut_some {new = new} x can stays same made.2 (sized_settled grown x (cut_pages first grown.index)) (cut_at first grown.index) shows in
    inr (w.0, (v.0, new, v.1, v.2))
