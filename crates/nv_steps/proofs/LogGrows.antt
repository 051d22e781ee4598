-- A log that grows by entries, told of its row: what is owed before, and what follows where names and blocks stay.
use Rattle.std.proofs.Common.{◌≡◌, ℕ, ◌+◌, ◌*◌, ◌/◌, ◌%◌, ◌<◌, ◌≤◌, ◌⊎◌, inl, inr, List, ◌∷◌, ◌++◌, eqb, length, get_or, take, take_all, ap, sym, ◌∙◌, subst, arith, Some, zero, suc}
use Rattle.std.specs.List.{IsDistinct}
use Rattle.std.proofs.lemmas.List.{get_or_default}
use Rattle.nv_region.specs.Region.{Region, size}
use Rattle.nv_region.specs.Stops.{IsMixed, One}
use Rattle.nv_region.proofs.Stops.{mixed_same}
use Rattle.nv_region.proofs.Wordwise.{mixed_more}
use Rattle.nv_super.specs.declared.superblock.Super.{Super}
use Rattle.nv_super.specs.Layout.{Layout, slot_of}
use Rattle.nv_alloc.specs.FreeValue.{FreeLists}
use Rattle.nv_entry.specs.declared.entry.Entry.{Entry}
use Rattle.nv_logpage.specs.Append.{AreGiven, CanAppend, EndBy, appended, end_of, needed}
use Rattle.nv_logpage.proofs.DataBlocks.{one_page, pages_are}
use Rattle.nv_logpage.proofs.RightLogs.{head_starts}
use Rattle.nv_scan.specs.State.{block_of}
use Rattle.nv_scan.specs.declared.piece.Row.{Row}
use Rattle.nv_mounted.specs.Held.{Held, Store, Shows, good_in}
use Rattle.nv_mounted.specs.Blocks.{NoneDoubled}
use Rattle.nv_mounted.specs.Bytes.{byte_of}
use Rattle.nv_mounted.specs.Grows.{AreFree, NoEntryFault, SameFile, SameNames}
use Rattle.nv_mounted.specs.Loose.{Loose}
use Rattle.nv_mounted.specs.Mounted.{IsFaultless, KeepsRow, ShowsSound}
use Rattle.nv_mounted.specs.Slots.{SlotsClear}
use Rattle.nv_mounted.proofs.BytesKept.{data_stays, no_loose_data}
use Rattle.nv_mounted.proofs.Faultless.{still_faultless}
use Rattle.nv_mounted.proofs.Fronts.{sound_moves}
use Rattle.nv_mounted.proofs.Growing.{grown_owns, free_but}
use Rattle.nv_mounted.proofs.Owning.{same_held}
use Rattle.nv_mounted.proofs.Shown.{stands_at}
use Rattle.nv_commit.specs.Extends.{CanExtend, ExtendWords, ShowsMoved, extended, with_log}
use Rattle.nv_commit.proofs.Extends.{loose_there, slots}
use Rattle.nv_steps.specs.Grown.{HasGrown, StandsRight}
use Rattle.nv_steps.specs.Steps.{AppendsLog, LogFollows, ShowsRow}
use Rattle.nv_steps.specs.Taken.{TakesEach}
use Rattle.nv_steps.proofs.TakenBlocks.{all_differ, are_free, differ_with, each_in_data, lists_without}
use Rattle.nv_steps.proofs.OneByOne.{by_rule}
use Rattle.nv_steps.proofs.SlotPlaces.{slot_known}
use Rattle.nv_steps.specs.Slots.{slot_in}

-- ---- what is owed

-- Entries can be written behind the tail of a row's log.
pub can_append : {R : Region} {l : Layout} {free after : FreeLists} {cpu : ℕ} {row : Row} {fresh : List ℕ} (entries : List Entry) → StandsRight R l free row → TakesEach free cpu fresh after → length fresh ≡ needed (row.tail % 4096) entries → AreGiven entries
    → CanAppend R row.tail entries fresh
can_append {R} {l} {free} {after} {cpu} {row} {fresh} entries stands taken count given = record {
  whole = stands.aligned;
  offset = stands.offset;
  given = given;
  enough = omega (arith, count);
  differ = differ_with taken (row.tail / 4096) stands.used;
  inside = inside;
} where
  inside : EndBy (row.tail / 4096 ∷ fresh) (size R)
  inside zero below = (let blocks = stands.blocks in let page = stands.in_blocks in omega (arith, blocks, page))
  inside (suc j) below =
      let data_block = each_in_data taken (get_or fresh j 0) (j, omega (arith, below), get_or_default fresh j (get_or fresh j 0) 0 (omega (arith, below))) in
      let under = data_block.1 in
      let blocks = stands.blocks in
      let lists : free.sup.blocks ≡ l.sup.blocks = ap (λ (t : Super). t.blocks) stands.lists in
      omega (arith, under, blocks, lists)

-- the slot of a row's inode
pub slot_there : {R : Region} {l : Layout} {held : Store} (i : ℕ) (h : Held) → Shows R l held → held i ≡ Some h → slot_of l i ≡ Some (slot_in l i)
slot_there {R} {l} {held} i h shows is = let v = stands_at shows i h is in v.at ∙ ap (λ (a : ℕ). Some a) (slot_known l i v.a v.at)

module _ {R : Region} {l : Layout} {held : Store} {h : Held} {row : Row} {free after : FreeLists} {cpu : ℕ} {fresh : List ℕ} (entries : List Entry)
    (shows : ShowsRow R l held h row free) (lists : free.sup ≡ l.sup) (taken : TakesEach free cpu fresh after) (count : length fresh ≡ needed (row.tail % 4096) entries) (given : AreGiven entries) (some : 0 < length entries) where
  tails : h.tail ≡ row.tail
  tails = (let kept = shows.told in sym kept.tail)

  pub fresh_free : AreFree l held fresh
  fresh_free = are_free taken l held shows.lists lists

  pub can_extend : CanExtend R l held row.inode h (slot_in l row.inode) row.tail entries fresh
  can_extend = record {
    sound = shows.sound;
    at = (let sound = shows.sound in slot_there row.inode h sound.shows shows.holds);
    holds = shows.holds;
    tail_is = tails;
    free = fresh_free;
    differ = all_differ taken;
    enough = omega (arith, count);
    given = given;
    some = some;
  }

  pub count_held : length fresh ≡ needed (h.tail % 4096) entries
  count_held = count ∙ ap (λ (t : ℕ). needed (t % 4096) entries) (sym tails)

  pub all_fresh : take (needed (h.tail % 4096) entries) fresh ≡ fresh
  all_fresh = take_all (needed (h.tail % 4096) entries) fresh (omega (arith, count_held))

  pub pages_now : (extended h entries fresh).pages ≡ h.pages ++ fresh
  pages_now = ap (λ (more : List ℕ). h.pages ++ more) all_fresh

-- ---- the bytes of files

-- a slot's word is in no block of a file
no_slot_data : (l : Layout) (held : Store) (j slot new : ℕ) → SlotsClear l held → slot_of l j ≡ Some slot → (i p b : ℕ) (h : Held) → held i ≡ Some h → block_of (good_in l h) p ≡ Some b
    → (k v : ℕ) → 8 * k / 4096 ≡ b → One (slot + 24) new k v → ⊥
no_slot_data l held j slot new slots at i p b h is maps k v block one =
    let whole = slots.whole j slot at in
    let word_is : k ≡ (slot + 24) / 8 = one.0 in
    let same : slot / 4096 ≡ b = omega (arith, block, word_is, whole) in
    slots.unmapped i p b h is maps j slot at same

-- Where nothing else was stored, each byte of each file is where it was.
pub bytes_stay : (l : Layout) (held : Store) (R S : Region) (j slot new : ℕ) → SlotsClear l held → NoneDoubled l held → Shows R l held → slot_of l j ≡ Some slot → IsMixed R (λ k v. Loose l held k v ⊎ One (slot + 24) new k v) S
    → (i : ℕ) (h : Held) → held i ≡ Some h → (x : ℕ) → byte_of S l h x ≡ byte_of R l h x
bytes_stay l held R S j slot new slots undoubled shows at mixed i h is = data_stays l (λ k v. Loose l held k v ⊎ One (slot + 24) new k v) R S h mixed (λ p b k v maps block w. elim w [
  | inl loose ↦ no_loose_data l held R i h slots undoubled shows is p b k v maps block loose
  | inr one ↦ no_slot_data l held j slot new slots at i p b h is maps k v block one
])

module _ {R S : Region} {l : Layout} {held : Store} {i : ℕ} {h : Held} {slot tail : ℕ} {entries : List Entry} {fresh : List ℕ} (can : CanExtend R l held i h slot tail entries fresh) where
  -- The words that an extension stores.
  pub extend_mixed : IsMixed R (ExtendWords slot tail entries fresh) S → IsMixed R (λ k v. Loose l held k v ⊎ One (slot + 24) (end_of fresh 0 tail entries) k v) S
  extend_mixed mixed = mixed_more (λ k v. Loose l held k v ⊎ One (slot + 24) (end_of fresh 0 tail entries) k v) (ExtendWords slot tail entries fresh) R R S
      (λ k v w. elim w [ inl appended ↦ inl (loose_there can k v appended) | inr moved ↦ inr moved ])
      (mixed_same R (λ k v. Loose l held k v ⊎ One (slot + 24) (end_of fresh 0 tail entries) k v)) mixed

  pub extended_bytes : IsMixed R (ExtendWords slot tail entries fresh) S → (j : ℕ) (g : Held) → held j ≡ Some g → (x : ℕ) → byte_of S l g x ≡ byte_of R l g x
  extended_bytes mixed = let sound = can.sound in let faultless = sound.faultless in bytes_stay l held R S i slot (end_of fresh 0 tail entries) (slots can) faultless.undoubled sound.shows can.at (extend_mixed mixed)

  -- No page of the log stands twice.
  pub pages_once : ShowsMoved R l (with_log held i h entries fresh) S → IsDistinct eqb (extended h entries fresh).pages
  pages_once moved =
      let at = stands_at moved.shows i (extended h entries fresh) (same_held held i (Some (extended h entries fresh))) in
      let pages = pages_are (one_page l.sup h.head (head_starts l.sup h.head (extended h entries fresh).tail at.is.right)) at.is.reads in
      pages.once

-- ---- where names and blocks stay

module _ {R S : Region} {l : Layout} {held : Store} {h : Held} {row : Row} {free after : FreeLists} {cpu : ℕ} {fresh : List ℕ} (entries : List Entry)
    (shows : ShowsRow R l held h row free) (lists : free.sup ≡ l.sup) (taken : TakesEach free cpu fresh after) (count : length fresh ≡ needed (row.tail % 4096) entries) (given : AreGiven entries) (some : 0 < length entries)
    (moved : ShowsMoved R l (with_log held row.inode h entries fresh) S) (mixed : IsMixed R (ExtendWords (slot_in l row.inode) row.tail entries fresh) S)
    (names : SameNames l h (extended h entries fresh)) (file : SameFile l h (extended h entries fresh))
    (clean : NoEntryFault l.sup h.kind row.inode (extended h entries fresh).entries) where
  can : CanExtend R l held row.inode h (slot_in l row.inode) row.tail entries fresh
  can = can_extend entries shows lists taken count given some

  faultless : IsFaultless l (with_log held row.inode h entries fresh)
  faultless =
      let sound = shows.sound in
      let right = sound.faultless in
      still_faultless l held row.inode h (extended h entries fresh) shows.holds names clean
      (grown_owns l held row.inode h (extended h entries fresh) shows.holds fresh (pages_now entries shows lists taken count given some) (fresh_free entries shows lists taken count given some) file right.undoubled (pages_once {S = S} can moved)) right

  sound : ShowsSound S l (with_log held row.inode h entries fresh)
  sound = sound_moves R S l held (with_log held row.inode h entries fresh) shows.sound moved.front moved.shows faultless

  -- The log has grown, and nothing else has changed.
  pub log_follows : (new : Row) → new.inode ≡ row.inode → KeepsRow l (extended h entries fresh) new → LogFollows R S l held h entries free.pools cpu row new after
  log_follows new same kept = record {
    fresh = fresh;
    rest = after.pools;
    taken = by_rule taken;
    blocks = fresh_free entries shows lists taken count given some;
    count = count_held entries shows lists taken count given some;
    sound = sound;
    told = kept;
    inode = same;
    lists = lists_without taken l held shows.lists lists (with_log held row.inode h entries fresh)
        (free_but l held row.inode h (extended h entries fresh) shows.holds fresh (pages_now entries shows lists taken count given some) (fresh_free entries shows lists taken count given some) file);
    bytes = extended_bytes can mixed;
  }

-- ---- what an appended log is made of

-- An extension of a log that was prepared, and its row settled.
pub appends_log : {R S : Region} {l : Layout} {free after : FreeLists} {cpu : ℕ} {old new : Row} (entries : List Entry) (fresh given : List ℕ) (slot end : ℕ) → given ≡ fresh → slot ≡ slot_in l old.inode → TakesEach free cpu fresh after → length fresh ≡ needed (old.tail % 4096) entries
    → end ≡ end_of given 0 old.tail entries → HasGrown old fresh end new
    → ((held : Store) (h : Held) → CanExtend R l held old.inode h slot old.tail entries given → ShowsMoved R l (with_log held old.inode h entries given) S) → IsMixed R (ExtendWords slot old.tail entries given) S
    → AppendsLog R S l free after cpu old new entries
appends_log {R} {S} {l} {free} {after} {cpu} {old} {new} entries fresh given slot end same at taken count ends grown shows mixed = record {
  fresh = fresh;
  taken = taken;
  count = count;
  row = subst (λ (n : ℕ). HasGrown old fresh n new) (ends ∙ ap (λ (blocks : List ℕ). end_of blocks 0 old.tail entries) same) grown;
  moved = λ held h can. subst (λ (blocks : List ℕ). ShowsMoved R l (with_log held old.inode h entries blocks) S) same
      (shows held h (subst (λ (blocks : List ℕ). CanExtend R l held old.inode h slot old.tail entries blocks) (sym same) (subst (λ (a : ℕ). CanExtend R l held old.inode h a old.tail entries fresh) (sym at) can)));
  mixed = subst (λ (blocks : List ℕ). IsMixed R (ExtendWords (slot_in l old.inode) old.tail entries blocks) S) same (subst (λ (a : ℕ). IsMixed R (ExtendWords a old.tail entries given) S) at mixed);
}

-- Memory that is open past the region is open past all that is stored.
pub stores_within_region : {R : Region} {l : Layout} {free after : FreeLists} {cpu : ℕ} {row : Row} {fresh : List ℕ} (entries : List Entry) (given : List ℕ) (slot : ℕ) → StandsRight R l free row → TakesEach free cpu fresh after → length fresh ≡ needed (row.tail % 4096) entries → AreGiven entries → given ≡ fresh → slot ≡ slot_in l row.inode
    → (limit : ℕ) → size R ≤ limit → EndBy (row.tail / 4096 ∷ given) limit × (slot + 32 ≤ limit)
stores_within_region {R} {l} {free} {after} {cpu} {row} {fresh} entries given slot stands taken count allowed same at limit past = (
  subst (λ (blocks : List ℕ). EndBy (row.tail / 4096 ∷ blocks) limit) (sym same) (λ j below. (let can = can_append entries stands taken count allowed in let inside = can.inside j below in omega (arith, inside, past))),
  (let inside = stands.inside in omega (arith, inside, at, past)),
)
