-- Regions with the same superblock, journals and links, and those with the same words behind the journals.
use Rattle.std.proofs.Common.{◌≡◌, ℕ, ◌+◌, ◌*◌, ◌/◌, ◌%◌, ◌<◌, ◌≤◌, ◌&&◌, nat_lt, inl, inr, length, refl, ap, sym, ◌∙◌, subst, arith, Option, Some, None}
use Rattle.std.proofs.lemmas.Bool.{cases_lt}
use Rattle.nv_region.specs.Region.{Region, word}
use Rattle.nv_region.specs.Stops.{IsMixed}
use Rattle.nv_region.specs.Stored.{SameOutside}
use Rattle.nv_region.proofs.Wordwise.{mixed_word}
use Rattle.nv_super.specs.declared.owners.Owner.TheVariants as owners
use Rattle.nv_super.specs.Layout.{Layout, slot_of, system_blocks}
use Rattle.nv_super.specs.Super.{IsSuper}
use Rattle.nv_super.proofs.Accepted.{super_stays}
use Rattle.nv_inode.specs.Chains.{IsLaid, first_link}
use Rattle.nv_inode.proofs.ReadChains.{region_laid}
use Rattle.nv_journal.specs.Undo.{dequeue, enqueue, is_sound, journal}
use Rattle.nv_logpage.proofs.Local.{ReadsOn-same}
use Rattle.nv_outcome.proofs.SuperOf.{layout_of_super}
use Rattle.nv_mounted.specs.Held.{Held, Store, Shows, ShowsSlot}
use Rattle.nv_mounted.specs.Blocks.{NoneDoubled, by_table}
use Rattle.nv_mounted.specs.Slots.{SlotsStand, SlotsClear}
use Rattle.nv_mounted.specs.Loose.{Loose}
use Rattle.nv_mounted.specs.Front.{SameFront, SameBehind}
use Rattle.nv_mounted.specs.Mounted.{AreIdle, HasTables, ShowsSound, IsFaultless}
use Rattle.nv_mounted.proofs.Shown.{stands_at}
use Rattle.nv_mounted.proofs.Clear.{slots_clear}
use Rattle.nv_mounted.proofs.Kept.{head_whole, page_owner, pages_data, tail_there, loose_shown}
use Rattle.nv_outcome.proofs.SameChains.{laid_there, same_ends}

-- ---- the front

pub front_super : (R S : Region) (l : Layout) → SameFront l R S → IsSuper R l.sup → IsSuper S l.sup
front_super R S l front = super_stays R S front.len (λ at whole low. front.words at whole (omega (arith, low))) l.sup

pub front_tables : (R S : Region) (l : Layout) → SameFront l R S → HasTables R l → HasTables S l
front_tables R S l front has = record {
  sup = front_super R S l front has.sup;
  laid = laid_there R S l has.laid firsts front.links;
  ended = same_ends R S l has.laid firsts front.links ∙ has.ended;
} where
  firsts : (c : ℕ) → c < l.sup.cpus → word S (first_link c) ≡ word R (first_link c)
  firsts c below = front.words (first_link c) (omega arith) (omega (arith, below))

pub front_idle : (R S : Region) (l : Layout) → SameFront l R S → AreIdle l.sup.cpus R → AreIdle l.sup.cpus S
front_idle R S l front idle cpu below =
    let d : dequeue S cpu ≡ dequeue R cpu = front.words (journal cpu) (omega arith) (omega (arith, below)) in
    let e : enqueue S cpu ≡ enqueue R cpu = front.words (journal cpu + 8) (omega arith) (omega (arith, below)) in
    let same : is_sound S cpu ≡ is_sound R cpu = λ i. nat_lt (d i) 252 && nat_lt (e i) 252 in
    let w = idle cpu below in
    (same ∙ w.0, d ∙ w.1 ∙ sym e)

-- a slot stands behind the front
pub slot_front : (l : Layout) (R S : Region) (i a : ℕ) → SlotsStand l → slot_of l i ≡ Some a → SameOutside R a 128 S → SameFront l R S
slot_front l R S i a slots at same = record {
  len = same.len;
  words = λ x whole low. same.before x whole (omega (arith, low, slots.behind i a at));
  links = λ c k b has. elim (cases_lt (4096 * b) a) [
    | inl low ↦ same.before (4096 * b) (omega arith) low
    | inr high ↦ same.behind (4096 * b) (omega arith) (let other = slots.unlinked i a c k b at has in omega (arith, high, slots.whole i a at, other))
  ];
}

-- and so do the words that nothing is read from
pub loose_front : (l : Layout) (held : Store) (R left : Region) → SlotsStand l → NoneDoubled l held → Shows R l held → IsMixed R (Loose l held) left → SameFront l R left
loose_front l held R left slots undoubled shows mixed = record {
  len = λ i. 8 * mixed.as_long i + length (mixed.same_rest i);
  words = λ x whole low. mixed_word R left (Loose l held) x whole mixed (λ v loose. elim loose [
    | inl free ↦ omega (arith, free.from, low, whole)
    | inr other ↦ elim other [
      | inl w ↦ (let v = stands_at shows w.0 w.1 w.2 in omega (arith, pages_data v.is.right v.is.reads (w.1.tail / 4096) (tail_there v.is.right v.is.reads), w.3, low, whole))
      | inr w ↦ omega (arith, slots.behind w.0 w.1 w.2, w.4, low, whole)
    ]
  ]);
  links = λ c k b has. mixed_word R left (Loose l held) (4096 * b) (omega arith) mixed (λ v loose. elim loose [
    | inl free ↦ free.unowned (owners.Table c k) (by_table (has ∙ ap Some (same_block b)))
    | inr other ↦ elim other [
      | inl w ↦ (
          let there = stands_at shows w.0 w.1 w.2 in
          let mine = page_owner l held w.0 (w.1.tail / 4096) w.1 w.2 (tail_there there.is.right there.is.reads) in
          no_log c k w.0 mine.0 (undoubled (w.1.tail / 4096) (owners.Table c k) (owners.Log w.0 mine.0) (by_table (has ∙ ap Some (same_block b ∙ w.3))) mine.1))
      | inr w ↦ omega (arith, slots.whole w.0 w.1 w.2, w.4, w.5)
    ]
  ]);
} where
  same_block : (b : ℕ) → b ≡ 8 * (4096 * b / 8) / 4096
  same_block b = omega arith

  no_log : (c k j n : ℕ) → owners.Table c k ≡ owners.Log j n → ⊥
  no_log c k j n e = cc

-- the layout is one that a region can have
pub tables_laid : {R : Region} {l : Layout} → HasTables R l → IsLaid l
tables_laid {R} {l} has = subst IsLaid (sym has.laid) (region_laid l.sup R (layout_of_super R l.sup has.sup))

-- where slots stand in a sound region
pub sound_clear : {R : Region} {l : Layout} {held : Store} → ShowsSound R l held → SlotsClear l held
sound_clear {R} {l} {held} m = slots_clear R l held (tables_laid m.tables) m.faultless.undoubled m.shows

-- What a region with the same front shows.
pub sound_moves : (R S : Region) (l : Layout) (held after : Store) → ShowsSound R l held → SameFront l R S → Shows S l after → IsFaultless l after → ShowsSound S l after
sound_moves R S l held after m front shows faultless = record {
  tables = front_tables R S l front m.tables;
  idle = front_idle R S l front m.idle;
  shows = shows;
  faultless = faultless;
}

-- What is stored in loose words changes nothing that is shown, and nothing is wrong with it.
pub loose_sound : (R left : Region) (l : Layout) (held : Store) → ShowsSound R l held → IsMixed R (Loose l held) left → ShowsSound left l held
loose_sound R left l held m mixed =
    let slots : SlotsClear l held = sound_clear m in
    sound_moves R left l held held m (loose_front l held R left slots.stand m.faultless.undoubled m.shows mixed)
    (loose_shown l held R left slots m.faultless.undoubled m.shows mixed) m.faultless

-- ---- behind the front

module _ (l : Layout) (held : Store) (R S : Region) (slots : SlotsStand l) (same : SameBehind l.sup.cpus R S) where
  slot_same : (i a : ℕ) → slot_of l i ≡ Some a → (o : Option Held) → ShowsSlot R l a o → ShowsSlot S l a o
  slot_same i a at None no_word = same a (omega (arith, slots.whole i a at)) (slots.behind i a at) ∙ no_word
  slot_same i a at (Some h) holds =
      let word_same : (m : ℕ) → m % 8 ≡ 0 → word S (a + m) ≡ word R (a + m) = (λ m whole. same (a + m) (omega (arith, whole, slots.whole i a at)) (omega (arith, slots.behind i a at))) in
      let first = same a (omega (arith, slots.whole i a at)) (slots.behind i a at) in
      let start : h.head % 4096 ≡ 0 = head_whole l.sup h.head h.tail holds.right in
      record {
        kind = rw (first, word_same 8 refl) holds.kind;
        head = word_same 16 refl ∙ holds.head;
        tail = word_same 24 refl ∙ holds.tail;
        created = word_same 32 refl ∙ holds.created;
        right = holds.right;
        reads = ReadsOn-same S (λ b in_all x whole page. same x whole (let d : system_blocks l.sup ≤ b = pages_data holds.right holds.reads b in_all in omega (arith, d, page)))
            (0, omega arith, refl) (omega (arith, start)) (omega (arith, start)) holds.reads;
      }

  -- A region with the same tables and data blocks shows the same.
  pub shown_same : Shows R l held → Shows S l held
  shown_same shows = record { slots = λ i a at. slot_same i a at (held i) (shows.slots i a at); only = shows.only }
