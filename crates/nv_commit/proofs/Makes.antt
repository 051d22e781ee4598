-- An inode that comes together with the entries that name it.
use Rattle.std.proofs.Common.{◌≡◌, ◌≢◌, ℕ, ◌+◌, ◌*◌, ◌/◌, ◌%◌, ◌<◌, ◌≤◌, inl, inr, IsTrue, true, List, [], ◌∷◌, ◌++◌, length, get_or, take, refl, ap, sym, ◌∙◌, subst, arith, Some, None}
use Rattle.std.specs.List.{Contains}
use Rattle.std.proofs.Math.Seq.{take-nil}
use Rattle.std.proofs.lemmas.List.{get_or_default}
use Rattle.std.proofs.lemmas.Bool.Decides.{eqb_tells, nat_tests}
use Rattle.nv_region.specs.Region.{Region, size, word, put}
use Rattle.nv_region.specs.Stops.{Choices, IsMixed, LeavesOnly, NothingPending}
use Rattle.nv_region.specs.Stored.{SameOutside, Stored, StoresOnly, Within}
use Rattle.nv_region.proofs.Stops.{mixed_left, mixed_same}
use Rattle.nv_region.proofs.Wordwise.{mixed_more, mixed_word, put_stored}
use Rattle.nv_super.specs.declared.owners.Owner.TheVariants as owners
use Rattle.nv_super.specs.Layout.{Layout, is_data_address, is_page_start}
use Rattle.nv_super.proofs.Rising.{Contains-cons}
use Rattle.nv_inode.specs.Chains.{IsLaid}
use Rattle.nv_inode.specs.Permitted.{is_permitted_by}
use Rattle.nv_inode.specs.declared.slot.Slot.{Slot}
use Rattle.nv_inode.specs.Slot.{is_right_log, with_slot}
use Rattle.nv_journal.specs.Undo.{dequeue, enqueue, journal}
use Rattle.nv_journal.specs.Pending.{BeforeOrAfter, CanUndo, IsEmpty}
use Rattle.nv_journal.specs.Faults.{NoJournalFault}
use Rattle.nv_inode.proofs.LayoutWords.{lies_behind}
use Rattle.nv_journal.specs.Recorded.{Two}
use Rattle.nv_logpage.specs.Append.{AppendWords, FreshFor, appended, needed}
use Rattle.nv_logpage.specs.Reads.{Reads, ends}
use Rattle.nv_logpage.proofs.Local.{ReadsOn-same}
use Rattle.nv_outcome.proofs.SuperOf.{blocks_of_super}
use Rattle.nv_mounted.specs.Held.{Held, Store, Shows, with_inode}
use Rattle.nv_mounted.specs.Blocks.{IsUnowned, OwnsIn}
use Rattle.nv_mounted.specs.Slots.{HaveNoSlots, SlotsClear}
use Rattle.nv_mounted.specs.Loose.{IsReady, Loose}
use Rattle.nv_mounted.specs.Front.{SameFront}
use Rattle.nv_mounted.specs.Grows.{grown}
use Rattle.nv_mounted.specs.Mounted.{ShowsSound}
use Rattle.nv_mounted.specs.Appended.{HasBehind}
use Rattle.nv_mounted.proofs.Appending.{page_start, tail_follows}
use Rattle.nv_mounted.proofs.BytesKept.{mixed_size}
use Rattle.nv_mounted.proofs.Commits.{log_stays, made, pages_clear, pages_grown, stored_outside}
use Rattle.nv_mounted.proofs.Fronts.{front_idle, loose_front, loose_sound, slot_front, tables_laid}
use Rattle.nv_mounted.proofs.Kept.{page_owner, tail_there}
use Rattle.nv_mounted.proofs.Owning.{other_held}
use Rattle.nv_mounted.proofs.Shown.{stands_at}
use Rattle.nv_commit.specs.declared.together.Extension.{Extension}
use Rattle.nv_commit.specs.declared.making.NewInode.{NewInode}
use Rattle.nv_commit.specs.Extends.{CanExtend}
use Rattle.nv_commit.specs.Together.{CanCommit, ShowsIdle}
use Rattle.nv_commit.specs.Makes.{BeforeOrMade, CanBegin, CanMake, PrepareWords, Prepares, begun, head_of, slot_with, with_made}
use Rattle.nv_commit.proofs.BothTails.{low_words, sound_undone}
use Rattle.nv_commit.proofs.Extends.{ends as parent_ends, front_more, loose_there, slots, stands_behind}
use Rattle.nv_commit.proofs.Permitted.{tail_permitted, valid_permitted}
use Rattle.nv_commit.proofs.TwoWords.{ByJournal, IsInSlot, no_fault, words_idle, words_undone}

-- ---- the words of a slot

module _ (R : Region) (a : ℕ) (slot : Slot) (whole : a % 8 ≡ 0) (inside : a + 40 ≤ size R) (short : length R.rest < 8) where
  abbrev first : Region
  first = put R (a + 8) slot.kind

  abbrev second : Region
  second = put first (a + 16) slot.head

  abbrev third : Region
  third = put second (a + 24) slot.tail

  one : Stored R (a + 8) slot.kind first
  one = put_stored R (a + 8) slot.kind (omega (arith, whole)) (omega (arith, inside)) short

  two : Stored first (a + 16) slot.head second
  two = put_stored first (a + 16) slot.head (omega (arith, whole)) (omega (arith, inside, one.len)) short

  three : Stored second (a + 24) slot.tail third
  three = put_stored second (a + 24) slot.tail (omega (arith, whole)) (omega (arith, inside, one.len, two.len)) short

  four : Stored third (a + 32) slot.created (with_slot R a slot)
  four = put_stored third (a + 32) slot.created (omega (arith, whole)) (omega (arith, inside, one.len, two.len, three.len)) short

  pub kind_there : word (with_slot R a slot) (a + 8) ≡ slot.kind
  kind_there = four.others (a + 8) (omega (arith, whole)) (λ e. omega (arith, e)) ∙ three.others (a + 8) (omega (arith, whole)) (λ e. omega (arith, e)) ∙ two.others (a + 8) (omega (arith, whole)) (λ e. omega (arith, e)) ∙ one.here

  pub head_there : word (with_slot R a slot) (a + 16) ≡ slot.head
  head_there = four.others (a + 16) (omega (arith, whole)) (λ e. omega (arith, e)) ∙ three.others (a + 16) (omega (arith, whole)) (λ e. omega (arith, e)) ∙ two.here

  pub tail_stands : word (with_slot R a slot) (a + 24) ≡ slot.tail
  tail_stands = four.others (a + 24) (omega (arith, whole)) (λ e. omega (arith, e)) ∙ three.here

  pub created_there : word (with_slot R a slot) (a + 32) ≡ slot.created
  created_there = four.here

-- what is stored in a slot behind its valid word leaves all words outside the slot
mixed_outside : (R S : Region) (a : ℕ) → IsMixed R (Within (a + 8) 32) S → SameOutside R a 128 S
mixed_outside R S a mixed = record {
  len = mixed_size mixed;
  as_long = mixed.as_long;
  same_rest = mixed.same_rest;
  before = λ b whole below. mixed_word R S (Within (a + 8) 32) b whole mixed (λ v w. let from = w.0 in omega (arith, from, whole, below));
  behind = λ b whole above. mixed_word R S (Within (a + 8) 32) b whole mixed (λ v w. let under = w.1 in omega (arith, under, whole, above));
}

-- ---- the journal in front of the page and the slot

pub journal_waits : {R S : Region} {cpu : ℕ} {n : NewInode} {x : Extension} → CanBegin R cpu n → CanCommit R cpu x → IsMixed R (PrepareWords n x) S → IsEmpty R cpu → IsEmpty S cpu
journal_waits {R} {S} {cpu} {n} {x} begin can mixed empty = (deq ∙ empty.0 ∙ sym enq, omega (arith, enq, empty.1)) where
  away : (at : ℕ) → at % 8 ≡ 0 → at < journal cpu + 4096 → (v : ℕ) → PrepareWords n x (at / 8) v → ⊥
  away at whole less v (inl (inl (inl w))) = let here = w.0 in omega (arith, here, whole, less, begin.page_behind)
  away at whole less v (inl (inl (inr w))) = let none = w.1 in omega (arith, none)
  away at whole less v (inl (inr w)) = let from = w.0 in omega (arith, from, whole, less, begin.slot_behind)
  away at whole less v (inr w) = low_words (journal cpu + 4096) x.tail x.fresh.now can.pages_behind at whole less v w

  deq : dequeue S cpu ≡ dequeue R cpu
  deq = mixed_word R S (PrepareWords n x) (journal cpu) (omega arith) mixed (away (journal cpu) (omega arith) (omega arith))

  enq : enqueue S cpu ≡ enqueue R cpu
  enq = mixed_word R S (PrepareWords n x) (journal cpu + 8) (omega arith) mixed (away (journal cpu + 8) (omega arith) (omega arith))

-- ---- what is loose, and what a stop leaves before the words change

module _ {R : Region} {l : Layout} {held : Store} {cpu j : ℕ} {n : NewInode} {i : ℕ} {h : Held} {x : Extension} (can : CanMake R l held cpu j n i h x) where
  -- what is prepared is loose
  pub prepared_loose : (k v : ℕ) → PrepareWords n x k v → Loose l held k v
  prepared_loose k v (inl (inl (inl w))) = let here = w.0 in let page : n.page ≡ 8 * k / 4096 = omega (arith, here) in inl (subst (IsUnowned l held) page can.page)
  prepared_loose k v (inl (inl (inr w))) = absurd (let none = w.1 in omega (arith, none))
  prepared_loose k v (inl (inr w)) = let from = w.0 in let below = w.1 in inr (inr (j, n.slot, can.at, can.unused, omega (arith, from), omega (arith, below)))
  prepared_loose k v (inr w) = loose_there can.parent k v w

  all_loose : (left : Region) → IsMixed R (PrepareWords n x) left → IsMixed R (Loose l held) left
  all_loose left mixed = mixed_more (Loose l held) (PrepareWords n x) R R left prepared_loose (mixed_same R (Loose l held)) mixed

  pub sound_before : (left : Region) → IsMixed R (PrepareWords n x) left → ShowsSound left l held
  sound_before left mixed = loose_sound R left l held can.parent.sound (all_loose left mixed)

  pub left_undone : (now : Region) (old new : Choices) → StoresOnly (PrepareWords n x) R now old new → NothingPending R old → LeavesOnly now new (BeforeOrMade l held j n i h x)
  left_undone now old new wrote settled left may = inl (sound_undone (sound_before left (mixed_left R now (PrepareWords n x) old new wrote.mixed.as_long wrote.mixed.same_rest settled wrote.adds left may)))

  pub differ : i ≢ j
  differ same = let e : Some h ≡ None = sym can.parent.holds ∙ ap held same ∙ can.unused in cc

  module _ {S : Region} {new last : ℕ} (done : Prepares R S n x new last) where
    clear : SlotsClear l held
    clear = slots can.parent

    logged_mixed : IsMixed R (PrepareWords n x) done.logged
    logged_mixed = mixed_more (PrepareWords n x) (AppendWords (head_of n) []) R R done.logged (λ k v w. inl (inl w)) (mixed_same R (PrepareWords n x)) done.log.wrote

    named_mixed : IsMixed R (PrepareWords n x) done.named
    named_mixed = mixed_more (PrepareWords n x) (AppendWords x.tail x.fresh.now) R done.logged done.named (λ k v w. inr w) logged_mixed done.parent.wrote

    mixed : IsMixed R (PrepareWords n x) S
    mixed = mixed_more (PrepareWords n x) (Within (n.slot + 8) 32) R done.named S (λ k v w. inl (inr w)) named_mixed done.slot_alone

    slot_outside : SameOutside done.named n.slot 128 S
    slot_outside = mixed_outside done.named S n.slot done.slot_alone

    between : CanExtend done.logged l held i h x.slot x.tail x.entries.now x.fresh.now
    between = record {
      sound = sound_before done.logged logged_mixed;
      at = can.parent.at;
      holds = can.parent.holds;
      tail_is = can.parent.tail_is;
      free = can.parent.free;
      differ = can.parent.differ;
      enough = can.parent.enough;
      given = can.parent.given;
      some = can.parent.some;
    }

    named_behind : HasBehind done.named l held h last (appended x.fresh.now 0 h.tail x.entries.now) (take (needed (h.tail % 4096) x.entries.now) x.fresh.now)
    named_behind = stands_behind between done.named last done.last_end done.parent

    behind : HasBehind S l held h last (appended x.fresh.now 0 h.tail x.entries.now) (take (needed (h.tail % 4096) x.entries.now) x.fresh.now)
    behind = record {
      shows = (sound_before S mixed).shows;
      right = named_behind.right;
      reads = log_stays l held done.named S (pages_clear clear) j n.slot can.at slot_outside named_behind.shows h.head last
          (h.entries ++ appended x.fresh.now 0 h.tail x.entries.now) (h.pages ++ take (needed (h.tail % 4096) x.entries.now) x.fresh.now) named_behind.right named_behind.clear named_behind.reads;
      clear = named_behind.clear;
    }

    same_size : size S ≡ size R
    same_size = mixed_size mixed

    front : SameFront l R S
    front = loose_front l held R S clear.stand can.parent.sound.faultless.undoubled can.parent.sound.shows (all_loose S mixed)

    laid : IsLaid l
    laid = tables_laid can.parent.sound.tables

    pub can_undo : length R.rest < 8 → CanUndo (is_permitted_by l) l.sup.cpus S cpu n.slot (x.slot + 24)
    can_undo short = record {
      rule = lies_behind l laid;
      journals = (let blocks = blocks_of_super R l.sup can.parent.sound.sup in let long : size R ≡ 8 * length R.words + length R.rest = refl in omega (arith, laid.layout.areas.room, blocks, long, short, mixed.as_long));
      inside = can.journals;
      permits_first = valid_permitted l j n.slot laid can.at;
      permits_second = tail_permitted l i x.slot laid can.parent.at;
      quiet = λ c below sound. (front_idle R S l front can.parent.sound.idle c below).1;
    }

    pub faultless : NoJournalFault (is_permitted_by l) l.sup.cpus S
    faultless = no_fault can.parent.sound front

    -- ---- the new log

    start : IsTrue (is_page_start l.sup (head_of n))
    start = page_start l.sup n.page can.page.from can.page.below

    address : IsTrue (is_data_address l.sup (head_of n))
    address = let begins = start in grind (arith, nat_tests)

    right : is_right_log l.sup (head_of n) new ≡ true
    right = done.log.right l.sup (head_of n) start address (λ k below. absurd (omega (arith, below))) (inr can.some)

    at_head : Reads R l.sup (head_of n) (head_of n) [] (head_of n / 4096 ∷ []) None
    at_head = elim (eqb_tells (head_of n) (head_of n)) [ inl w ↦ ends (rw w.0 refl) | inr w ↦ absurd (w.1 refl) ]

    nothing_fresh : FreshFor l.sup [] (head_of n / 4096 ∷ [])
    nothing_fresh = record { starts = λ k below. absurd (omega (arith, below)); apart = λ k below. absurd (omega (arith, below)) }

    read_logged : Reads done.logged l.sup (head_of n) new (appended [] 0 (head_of n) n.entries.now) (n.page ∷ []) None
    read_logged =
        let page : head_of n / 4096 ≡ n.page = omega arith in
        let none : take (needed (head_of n % 4096) n.entries.now) [] ≡ [] = take-nil (needed (head_of n % 4096) n.entries.now) in
        let all : (head_of n / 4096 ∷ []) ++ take (needed (head_of n % 4096) n.entries.now) [] ≡ n.page ∷ [] = λ k. page k ∷ none k in
        subst (λ (ps : List ℕ). Reads done.logged l.sup (head_of n) new (appended [] 0 (head_of n) n.entries.now) ps None) all (done.log.reads l.sup (head_of n) [] (head_of n / 4096 ∷ []) start nothing_fresh at_head)

    -- no word of the page changes with the slot or with the directory's log
    tail_page : Contains h.pages (h.tail / 4096)
    tail_page = let v = stands_at can.parent.sound.shows i h can.parent.holds in tail_there v.is.right v.is.reads

    fresh_there : (k : ℕ) → k < length x.fresh.now → Contains x.fresh.now (get_or x.fresh.now k 0)
    fresh_there k below = (k, below, get_or_default x.fresh.now k (get_or x.fresh.now k 0) 0 below)

    not_tail : h.tail / 4096 ≢ n.page
    not_tail same = let mine = page_owner l held i (h.tail / 4096) h can.parent.holds tail_page in can.page.unowned (owners.Log i mine.0) (subst (λ (b : ℕ). OwnsIn l held b (owners.Log i mine.0)) same mine.1)

    off_page : (a : ℕ) → a % 8 ≡ 0 → a / 4096 ≡ n.page → (v : ℕ) → AppendWords x.tail x.fresh.now (a / 8) v → ⊥
    off_page a whole page v (inl w) = let here = w.0 in not_tail (omega (arith, here, whole, page, can.parent.tail_is))
    off_page a whole page v (inr w) = let here = w.2 in let same : get_or x.fresh.now w.0 0 ≡ n.page = omega (arith, here, whole, page) in can.apart (subst (Contains x.fresh.now) same (fresh_there w.0 w.1))

    page_word : (a : ℕ) → a % 8 ≡ 0 → a / 4096 ≡ n.page → word S a ≡ word done.logged a
    page_word a whole page =
        mixed_word done.named S (Within (n.slot + 8) 32) a whole done.slot_alone (λ v w. (let from = w.0 in let below = w.1 in clear.unfree n.page can.page j n.slot can.at (omega (arith, from, below, whole, page, clear.whole j n.slot can.at))))
        ∙ mixed_word done.logged done.named (AppendWords x.tail x.fresh.now) a whole done.parent.wrote (off_page a whole page)

    one_only : (b : ℕ) → Contains (n.page ∷ []) b → b ≡ n.page
    one_only b c = elim (Contains-cons n.page [] b c) [ inl same ↦ same | inr rest ↦ absurd (let none = rest.1 in omega (arith, none)) ]

    read_there : Reads S l.sup (head_of n) new (appended [] 0 (head_of n) n.entries.now) (n.page ∷ []) None
    read_there = ReadsOn-same S (λ b c a whole page. page_word a whole (page ∙ one_only b c)) (0, omega arith, refl) (omega arith) (omega arith) read_logged

    no_slots : HaveNoSlots l (n.page ∷ [])
    no_slots b c = clear.unfree b (subst (IsUnowned l held) (sym (one_only b c)) can.page)

    slot_word : (m : ℕ) → word S (n.slot + m) ≡ word (with_slot done.named n.slot (slot_with n new)) (n.slot + m)
    slot_word m = ap (λ (Q : Region). word Q (n.slot + m)) done.slot

    -- both words changed, by puts of these numbers
    module _ (slot_inside : n.slot + 40 ≤ size R) (tail_inside : x.slot + 32 ≤ size R) (short : length R.rest < 8) where
      named_size : size done.named ≡ size R
      named_size = mixed_size named_mixed

      named_short : length done.named.rest < 8
      named_short = subst (λ (r : List ℕ). length r < 8) (sym named_mixed.same_rest) short

      whole8 : n.slot % 8 ≡ 0
      whole8 = omega (arith, clear.whole j n.slot can.at)

      inside8 : n.slot + 40 ≤ size done.named
      inside8 = omega (arith, slot_inside, named_size)

      ready : IsReady S l n.slot (begun n)
      ready = record {
        kind = slot_word 8 ∙ kind_there done.named n.slot (slot_with n new) whole8 inside8 named_short;
        head = slot_word 16 ∙ head_there done.named n.slot (slot_with n new) whole8 inside8 named_short;
        tail = slot_word 24 ∙ tail_stands done.named n.slot (slot_with n new) whole8 inside8 named_short ∙ done.first_end;
        created = slot_word 32 ∙ created_there done.named n.slot (slot_with n new) whole8 inside8 named_short;
        right = subst (λ (t : ℕ). is_right_log l.sup (head_of n) t ≡ true) done.first_end right;
        reads = subst (λ (t : ℕ). Reads S l.sup (head_of n) t (appended [] 0 (head_of n) n.entries.now) (n.page ∷ []) None) done.first_end read_there;
      }

      abbrev there : Region
      there = put S n.slot 1

      abbrev both : Region
      both = put there (x.slot + 24) last

      short_now : length S.rest < 8
      short_now = subst (λ (r : List ℕ). length r < 8) (sym mixed.same_rest) short

      first_stored : Stored S n.slot 1 there
      first_stored = put_stored S n.slot 1 whole8 (omega (arith, slot_inside, same_size)) short_now

      second_stored : Stored there (x.slot + 24) last both
      second_stored = put_stored there (x.slot + 24) last (omega (arith, clear.whole i x.slot can.parent.at)) (omega (arith, tail_inside, same_size, first_stored.len)) short_now

      first_outside : SameOutside S n.slot 128 there
      first_outside =
          let plus : n.slot + 0 ≡ n.slot = omega arith in
          stored_outside S there n.slot 0 1 (clear.whole j n.slot can.at) refl (omega arith) (subst (λ (m : ℕ). Stored S m 1 there) (sym plus) first_stored)

      second_outside : SameOutside there x.slot 128 both
      second_outside = stored_outside there both x.slot 24 last (clear.whole i x.slot can.parent.at) (omega arith) (omega arith) second_stored

      abbrev first_held : Store
      first_held = with_inode held j (Some (begun n))

      first_shows : Shows there l first_held
      first_shows = made l held S there j n.slot (begun n) (pages_clear clear) can.at ready no_slots first_stored behind.shows

      parent_held : first_held i ≡ Some h
      parent_held = other_held held j i (Some (begun n)) differ ∙ can.parent.holds

      parent_then : HasBehind there l first_held h last (appended x.fresh.now 0 h.tail x.entries.now) (take (needed (h.tail % 4096) x.entries.now) x.fresh.now)
      parent_then = record {
        shows = first_shows;
        right = behind.right;
        reads = log_stays l held S there (pages_clear clear) j n.slot can.at first_outside behind.shows h.head last
            (h.entries ++ appended x.fresh.now 0 h.tail x.entries.now) (h.pages ++ take (needed (h.tail % 4096) x.entries.now) x.fresh.now) behind.right behind.clear behind.reads;
        clear = behind.clear;
      }

      both_show : Shows both l (with_made held j n i h x)
      both_show =
          subst (λ (m : ℕ). Shows both l (with_inode first_held i (Some (grown h m (appended x.fresh.now 0 h.tail x.entries.now) (take (needed (h.tail % 4096) x.entries.now) x.fresh.now))))) (parent_ends between done.named last done.last_end done.parent)
          (tail_follows l first_held there both i x.slot last h (appended x.fresh.now 0 h.tail x.entries.now) (take (needed (h.tail % 4096) x.entries.now) x.fresh.now)
          (pages_grown l held j (begun n) (pages_clear clear) no_slots) can.parent.at parent_held parent_then second_stored)

      both_front : SameFront l R both
      both_front = front_more front (front_more (slot_front l S there j n.slot clear.stand can.at first_outside) (slot_front l there both i x.slot clear.stand can.parent.at second_outside))

      -- after the change of both words, and while they change
      abbrev these : Choices
      these = Two n.slot 1 (x.slot + 24) last

      inside : (k v : ℕ) → these k v → IsInSlot l k
      inside k v (inl w) = let number = w.0 in let whole = clear.whole j n.slot can.at in (j, n.slot, can.at, omega (arith, number, whole), omega (arith, number, whole))
      inside k v (inr w) = let number = w.0 in let whole = clear.whole i x.slot can.parent.at in (i, x.slot, can.parent.at, omega (arith, number, whole), omega (arith, number, whole))

      pub made_idle : (N : Region) → SameOutside both (journal cpu) 4096 N → IsEmpty N cpu → IsMixed S (ByJournal cpu these) N → ShowsIdle N l (with_made held j n i h x)
      made_idle N outside empty = words_idle these inside can.parent.sound clear.stand can.journals front behind.shows both_front both_show N outside empty

      pub made_undone : (left : Region) → BeforeOrAfter (is_permitted_by l) l.sup.cpus S n.slot 1 (x.slot + 24) last left → NoJournalFault (is_permitted_by l) l.sup.cpus left → IsMixed S (ByJournal cpu these) left → BeforeOrMade l held j n i h x left
      made_undone left either none = words_undone these inside can.parent.sound clear.stand can.journals front behind.shows both_front both_show left either none
