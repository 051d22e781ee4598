-- What is stored in one slot changes one inode.
use Rattle.std.proofs.Common.{◌≡◌, ◌≢◌, ℕ, ◌+◌, ◌%◌, ◌<◌, ◌≤◌, true, false, ◌⊎◌, inl, inr, List, refl, ap, sym, ◌∙◌, subst, arith, Option, Some, None}
use Rattle.std.proofs.lemmas.Bool.{cases_eq, cases_lt}
use Rattle.std.proofs.lemmas.Bool.Decides.{eqb_tells}
use Rattle.std.proofs.Math.Dec.{eqb}
use Rattle.nv_region.specs.Region.{Region, word}
use Rattle.nv_region.specs.Stored.{Stored, SameOutside}
use Rattle.nv_super.specs.declared.kind.Kind.{Kind}
use Rattle.nv_super.specs.declared.kind.Kind.TheVariants.{File, Directory}
use Rattle.nv_super.specs.Kind.{kind_number}
use Rattle.nv_super.specs.Layout.{Layout, slot_of}
use Rattle.nv_super.proofs.Options.{some_is}
use Rattle.nv_inode.specs.Slot.{kind_at, is_right_log}
use Rattle.nv_logpage.specs.declared.found.Placed.{Placed}
use Rattle.nv_logpage.specs.Grows.{SamePage}
use Rattle.nv_logpage.specs.Reads.{Reads}
use Rattle.nv_logpage.proofs.Local.{ReadsOn-same}
use Rattle.nv_mounted.specs.Held.{Held, Store, HoldsInode, ShowsSlot, Shows, with_inode}
use Rattle.nv_mounted.specs.Slots.{HasNoSlot, HaveNoSlots, PagesClear, SlotsClear}
use Rattle.nv_mounted.specs.Loose.{IsReady}
use Rattle.nv_mounted.proofs.Shown.{holds_at}
use Rattle.nv_mounted.proofs.Kept.{head_whole}
use Rattle.nv_mounted.proofs.Owning.{other_held, same_held}

-- where no block that is free or a file's holds a slot either
pub pages_clear : {l : Layout} {held : Store} → SlotsClear l held → PagesClear l held
pages_clear slots = record { stand = slots.stand; unpaged = slots.unpaged }

-- It stays so where one inode has a log without slots in its pages, or is gone.
pub pages_grown : (l : Layout) (held : Store) (i : ℕ) (new : Held) → PagesClear l held → HaveNoSlots l new.pages → PagesClear l (with_inode held i (Some new))
pages_grown l held i new slots own = record {
  stand = slots.stand;
  unpaged = λ j g is. elim (cases_eq j i) [
    | inl same ↦ subst (λ (o : Held). HaveNoSlots l o.pages) (some_is new g (Some new) refl (sym (same_held held i (Some new)) ∙ ap (with_inode held i (Some new)) (sym same) ∙ is)) own
    | inr differs ↦ slots.unpaged j g (sym (other_held held i j (Some new) differs) ∙ is)
  ];
}

pub pages_gone : (l : Layout) (held : Store) (i : ℕ) → PagesClear l held → PagesClear l (with_inode held i None)
pages_gone l held i slots = record {
  stand = slots.stand;
  unpaged = λ j g is. elim (cases_eq j i) [
    | inl same ↦ absurd (let clash : None ≡ Some g = sym (same_held held i None) ∙ ap (with_inode held i None) (sym same) ∙ is in cc)
    | inr differs ↦ slots.unpaged j g (sym (other_held held i j None differs) ∙ is)
  ];
}

-- one store leaves all words outside a slot
pub stored_outside : (R S : Region) (a k v : ℕ) → a % 128 ≡ 0 → k % 8 ≡ 0 → k + 8 ≤ 128 → Stored R (a + k) v S → SameOutside R a 128 S
stored_outside R S a k v whole even few t = record {
  len = t.len;
  as_long = t.as_long;
  same_rest = t.same_rest;
  before = λ b whole_b below. t.others b whole_b (λ e. omega (arith, e, below));
  behind = λ b whole_b above. t.others b whole_b (λ e. omega (arith, e, above, few));
}

module _ (l : Layout) (held : Store) (R S : Region) (slots : PagesClear l held) (i a : ℕ) (at : slot_of l i ≡ Some a) (same : SameOutside R a 128 S) (shows : Shows R l held) where
  -- the words of a block without slots
  off_slots : (b : ℕ) → HasNoSlot l b → SamePage R S b
  off_slots b clear x whole page = elim (cases_lt x a) [
    | inl low ↦ same.before x whole low
    | inr high ↦ same.behind x whole (let other = clear i a at in omega (arith, high, page, slots.whole i a at, other))
  ]

  -- a log without slots in its pages is read as before
  pub log_stays : (head tail : ℕ) (es : List Placed) (pages : List ℕ) → is_right_log l.sup head tail ≡ true → HaveNoSlots l pages → Reads R l.sup head tail es pages None → Reads S l.sup head tail es pages None
  log_stays head tail es pages right clear read =
      let start : head % 4096 ≡ 0 = head_whole l.sup head tail right in
      ReadsOn-same S (λ b in_all. off_slots b (clear b in_all)) (0, omega arith, refl) (omega (arith, start)) (omega (arith, start)) read

  -- the words of another slot
  other_word : (j b : ℕ) → slot_of l j ≡ Some b → j ≢ i → (m : ℕ) → m % 8 ≡ 0 → m < 128 → word S (b + m) ≡ word R (b + m)
  other_word j b at_j differs m whole small = elim (slots.apart j i b a at_j at differs) [
    | inl w ↦ same.before (b + m) (omega (arith, whole, slots.whole j b at_j)) (omega (arith, w, small))
    | inr w ↦ same.behind (b + m) (omega (arith, whole, slots.whole j b at_j)) (omega (arith, w))
  ]

  -- the other inodes stay
  other_stays : (j b : ℕ) → slot_of l j ≡ Some b → j ≢ i → (o : Option Held) → held j ≡ o → ShowsSlot R l b o → ShowsSlot S l b o
  other_stays j b at_j differs None none no_word =
      let plus : b + 0 ≡ b = omega arith in
      ap (word S) (sym plus) ∙ other_word j b at_j differs 0 refl (omega arith) ∙ ap (word R) plus ∙ no_word
  other_stays j b at_j differs (Some h) is holds =
      let plus : b + 0 ≡ b = omega arith in
      let first : word S b ≡ word R b = ap (word S) (sym plus) ∙ other_word j b at_j differs 0 refl (omega arith) ∙ ap (word R) plus in
      record {
        kind = rw (first, other_word j b at_j differs 8 refl (omega arith)) holds.kind;
        head = other_word j b at_j differs 16 refl (omega arith) ∙ holds.head;
        tail = other_word j b at_j differs 24 refl (omega arith) ∙ holds.tail;
        created = other_word j b at_j differs 32 refl (omega arith) ∙ holds.created;
        right = holds.right;
        reads = log_stays h.head h.tail h.entries h.pages holds.right (slots.unpaged j h is) holds.reads;
      }

  changed_test : (o : Option Held) → ShowsSlot S l a o → (j b : ℕ) → slot_of l j ≡ Some b → ((eqb j i ≡ true) × (j ≡ i)) ⊎ ((eqb j i ≡ false) × (j ≢ i)) → ShowsSlot S l b (with_inode held i o j)
  changed_test o here j b at_j (inl w) =
      let e : Some b ≡ Some a = sym at_j ∙ ap (slot_of l) w.1 ∙ at in
      let is : b ≡ a = cc in
      rw (w.0, is) here
  changed_test o here j b at_j (inr w) = rw w.0 (other_stays j b at_j w.1 (held j) refl (shows.slots j b at_j))

  only_test : (o : Option Held) (j : ℕ) → slot_of l j ≡ None → ((eqb j i ≡ true) × (j ≡ i)) ⊎ ((eqb j i ≡ false) × (j ≢ i)) → with_inode held i o j ≡ None
  only_test o j out (inl w) = absurd (let e : None ≡ Some a = sym out ∙ ap (slot_of l) w.1 ∙ at in cc)
  only_test o j out (inr w) = rw w.0 (shows.only j out)

  -- Where the slot shows o, the region shows what it showed, with o there.
  pub changed : (o : Option Held) → ShowsSlot S l a o → Shows S l (with_inode held i o)
  changed o here = record { slots = λ j b at_j. changed_test o here j b at_j (eqb_tells j i); only = λ j out. only_test o j out (eqb_tells j i) }

-- The tail is moved: the log is what was appended.
pub tail_committed : (l : Layout) (held : Store) (R S : Region) (i a new : ℕ) (h : Held) (entries : List Placed) (pages : List ℕ) → PagesClear l held → slot_of l i ≡ Some a → held i ≡ Some h → is_right_log l.sup h.head new ≡ true
    → Reads R l.sup h.head new entries pages None → HaveNoSlots l pages → Stored R (a + 24) new S → Shows R l held
    → Shows S l (with_inode held i (Some (record h { tail = new; entries = entries; pages = pages })))
tail_committed l held R S i a new h entries pages slots at is right read clear stored shows =
    let holds : HoldsInode R l a h = holds_at shows i a h at is in
    let same : SameOutside R a 128 S = stored_outside R S a 24 new (slots.whole i a at) (omega arith) (omega arith) stored in
    let first : word S a ≡ word R a = stored.others a (omega (arith, slots.whole i a at)) (λ e. omega (arith, e)) in
    let second : word S (a + 8) ≡ word R (a + 8) = stored.others (a + 8) (omega (arith, slots.whole i a at)) (λ e. omega (arith, e)) in
    changed l held R S slots i a at same shows (Some (record h { tail = new; entries = entries; pages = pages })) (record {
      kind = rw (first, second) holds.kind;
      head = stored.others (a + 16) (omega (arith, slots.whole i a at)) (λ e. omega (arith, e)) ∙ holds.head;
      tail = stored.here;
      created = stored.others (a + 32) (omega (arith, slots.whole i a at)) (λ e. omega (arith, e)) ∙ holds.created;
      right = right;
      reads = log_stays l held R S slots i a at same shows h.head new entries pages right clear read;
    })

-- The valid word becomes 0: the inode is gone.
pub removed : (l : Layout) (held : Store) (R S : Region) (i a : ℕ) → PagesClear l held → slot_of l i ≡ Some a → Stored R a 0 S → Shows R l held → Shows S l (with_inode held i None)
removed l held R S i a slots at stored shows =
    let plus : a + 0 ≡ a = omega arith in
    let same : SameOutside R a 128 S = stored_outside R S a 0 0 (slots.whole i a at) refl (omega arith) (subst (λ (n : ℕ). Stored R n 0 S) (sym plus) stored) in
    changed l held R S slots i a at same shows None stored.here

kind_is : (R : Region) (a : ℕ) (k : Kind) → word R a ≡ 1 → word R (a + 8) ≡ kind_number k → kind_at R a ≡ Some k
kind_is R a File one code = rw (one, code) refl
kind_is R a Directory one code = rw (one, code) refl

-- The valid word becomes 1: the inode is there.
pub made : (l : Layout) (held : Store) (R S : Region) (i a : ℕ) (h : Held) → PagesClear l held → slot_of l i ≡ Some a → IsReady R l a h → HaveNoSlots l h.pages → Stored R a 1 S → Shows R l held → Shows S l (with_inode held i (Some h))
made l held R S i a h slots at ready clear stored shows =
    let plus : a + 0 ≡ a = omega arith in
    let same : SameOutside R a 128 S = stored_outside R S a 0 1 (slots.whole i a at) refl (omega arith) (subst (λ (n : ℕ). Stored R n 1 S) (sym plus) stored) in
    let other : (m : ℕ) → m % 8 ≡ 0 → 8 ≤ m → word S (a + m) ≡ word R (a + m) = (λ m whole some. stored.others (a + m) (omega (arith, whole, slots.whole i a at)) (λ e. omega (arith, e, some))) in
    changed l held R S slots i a at same shows (Some h) (record {
      kind = kind_is S a h.kind stored.here (other 8 refl (omega arith) ∙ ready.kind);
      head = other 16 refl (omega arith) ∙ ready.head;
      tail = other 24 refl (omega arith) ∙ ready.tail;
      created = other 32 refl (omega arith) ∙ ready.created;
      right = ready.right;
      reads = log_stays l held R S slots i a at same shows h.head h.tail h.entries h.pages ready.right clear ready.reads;
    })
