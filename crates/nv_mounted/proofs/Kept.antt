-- What is stored in loose words changes nothing that is shown.
use Rattle.std.proofs.Common.{◌≡◌, ℕ, ◌+◌, ◌*◌, ◌/◌, ◌%◌, ◌<◌, ◌≤◌, true, inl, inr, List, [], refl, ap, sym, ◌∙◌, subst, arith, Option, Some, None, append-nil}
use Rattle.std.specs.List.{Contains}
use Rattle.std.proofs.lemmas.Option.{slice_get-get_or}
use Rattle.std.proofs.lemmas.Bool.{cases_eq}
use Rattle.std.proofs.lemmas.Bool.Decides.{eqb_tells}
use Rattle.nv_region.specs.Region.{Region, word}
use Rattle.nv_region.specs.Stops.{IsMixed}
use Rattle.nv_region.proofs.Wordwise.{mixed_word}
use Rattle.nv_super.specs.declared.superblock.Super.{Super}
use Rattle.nv_super.specs.Layout.{Layout, slot_of, system_blocks}
use Rattle.nv_super.specs.declared.owners.Owner.TheVariants as owners
use Rattle.nv_inode.specs.Slot.{is_right_log}
use Rattle.nv_logpage.specs.declared.found.Placed.{Placed}
use Rattle.nv_logpage.specs.Grows.{GoesPast}
use Rattle.nv_logpage.specs.Reads.{ReadsOn, Reads, ends}
use Rattle.nv_logpage.proofs.DataBlocks.{one_page, pages_are}
use Rattle.nv_logpage.proofs.Longer.{longer}
use Rattle.nv_logpage.proofs.RightLogs.{head_starts, tail_low}
use Rattle.nv_logpage.proofs.Steps.{start_whole}
use Rattle.nv_logpage.proofs.Tail.{tail_page}
use Rattle.nv_mounted.specs.Held.{Held, Store, HoldsInode, ShowsSlot, Shows}
use Rattle.nv_mounted.specs.Blocks.{OwnsIn, by_log, NoneDoubled}
use Rattle.nv_mounted.specs.Slots.{SlotsClear}
use Rattle.nv_mounted.specs.Loose.{Loose}
use Rattle.nv_mounted.proofs.Shown.{holds_at, stands_at}

-- the head of a right log is the start of a page
pub head_whole : (s : Super) (head tail : ℕ) → is_right_log s head tail ≡ true → head % 4096 ≡ 0
head_whole s head tail right = start_whole s head (head_starts s head tail right)

-- the pages of a right log are data blocks
pub pages_data : {R : Region} {s : Super} {head tail : ℕ} {es : List Placed} {pages : List ℕ} → is_right_log s head tail ≡ true → Reads R s head tail es pages None → (b : ℕ) → Contains pages b → system_blocks s ≤ b
pages_data {R} {s} {head} {tail} right r b c = (pages_are (one_page s head (head_starts s head tail right)) r).behind b c

-- the tail's page is one of them
pub tail_there : {R : Region} {s : Super} {head tail : ℕ} {es : List Placed} {pages : List ℕ} → is_right_log s head tail ≡ true → Reads R s head tail es pages None → Contains pages (tail / 4096)
tail_there {R} {s} {head} {tail} right r = tail_page (head_starts s head tail right) r

-- a page of a log is owned by it
pub page_owner : (l : Layout) (held : Store) (i b : ℕ) (h : Held) → held i ≡ Some h → Contains h.pages b → (k : ℕ) × OwnsIn l held b (owners.Log i k)
page_owner l held i b h is c = (c.0, by_log is (slice_get-get_or h.pages c.0 b c.1 ∙ ap Some c.2))

pub same_inode : (i j k m : ℕ) → owners.Log i k ≡ owners.Log j m → i ≡ j
same_inode i j k m e = cc

module _ (l : Layout) (held : Store) (R left : Region) (slots : SlotsClear l held) (undoubled : NoneDoubled l held) (shows : Shows R l held) (mixed : IsMixed R (Loose l held) left) where
  -- the words of a slot that count
  slot_word : (i a k : ℕ) → slot_of l i ≡ Some a → k % 8 ≡ 0 → k < 128 → (held i ≡ None → k ≡ 0) → word left (a + k) ≡ word R (a + k)
  slot_word i a k at whole few used = mixed_word R left (Loose l held) (a + k) (omega (arith, slots.whole i a at)) mixed away
    where
      block : a / 4096 ≡ 8 * ((a + k) / 8) / 4096
      block = omega (arith, slots.whole i a at, few)

      away : (x : ℕ) → Loose l held ((a + k) / 8) x → ⊥
      away x (inl free) = slots.unfree (8 * ((a + k) / 8) / 4096) free i a at block
      away x (inr (inl w)) =
          let v = stands_at shows w.0 w.1 w.2 in
          slots.unpaged w.0 w.1 w.2 (w.1.tail / 4096) (tail_there v.is.right v.is.reads) i a at (block ∙ w.3)
      away x (inr (inr w)) = elim (cases_eq i w.0) [
        | inl same ↦
            let e : Some a ≡ Some w.1 = sym at ∙ ap (slot_of l) same ∙ w.2 in
            let is : a ≡ w.1 = cc in
            let first : k ≡ 0 = used (ap held same ∙ w.3) in
            omega (arith, is, first, w.4, slots.whole i a at)
        | inr differs ↦ elim (slots.apart i w.0 a w.1 at w.2 differs) [ inl below ↦ omega (arith, below, w.4, slots.whole i a at) | inr above ↦ omega (arith, above, w.5, slots.whole i a at) ]
      ]

  -- the log of an inode in use
  log_kept : (i a : ℕ) (h : Held) → slot_of l i ≡ Some a → held i ≡ Some h → HoldsInode R l a h → Reads left l.sup h.head h.tail h.entries h.pages None
  log_kept i a h at is holds =
      let start : h.head % 4096 ≡ 0 = head_whole l.sup h.head h.tail holds.right in
      subst (λ (xs : List Placed). Reads left l.sup h.head h.tail xs h.pages None) (append-nil h.entries)
      (longer left h.tail [] h.pages None refl past (0, omega arith, refl) (omega (arith, start)) (omega (arith, start)) (λ same. omega (arith, start)) (tail_low l.sup h.head h.tail holds.right) holds.reads at_end)
    where
      at_end : ReadsOn left l.sup h.tail h.pages h.tail [] h.pages None
      at_end = elim (eqb_tells h.tail h.tail) [ inl w ↦ ends (rw w.0 refl) | inr w ↦ absurd (w.1 refl) ]

      -- words of a page of this log, and before its tail in the tail's page
      kept : (x : ℕ) → x % 8 ≡ 0 → Contains h.pages (x / 4096) → (x / 4096 ≡ h.tail / 4096 → x < h.tail) → word left x ≡ word R x
      kept x whole in_pages low = mixed_word R left (Loose l held) x whole mixed away
        where
          here : 8 * (x / 8) ≡ x
          here = omega (arith, whole)

          block : x / 4096 ≡ 8 * (x / 8) / 4096
          block = ap (λ (y : ℕ). y / 4096) (sym here)

          away : (v : ℕ) → Loose l held (x / 8) v → ⊥
          away v (inl free) = let o = page_owner l held i (8 * (x / 8) / 4096) h is (subst (λ (q : ℕ). Contains h.pages q) block in_pages) in free.unowned (owners.Log i o.0) o.1
          away v (inr (inl w)) =
              let other = stands_at shows w.0 w.1 w.2 in
              let in_tail : Contains w.1.pages (w.1.tail / 4096) = tail_there other.is.right other.is.reads in
              let page : w.1.tail / 4096 ≡ x / 4096 = sym w.3 ∙ sym block in
              let mine = page_owner l held i (x / 4096) h is in_pages in
              let theirs = page_owner l held w.0 (x / 4096) w.1 w.2 (subst (λ (q : ℕ). Contains w.1.pages q) page in_tail) in
              let one : i ≡ w.0 = same_inode i w.0 mine.0 theirs.0 (undoubled (x / 4096) (owners.Log i mine.0) (owners.Log w.0 theirs.0) mine.1 theirs.1) in
              let e : Some h ≡ Some w.1 = sym is ∙ ap held one ∙ w.2 in
              let same : h ≡ w.1 = cc in
              let tails : h.tail ≡ w.1.tail = ap (λ (g : Held). g.tail) same in
              let below : x < h.tail = low (sym page ∙ ap (λ (n : ℕ). n / 4096) (sym tails)) in
              omega (arith, below, w.4, tails, here)
          away v (inr (inr w)) =
              let same : w.1 / 4096 ≡ x / 4096 = omega (arith, w.4, w.5, slots.whole w.0 w.1 w.2, here) in
              slots.unpaged i h is (x / 4096) in_pages w.0 w.1 w.2 same

      past : GoesPast R left h.tail h.tail h.pages
      past = record {
        pages = λ b in_all differs x whole page. kept x whole (subst (λ (q : ℕ). Contains h.pages q) (sym page) in_all) (λ same. absurd (differs (sym page ∙ same)));
        before = λ x whole page low. kept x whole (subst (λ (q : ℕ). Contains h.pages q) (sym page) (tail_there holds.right holds.reads)) (λ same. low);
        later = inl (omega arith, refl);
      }

  unused : (k i : ℕ) (h : Held) → held i ≡ Some h → held i ≡ None → k ≡ 0
  unused k i h is none = absurd (let e : Some h ≡ None = sym is ∙ none in cc)

  slot_kept : (i a : ℕ) → slot_of l i ≡ Some a → (o : Option Held) → held i ≡ o → ShowsSlot left l a o
  slot_kept i a at None is =
      let no_word : word R a ≡ 0 = subst (λ (o : Option Held). ShowsSlot R l a o) is (shows.slots i a at) in
      let plus : a + 0 ≡ a = omega arith in
      ap (word left) (sym plus) ∙ slot_word i a 0 at refl (omega arith) (λ _. refl) ∙ ap (word R) plus ∙ no_word
  slot_kept i a at (Some h) is =
      let holds = holds_at shows i a h at is in
      let plus : a + 0 ≡ a = omega arith in
      let first : word left a ≡ word R a = ap (word left) (sym plus) ∙ slot_word i a 0 at refl (omega arith) (unused 0 i h is) ∙ ap (word R) plus in
      let second : word left (a + 8) ≡ word R (a + 8) = slot_word i a 8 at refl (omega arith) (unused 8 i h is) in
      record {
        kind = rw (first, second) holds.kind;
        head = slot_word i a 16 at (omega arith) (omega arith) (unused 16 i h is) ∙ holds.head;
        tail = slot_word i a 24 at (omega arith) (omega arith) (unused 24 i h is) ∙ holds.tail;
        created = slot_word i a 32 at (omega arith) (omega arith) (unused 32 i h is) ∙ holds.created;
        right = holds.right;
        reads = log_kept i a h at is holds;
      }

  -- The region shows what it showed.
  pub loose_shown : Shows left l held
  loose_shown = record { slots = λ i a at. slot_kept i a at (held i) refl; only = shows.only }
