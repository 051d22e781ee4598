-- What is shown once a word of one log's page has changed, or the head of one log.
use Rattle.std.proofs.Common.{◌≡◌, ◌≢◌, ◌⊎◌, inl, inr, ℕ, zero, suc, ◌+◌, ◌-◌, ◌*◌, ◌/◌, ◌%◌, ◌<◌, ◌≤◌, true, false, eqb, List, length, get_or, refl, ap, sym, ◌∙◌, subst, arith, Option, Some, None}
use Rattle.std.specs.List.{Contains, IsDistinct, remove}
use Rattle.std.proofs.lemmas.Bool.{cases_eq, cases_lt, ne_eqb, true≢false}
use Rattle.std.proofs.lemmas.Bool.Decides.{eqb_tells, nat_tests}
use Rattle.std.proofs.lemmas.List.{get_or_default}
use Rattle.std.proofs.lemmas.List.Edits.{length-remove, get_or-remove_above, get_or-remove_below}
use Rattle.std.proofs.lemmas.Map.Keys.{apart_from_distinct}
use Rattle.nv_region.specs.Region.{Region, word}
use Rattle.nv_region.specs.Stored.{Stored, SameOutside}
use Rattle.nv_super.specs.declared.superblock.Super.{Super}
use Rattle.nv_super.specs.Layout.{Layout, is_page_start, slot_of}
use Rattle.nv_super.specs.declared.owners.Owner.TheVariants as owners
use Rattle.nv_inode.specs.Slot.{is_right_log}
use Rattle.nv_logpage.specs.declared.found.Placed.{Placed}
use Rattle.nv_logpage.specs.Grows.{SamePage}
use Rattle.nv_logpage.specs.Reads.{Reads}
use Rattle.nv_logpage.specs.Unlinked.{Without, head_without, page_behind, without_page, word_to}
use Rattle.nv_logpage.proofs.DataBlocks.{one_page, pages_are}
use Rattle.nv_logpage.proofs.Local.{ReadsOn-same}
use Rattle.nv_logpage.proofs.RightLogs.{head_starts}
use Rattle.nv_logpage.proofs.Unlinked.{unlinked}
use Rattle.nv_mounted.specs.Held.{Held, Store, HoldsInode, ShowsSlot, Shows, with_inode}
use Rattle.nv_mounted.specs.Blocks.{NoneDoubled}
use Rattle.nv_mounted.specs.Slots.{SlotsClear}
use Rattle.nv_mounted.specs.Cleaned.{LosesPage, cleaned}
use Rattle.nv_mounted.proofs.Shown.{holds_at}
use Rattle.nv_mounted.proofs.Kept.{head_whole, page_owner, same_inode}
use Rattle.nv_mounted.proofs.Commits.{changed, pages_clear, stored_outside}

-- the regions have the same words outside this block
abbrev pub SameBut : Region → Region → ℕ → Type 0
SameBut R S c = (a : ℕ) → a % 8 ≡ 0 → a / 4096 ≢ c → word S a ≡ word R a

module _ (l : Layout) (held : Store) (R S : Region) (slots : SlotsClear l held) (undoubled : NoneDoubled l held) (shows : Shows R l held) (i a : ℕ) (h : Held) (at : slot_of l i ≡ Some a) (is : held i ≡ Some h) (c : ℕ) (in_log : Contains h.pages c) (same : SameBut R S c) where
  slot_word : (j b m : ℕ) → slot_of l j ≡ Some b → m % 8 ≡ 0 → m < 128 → word S (b + m) ≡ word R (b + m)
  slot_word j b m at_j whole small = same (b + m) (omega (arith, whole, slots.whole j b at_j)) (λ e. slots.unpaged i h is c in_log j b at_j (omega (arith, e, small, slots.whole j b at_j)))

  -- the page isn't one of another log
  off_log : (j : ℕ) (g : Held) → held j ≡ Some g → j ≢ i → (b : ℕ) → Contains g.pages b → SamePage R S b
  off_log j g is_j differs b in_all x whole page = same x whole (λ e. (
      let mine = page_owner l held i c h is in_log in
      let theirs = page_owner l held j c g is_j (subst (Contains g.pages) (sym page ∙ e) in_all) in
      differs (same_inode j i theirs.0 mine.0 (undoubled c (owners.Log j theirs.0) (owners.Log i mine.0) theirs.1 mine.1))))

  log_there : (j : ℕ) (g : Held) → held j ≡ Some g → j ≢ i → is_right_log l.sup g.head g.tail ≡ true → Reads R l.sup g.head g.tail g.entries g.pages None → Reads S l.sup g.head g.tail g.entries g.pages None
  log_there j g is_j differs right read =
      let start : g.head % 4096 ≡ 0 = head_whole l.sup g.head g.tail right in
      ReadsOn-same S (off_log j g is_j differs) (0, omega arith, refl) (omega (arith, start)) (omega (arith, start)) read

  other_slot : (j b : ℕ) → slot_of l j ≡ Some b → j ≢ i → (o : Option Held) → held j ≡ o → ShowsSlot R l b o → ShowsSlot S l b o
  other_slot j b at_j differs None is_j no_word =
      let plus : b + 0 ≡ b = omega arith in
      ap (word S) (sym plus) ∙ slot_word j b 0 at_j refl (omega arith) ∙ ap (word R) plus ∙ no_word
  other_slot j b at_j differs (Some g) is_j holds =
      let plus : b + 0 ≡ b = omega arith in
      let first : word S b ≡ word R b = ap (word S) (sym plus) ∙ slot_word j b 0 at_j refl (omega arith) ∙ ap (word R) plus in
      record {
        kind = rw (first, slot_word j b 8 at_j refl (omega arith)) holds.kind;
        head = slot_word j b 16 at_j refl (omega arith) ∙ holds.head;
        tail = slot_word j b 24 at_j refl (omega arith) ∙ holds.tail;
        created = slot_word j b 32 at_j refl (omega arith) ∙ holds.created;
        right = holds.right;
        reads = log_there j g is_j differs holds.right holds.reads;
      }

  module _ (entries : List Placed) (pages : List ℕ) (read : Reads S l.sup h.head h.tail entries pages None) where
    abbrev new : Held
    new = record h { entries = entries; pages = pages }

    own_slot : ShowsSlot S l a (Some new)
    own_slot =
        let holds = holds_at shows i a h at is in
        let plus : a + 0 ≡ a = omega arith in
        let first : word S a ≡ word R a = ap (word S) (sym plus) ∙ slot_word i a 0 at refl (omega arith) ∙ ap (word R) plus in
        record {
          kind = rw (first, slot_word i a 8 at refl (omega arith)) holds.kind;
          head = slot_word i a 16 at refl (omega arith) ∙ holds.head;
          tail = slot_word i a 24 at refl (omega arith) ∙ holds.tail;
          created = slot_word i a 32 at refl (omega arith) ∙ holds.created;
          right = holds.right;
          reads = read;
        }

    slot_test : (j b : ℕ) → slot_of l j ≡ Some b → ((eqb j i ≡ true) × (j ≡ i)) ⊎ ((eqb j i ≡ false) × (j ≢ i)) → ShowsSlot S l b (with_inode held i (Some new) j)
    slot_test j b at_j (inl w) =
        let e : Some b ≡ Some a = sym at_j ∙ ap (slot_of l) w.1 ∙ at in
        let here : b ≡ a = cc in
        rw (w.0, here) own_slot
    slot_test j b at_j (inr w) = rw w.0 (other_slot j b at_j w.1 (held j) refl (shows.slots j b at_j))

    only_test : (j : ℕ) → slot_of l j ≡ None → ((eqb j i ≡ true) × (j ≡ i)) ⊎ ((eqb j i ≡ false) × (j ≢ i)) → with_inode held i (Some new) j ≡ None
    only_test j out (inl w) = absurd (let e : None ≡ Some a = sym out ∙ ap (slot_of l) w.1 ∙ at in cc)
    only_test j out (inr w) = rw w.0 (shows.only j out)

    -- Where the log of the page's inode is read like this, the region shows what it showed, with this in its place.
    pub page_changed : Shows S l (with_inode held i (Some new))
    page_changed = record { slots = λ j b at_j. slot_test j b at_j (eqb_tells j i); only = λ j out. only_test j out (eqb_tells j i) }

-- The head is moved: the log is what is read from there.
pub head_moved : (l : Layout) (held : Store) (R S : Region) (i a new : ℕ) (h : Held) (entries : List Placed) (pages : List ℕ) → SlotsClear l held → slot_of l i ≡ Some a → held i ≡ Some h → is_right_log l.sup new h.tail ≡ true
    → Reads S l.sup new h.tail entries pages None → Stored R (a + 16) new S → Shows R l held
    → Shows S l (with_inode held i (Some (record h { head = new; entries = entries; pages = pages })))
head_moved l held R S i a new h entries pages slots at is right read stored shows =
    let holds : HoldsInode R l a h = holds_at shows i a h at is in
    let same : SameOutside R a 128 S = stored_outside R S a 16 new (slots.whole i a at) (omega arith) (omega arith) stored in
    let first : word S a ≡ word R a = stored.others a (omega (arith, slots.whole i a at)) (λ e. omega (arith, e)) in
    let second : word S (a + 8) ≡ word R (a + 8) = stored.others (a + 8) (omega (arith, slots.whole i a at)) (λ e. omega (arith, e)) in
    changed l held R S (pages_clear slots) i a at same shows (Some (record h { head = new; entries = entries; pages = pages })) (record {
      kind = rw (first, second) holds.kind;
      head = stored.here;
      tail = stored.others (a + 24) (omega (arith, slots.whole i a at)) (λ e. omega (arith, e)) ∙ holds.tail;
      created = stored.others (a + 32) (omega (arith, slots.whole i a at)) (λ e. omega (arith, e)) ∙ holds.created;
      right = right;
      reads = read;
    })

-- ---- a list without one place

gone_from : (xs : List ℕ) (k : ℕ) → k < length xs → IsDistinct eqb xs → (q : ℕ) → Contains (remove xs k) q → Contains xs q × (q ≢ get_or xs k 0)
gone_from xs k inside once q c = elim (cases_lt c.0 k) [
  | inl low ↦ (
      let here : get_or xs c.0 q ≡ q = sym (get_or-remove_below xs k q c.0 low inside) ∙ c.2 in
      ((c.0, omega (arith, low, inside), here), λ e. differs c.0 k low inside (get_or_default xs c.0 0 q (omega (arith, low, inside)) ∙ here ∙ e)))
  | inr high ↦ (
      let long : length (remove xs k) + 1 ≡ length xs = length-remove xs k inside in
      let short = c.1 in
      let below : c.0 + 1 < length xs = omega (arith, long, short) in
      let here : get_or xs (c.0 + 1) q ≡ q = sym (get_or-remove_above xs k q c.0 high inside) ∙ c.2 in
      ((c.0 + 1, below, here), λ e. differs k (c.0 + 1) (omega (arith, high)) below (sym (get_or_default xs (c.0 + 1) 0 q below ∙ here ∙ e))))
] where
  differs : (m n : ℕ) → m < n → n < length xs → get_or xs m 0 ≡ get_or xs n 0 → ⊥
  differs m n less below same = elim (eqb_tells (get_or xs m 0) (get_or xs n 0)) [ inl w ↦ true≢false (sym w.0 ∙ apart_from_distinct eqb xs m n 0 once less below) | inr w ↦ w.1 same ]

others_stay : (xs : List ℕ) (k : ℕ) → k < length xs → (q : ℕ) → Contains xs q → q ≢ get_or xs k 0 → Contains (remove xs k) q
others_stay xs k inside q c differs =
    let long : length (remove xs k) + 1 ≡ length xs = length-remove xs k inside in
    let short = c.1 in
    elim (cases_lt c.0 k) [
      | inl low ↦ (c.0, omega (arith, long, low, inside), get_or-remove_below xs k q c.0 low inside ∙ c.2)
      | inr high ↦ elim (cases_eq c.0 k) [
        | inl same ↦ absurd (differs (sym c.2 ∙ get_or_default xs c.0 q 0 short ∙ ap (λ (n : ℕ). get_or xs n 0) same))
        | inr other ↦ (
            let from : k ≤ c.0 - 1 = omega (arith, high, other) in
            let back : c.0 - 1 + 1 ≡ c.0 = omega (arith, high, other) in
            (c.0 - 1, omega (arith, long, short, high, other), get_or-remove_above xs k q (c.0 - 1) from inside ∙ ap (λ (n : ℕ). get_or xs n q) back ∙ c.2))
      ]
    ]

-- ---- a page is unlinked

right_from : (s : Super) (head other tail : ℕ) → is_page_start s other ≡ true → is_right_log s head tail ≡ true → is_right_log s other tail ≡ true
right_from s head other tail start right = grind (arith, nat_tests)

module _ (l : Layout) (held : Store) (R S : Region) (i a : ℕ) (h : Held) (slots : SlotsClear l held) (undoubled : NoneDoubled l held) (shows : Shows R l held) (at : slot_of l i ≡ Some a) (is : held i ≡ Some h) where
  off_head : (b : ℕ) → Contains h.pages b → (a + 16) / 4096 ≢ b
  off_head b c e = slots.unpaged i h is b c i a at (omega (arith, e, slots.whole i a at))

  -- how the log is read then
  read_without : (k : ℕ) → k + 1 < length h.pages → Stored R (word_to (a + 16) h.pages k) (page_behind h.pages k) S → Without S l.sup (head_without h.head h.pages k) h.tail h.entries h.pages k
  read_without k more stored =
      let holds : HoldsInode R l a h = holds_at shows i a h at is in
      unlinked (a + 16) k more (head_starts l.sup h.head h.tail holds.right) off_head holds.reads stored

  -- Once the word that leads to a page of a log leads to the one behind it, the region shows the log without that page.
  pub cleaned_shown : (k : ℕ) → k + 1 < length h.pages → Stored R (word_to (a + 16) h.pages k) (page_behind h.pages k) S → Shows S l (with_inode held i (Some (cleaned h k)))
  cleaned_shown zero more stored =
      let holds : HoldsInode R l a h = holds_at shows i a h at is in
      let w = read_without 0 more stored in
      head_moved l held R S i a (page_behind h.pages 0) h (without_page (get_or h.pages 0 0) h.entries) (remove h.pages 0) slots at is (right_from l.sup h.head (page_behind h.pages 0) h.tail w.0 holds.right) w.1 stored shows
  cleaned_shown (suc j) more stored =
      let some : eqb (suc j) 0 ≡ false = ne_eqb (suc j) 0 (λ e. omega (arith, e)) in
      let one_less : suc j - 1 ≡ j = omega arith in
      let word_is : word_to (a + 16) h.pages (suc j) ≡ 4096 * get_or h.pages j 0 + 4064 = rw (some, one_less) refl in
      let head_is : head_without h.head h.pages (suc j) ≡ h.head = rw some refl in
      let w = read_without (suc j) more stored in
      let inside : j < length h.pages = omega (arith, more) in
      let before : Contains h.pages (get_or h.pages j 0) = (j, inside, get_or_default h.pages j (get_or h.pages j 0) 0 inside) in
      let same : SameBut R S (get_or h.pages j 0) = λ x whole differs. stored.others x whole (λ e. differs (omega (arith, e, word_is))) in
      let read : Reads S l.sup h.head h.tail (without_page (get_or h.pages (suc j) 0) h.entries) (remove h.pages (suc j)) None =
      subst (λ (x : ℕ). Reads S l.sup x h.tail (without_page (get_or h.pages (suc j) 0) h.entries) (remove h.pages (suc j)) None) head_is w.1 in
      subst (λ (x : ℕ). Shows S l (with_inode held i (Some (record h { head = x; entries = without_page (get_or h.pages (suc j) 0) h.entries; pages = remove h.pages (suc j) })))) (sym head_is)
      (page_changed l held R S slots undoubled shows i a h at is (get_or h.pages j 0) before same (without_page (get_or h.pages (suc j) 0) h.entries) (remove h.pages (suc j)) read)

  -- and it loses that page alone
  pub loses : (k : ℕ) → k + 1 < length h.pages → Stored R (word_to (a + 16) h.pages k) (page_behind h.pages k) S → LosesPage h (cleaned h k) (get_or h.pages k 0)
  loses k more stored =
      let holds : HoldsInode R l a h = holds_at shows i a h at is in
      let once : IsDistinct eqb h.pages = (pages_are (one_page l.sup h.head (head_starts l.sup h.head h.tail holds.right)) holds.reads).once in
      let w = read_without k more stored in
      let inside : k < length h.pages = omega (arith, more) in
      record {
        there = (k, inside, get_or_default h.pages k (get_or h.pages k 0) 0 inside);
        from = gone_from h.pages k inside once;
        rest = others_stay h.pages k inside;
        once = (pages_are (one_page l.sup (head_without h.head h.pages k) w.0) w.1).once;
      }
