-- What is held once a page was taken out of a log that can do without it.
use Rattle.std.proofs.Common.{◌≡◌, ◌≢◌, ◌↔◌, ◌⊎◌, inl, inr, ℕ, zero, suc, ◌+◌, ◌-◌, ◌*◌, ◌/◌, ◌%◌, ◌<◌, ◌≤◌, false, eqb, length, get_or, refl, ap, sym, ◌∙◌, arith, Some}
use Rattle.std.specs.List.{Contains}
use Rattle.std.proofs.lemmas.Bool.{ne_eqb}
use Rattle.std.proofs.lemmas.List.{get_or_default}
use Rattle.nv_region.specs.Region.{Region}
use Rattle.nv_region.specs.Stored.{Stored}
use Rattle.nv_super.specs.Layout.{Layout, slot_of, system_blocks}
use Rattle.nv_super.specs.declared.owners.Run.{Run}
use Rattle.nv_super.specs.Runs.{InRun}
use Rattle.nv_alloc.specs.FreeValue.{FreeLists}
use Rattle.nv_alloc.specs.FreeLists.{Joins}
use Rattle.nv_logpage.specs.Unlinked.{page_behind, word_to}
use Rattle.nv_logpage.proofs.DataBlocks.{one_page, pages_are}
use Rattle.nv_logpage.proofs.RightLogs.{head_starts}
use Rattle.nv_scan.specs.declared.piece.Row.{Row}
use Rattle.nv_super.specs.declared.owners.Owner.TheVariants as owners
use Rattle.nv_scan.specs.State.{block_of}
use Rattle.nv_mounted.specs.Bytes.{byte_of}
use Rattle.nv_mounted.specs.Held.{Held, Store, HoldsInode, Shows, good_in, with_inode}
use Rattle.nv_mounted.specs.Blocks.{IsUnowned, KeepsFree, NoneDoubled, by_page}
use Rattle.nv_mounted.specs.Slots.{SlotsClear}
use Rattle.nv_mounted.specs.Front.{SameFront}
use Rattle.nv_mounted.specs.Mounted.{IsFaultless, KeepsRow, ShowsSound}
use Rattle.nv_mounted.specs.Cleaned.{IsDeadIn, LosesPage, cleaned}
use Rattle.nv_mounted.proofs.BytesKept.{same_byte}
use Rattle.nv_mounted.proofs.Kept.{page_owner}
use Rattle.nv_mounted.proofs.Shown.{holds_at}
use Rattle.nv_mounted.proofs.Fronts.{sound_clear, sound_moves}
use Rattle.nv_mounted.proofs.Faultless.{still_faultless}
use Rattle.nv_mounted.proofs.ListsKept.{pools_given, pools_same}
use Rattle.nv_mounted.proofs.Cleaning.{free_and_page, less_owns}
use Rattle.nv_mounted.proofs.Unlinking.{cleaned_shown, loses}

-- Nothing is wrong then.
pub cleaned_faultless : (l : Layout) (held : Store) (i : ℕ) (h : Held) (k : ℕ) → held i ≡ Some h → IsDeadIn l i h k → LosesPage h (cleaned h k) (get_or h.pages k 0) → IsFaultless l held → IsFaultless l (with_inode held i (Some (cleaned h k)))
cleaned_faultless l held i h k is dead less faultless =
    still_faultless l held i h (cleaned h k) is (record { kind = refl; names = dead.same.names; links = dead.same.links }) dead.clean
    (less_owns l held i h (cleaned h k) is (get_or h.pages k 0) less dead.same.blocks faultless.undoubled) faultless

-- the superblock, the journals and the links of chains stay where the word stands behind them and is no block's first
front_stays : (R S : Region) (l : Layout) (at value : ℕ) → ((1 + l.sup.cpus) * 4096 ≤ at) × (at % 4096 ≢ 0) → Stored R at value S → SameFront l R S
front_stays R S l at value behind stored = record {
  len = stored.len;
  words = λ x whole low. stored.others x whole (λ e. (let from = behind.0 in omega (arith, e, low, from)));
  links = λ c k b has. stored.others (4096 * b) (omega arith) (λ e. behind.1 (omega (arith, e)));
}

module _ (R S : Region) (l : Layout) (held : Store) (i a : ℕ) (h : Held) (k : ℕ) (m : ShowsSound R l held) (at : slot_of l i ≡ Some a) (is : held i ≡ Some h) (more : k + 1 < length h.pages) (stored : Stored R (word_to (a + 16) h.pages k) (page_behind h.pages k) S) where
  slots : SlotsClear l held
  slots = sound_clear m

  holds : HoldsInode R l a h
  holds = holds_at m.shows i a h at is

  m_undoubled : NoneDoubled l held
  m_undoubled = m.faultless.undoubled

  -- the pages of the log are data blocks
  page_inside : (j : ℕ) → j < length h.pages → (system_blocks l.sup ≤ get_or h.pages j 0) × (get_or h.pages j 0 < l.sup.blocks)
  page_inside j below =
      let are = pages_are (one_page l.sup h.head (head_starts l.sup h.head h.tail holds.right)) holds.reads in
      let there : Contains h.pages (get_or h.pages j 0) = (j, below, get_or_default h.pages j (get_or h.pages j 0) 0 below) in
      (are.behind (get_or h.pages j 0) there, are.within (get_or h.pages j 0) there)

  word_behind : (n : ℕ) → n ≡ k → ((1 + l.sup.cpus) * 4096 ≤ word_to (a + 16) h.pages n) × (word_to (a + 16) h.pages n % 4096 ≢ 0)
  word_behind zero e = let from = slots.behind i a at in let whole = slots.whole i a at in (omega (arith, from), λ q. omega (arith, whole, q))
  word_behind (suc j) e =
      let some : eqb (suc j) 0 ≡ false = ne_eqb (suc j) 0 (λ q. omega (arith, q)) in
      let one_less : suc j - 1 ≡ j = omega arith in
      let word_is : word_to (a + 16) h.pages (suc j) ≡ 4096 * get_or h.pages j 0 + 4064 = rw (some, one_less) refl in
      let from = (page_inside j (omega (arith, more, e))).0 in
      (omega (arith, word_is, from), λ q. omega (arith, word_is, q))

  pub less : LosesPage h (cleaned h k) (get_or h.pages k 0)
  less = loses l held R S i a h slots m.faultless.undoubled m.shows at is k more stored

  -- The region shows the log without the page.
  pub shows_cleaned : Shows S l (with_inode held i (Some (cleaned h k)))
  shows_cleaned = cleaned_shown l held R S i a h slots m.faultless.undoubled m.shows at is k more stored

  pub same_front : SameFront l R S
  same_front = front_stays R S l (word_to (a + 16) h.pages k) (page_behind h.pages k) (word_behind k refl) stored

  -- the word is no file's
  off_files : (n : ℕ) → n ≡ k → (j p b : ℕ) (g : Held) → held j ≡ Some g → block_of (good_in l g) p ≡ Some b → word_to (a + 16) h.pages n / 4096 ≢ b
  off_files zero e j p b g is_j maps same = let off = slots.unmapped j p b g is_j maps i a at in omega (arith, same, off, slots.whole i a at)
  off_files (suc m) e j p b g is_j maps same =
      let some : eqb (suc m) 0 ≡ false = ne_eqb (suc m) 0 (λ q. omega (arith, q)) in
      let one_less : suc m - 1 ≡ m = omega arith in
      let word_is : word_to (a + 16) h.pages (suc m) ≡ 4096 * get_or h.pages m 0 + 4064 = rw (some, one_less) refl in
      let page : get_or h.pages m 0 ≡ b = omega (arith, word_is, same) in
      let inside : m < length h.pages = omega (arith, more, e) in
      let mine = page_owner l held i (get_or h.pages m 0) h is (m, inside, get_or_default h.pages m (get_or h.pages m 0) 0 inside) in
      let clash : owners.Log i mine.0 ≡ owners.Data j p = m_undoubled (get_or h.pages m 0) (owners.Log i mine.0) (owners.Data j p) mine.1 (by_page is_j (maps ∙ ap Some (sym page))) in
      absurd (cc)

  -- Each byte of each file is where it was.
  pub bytes_stay : (j : ℕ) (g : Held) → held j ≡ Some g → (x : ℕ) → byte_of S l g x ≡ byte_of R l g x
  bytes_stay j g is_j x = same_byte R S (block_of (good_in l g) (x / 4096)) x
      (λ b maps. stored.others (b * 4096 + x % 4096 / 8 * 8) (omega arith) (λ e. off_files k refl j (x / 4096) b g is_j maps (omega (arith, e))))

  module _ (dead : IsDeadIn l i h k) where
    -- And it is sound.
    pub sound_cleaned : ShowsSound S l (with_inode held i (Some (cleaned h k)))
    sound_cleaned = sound_moves R S l held (with_inode held i (Some (cleaned h k))) m same_front shows_cleaned (cleaned_faultless l held i h k is dead less m.faultless)

    -- The free blocks are those of before and the page.
    pub freed : (q : ℕ) → IsUnowned l (with_inode held i (Some (cleaned h k))) q ↔ (IsUnowned l held q ⊎ (q ≡ get_or h.pages k 0))
    freed = let inside = page_inside k (omega (arith, more)) in
        free_and_page l held i h (cleaned h k) is (get_or h.pages k 0) less dead.same.blocks m.faultless.undoubled inside.0 inside.1

    -- The free lists are those of what is held once the page was given back.
    pub lists_cleaned : (old new : FreeLists) → KeepsFree l held old.pools → old.sup ≡ l.sup → Joins old (record { start = get_or h.pages k 0; count = 1 }) new → KeepsFree l (with_inode held i (Some (cleaned h k))) new.pools
    lists_cleaned old new kept same joins =
        let run : Run = record { start = get_or h.pages k 0; count = 1 } in
        pools_same l (λ b. IsUnowned l held b ⊎ InRun run b) (IsUnowned l (with_inode held i (Some (cleaned h k)))) new.pools
        (λ b. (
          (λ either. (freed b).1 (elim either [ inl free ↦ inl free | inr w ↦ inr (omega (arith, w.0, w.1)) ])),
          (λ free. elim ((freed b).0 free) [ inl was ↦ inl was | inr one ↦ inr (omega (arith, one), omega (arith, one)) ]),
        ))
        (pools_given l (IsUnowned l held) old new run kept same joins)

-- The row is that of what is held once the head and the pages are those of the shorter log.
pub row_cleaned : (l : Layout) (i : ℕ) (h : Held) (k : ℕ) (row new : Row) → IsDeadIn l i h k → KeepsRow l h row → new.kind ≡ row.kind → new.numbers ≡ row.numbers → new.head ≡ (cleaned h k).head → new.tail ≡ row.tail → new.pages.items ≡ (cleaned h k).pages → new.index ≡ row.index → new.names ≡ row.names
    → KeepsRow l (cleaned h k) new
row_cleaned l i h k row new dead is kind numbers head tail pages index names = record {
  kind = kind ∙ is.kind;
  numbers = rw numbers (record {
    size = is.numbers.size ∙ sym dead.same.size;
    mode = is.numbers.mode ∙ sym dead.same.mode;
    owner = is.numbers.owner ∙ sym dead.same.owner;
    group = is.numbers.group ∙ sym dead.same.group;
    links = is.numbers.links ∙ sym dead.same.links;
    time = is.numbers.time ∙ sym dead.same.time;
  });
  head = head;
  tail = tail ∙ is.tail;
  pages = pages;
  index = λ p. rw index (is.index p ∙ sym (dead.same.blocks p));
  names = λ q. rw names (is.names q ∙ sym (dead.same.names q));
}
