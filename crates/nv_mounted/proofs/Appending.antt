-- Entries written behind the tail of an inode's log.
use Rattle.std.proofs.Common.{◌≡◌, ℕ, zero, suc, ◌+◌, ◌*◌, ◌/◌, ◌%◌, ◌<◌, ◌≤◌, inl, inr, IsTrue, true, List, [], ◌∷◌, ◌++◌, length, get_or, take, sym, subst, arith, Some}
use Rattle.std.specs.List.{Contains}
use Rattle.std.proofs.lemmas.Bool.Decides.{nat_tests}
use Rattle.std.proofs.lemmas.List.{get_or_default}
use Rattle.std.proofs.lemmas.List.Elements.{Contains-append_cases}
use Rattle.nv_region.specs.Region.{Region, size}
use Rattle.nv_region.specs.Stops.{IsMixed}
use Rattle.nv_region.specs.Stored.{Stored}
use Rattle.nv_super.specs.declared.superblock.Super.{Super}
use Rattle.nv_super.specs.declared.owners.Owner.TheVariants as owners
use Rattle.nv_super.proofs.Rising.{Contains-cons, Contains-head, Contains-tail}
use Rattle.nv_super.specs.Layout.{Layout, is_data_address, is_page_start, slot_of, system_blocks}
use Rattle.nv_inode.specs.Slot.{is_right_log}
use Rattle.nv_entry.specs.declared.entry.Entry.{Entry}
use Rattle.nv_logpage.specs.declared.found.Placed.{Placed}
use Rattle.nv_logpage.specs.Append.{AllDiffer, AppendWords, AreGiven, CanAppend, CanBePages, EndBy, FreshFor, appended, needed}
use Rattle.nv_logpage.proofs.RightLogs.{head_starts, tail_whole, tail_low}
use Rattle.nv_outcome.proofs.SuperOf.{blocks_of_super}
use Rattle.nv_mounted.specs.Held.{Held, Store, Shows, with_inode}
use Rattle.nv_mounted.specs.Blocks.{IsUnowned, NoneDoubled}
use Rattle.nv_mounted.specs.Slots.{PagesClear, SlotsClear}
use Rattle.nv_mounted.specs.Loose.{Loose}
use Rattle.nv_mounted.specs.Grows.{grown, AreFree}
use Rattle.nv_mounted.specs.Mounted.{IsFaultless, ShowsSound}
use Rattle.nv_mounted.specs.Appended.{Appends, HasBehind}
use Rattle.nv_mounted.proofs.Shown.{stands_at}
use Rattle.nv_mounted.proofs.Kept.{loose_shown, page_owner, tail_there}
use Rattle.nv_mounted.proofs.Fronts.{slot_front, sound_clear, sound_moves}
use Rattle.nv_mounted.proofs.Commits.{pages_clear, stored_outside, tail_committed}

-- ---- lists of pages

each_there : (xs : List ℕ) (j : ℕ) → j < length xs → Contains xs (get_or xs j 0)
each_there xs j below = (j, below, get_or_default xs j (get_or xs j 0) 0 below)

in_take : (n : ℕ) (xs : List ℕ) (b : ℕ) → Contains (take n xs) b → Contains xs b
in_take zero xs b c = absurd (omega (arith, c.1))
in_take (suc n) [] b c = absurd (omega (arith, c.1))
in_take (suc n) (x ∷ xs) b c = elim (Contains-cons x (take n xs) b c) [ inl e ↦ subst (Contains (x ∷ xs)) (sym e) (Contains-head x xs) | inr rest ↦ Contains-tail x xs b (in_take n xs b rest) ]

one_more_differs : (x : ℕ) (xs : List ℕ) → AllDiffer xs → (Contains xs x → ⊥) → AllDiffer (x ∷ xs)
one_more_differs x xs differ out zero zero less below = absurd (omega (arith, less))
one_more_differs x xs differ out zero (suc j) less below = λ e. out (subst (Contains xs) (sym e) (each_there xs j (omega (arith, below))))
one_more_differs x xs differ out (suc i) zero less below = absurd (omega (arith, less))
one_more_differs x xs differ out (suc i) (suc j) less below = differ i j (omega (arith, less)) (omega (arith, below))

end_more : (x : ℕ) (xs : List ℕ) (limit : ℕ) → 4096 * x + 4096 ≤ limit → EndBy xs limit → EndBy (x ∷ xs) limit
end_more x xs limit first rest zero below = first
end_more x xs limit first rest (suc j) below = rest j (omega (arith, below))

-- ---- a right log

pub page_start : (s : Super) (b : ℕ) → system_blocks s ≤ b → b < s.blocks → IsTrue (is_page_start s (4096 * b))
page_start s b from below =
    let block : 4096 * b / 4096 ≡ b = omega arith in
    let start : 4096 * b % 4096 ≡ 0 = omega arith in
    grind (arith, nat_tests)

tail_address : (s : Super) (head tail : ℕ) → is_right_log s head tail ≡ true → IsTrue (is_data_address s tail)
tail_address s head tail right = grind (arith, nat_tests)

tail_offset : (s : Super) (head tail : ℕ) → is_right_log s head tail ≡ true → 8 ≤ tail % 4096
tail_offset s head tail right = grind (arith, nat_tests)

tail_below : (s : Super) (head tail : ℕ) → is_right_log s head tail ≡ true → tail / 4096 < s.blocks
tail_below s head tail right = grind (arith, nat_tests)

-- ---- what is stored and where

module _ (l : Layout) (held : Store) (i : ℕ) (h : Held) (is : held i ≡ Some h) (fresh : List ℕ) (free : AreFree l held fresh) where
  can_be_pages : CanBePages l.sup fresh
  can_be_pages j below = let block = free (get_or fresh j 0) (each_there fresh j below) in page_start l.sup (get_or fresh j 0) block.from block.below

  -- no page of the log is fresh
  no_page : (b : ℕ) → Contains fresh b → Contains h.pages b → ⊥
  no_page b one old = let o = page_owner l held i b h is old in (free b one).unowned (owners.Log i o.0) o.1

  fresh_for : FreshFor l.sup fresh h.pages
  fresh_for = record { starts = can_be_pages; apart = λ j below old. no_page (get_or fresh j 0) (each_there fresh j below) old }

  -- The words that an append may store are loose.
  pub append_loose : (k x : ℕ) → AppendWords h.tail fresh k x → Loose l held k x
  append_loose k x (inl w) = inr (inl (i, h, is, w.0, w.1))
  append_loose k x (inr w) = inl (subst (IsUnowned l held) (sym w.2) (free (get_or fresh w.0 0) (each_there fresh w.0 w.1)))

  module _ {R : Region} (shows : Shows R l held) where
    is_right : is_right_log l.sup h.head h.tail ≡ true
    is_right = (stands_at shows i h is).is.right

    tail_page_old : Contains h.pages (h.tail / 4096)
    tail_page_old = let v = stands_at shows i h is in tail_there v.is.right v.is.reads

    pub append_differ : AllDiffer fresh → AllDiffer (h.tail / 4096 ∷ fresh)
    append_differ differ = one_more_differs (h.tail / 4096) fresh differ (λ one. no_page (h.tail / 4096) one tail_page_old)

    pub append_inside : (limit : ℕ) → 4096 * l.sup.blocks ≤ limit → EndBy (h.tail / 4096 ∷ fresh) limit
    append_inside limit long =
        let last = tail_below l.sup h.head h.tail is_right in
        end_more (h.tail / 4096) fresh limit (omega (arith, last, long)) (λ j below. (let block = (free (get_or fresh j 0) (each_there fresh j below)).below in omega (arith, block, long)))

    -- Behind the tail stand the entries, and nothing else has changed.
    module _ (S : Region) (new : ℕ) (entries : List Entry) (slots : SlotsClear l held) (undoubled : NoneDoubled l held) (appends : Appends R S h.tail new entries fresh) where
      loose : IsMixed R (Loose l held) S
      loose = record {
        as_long = appends.wrote.as_long;
        same_rest = appends.wrote.same_rest;
        each_word = λ k inside. elim (appends.wrote.each_word k inside) [ inl same ↦ inl same | inr one ↦ inr (append_loose k (get_or S.words k 0) one) ];
      }

      pub has_behind : HasBehind S l held h new (appended fresh 0 h.tail entries) (take (needed (h.tail % 4096) entries) fresh)
      has_behind = record {
        shows = loose_shown l held R S slots undoubled shows loose;
        right = appends.right l.sup h.head (head_starts l.sup h.head h.tail is_right) (tail_address l.sup h.head h.tail is_right) can_be_pages (inl (tail_offset l.sup h.head h.tail is_right));
        reads = (let v = stands_at shows i h is in appends.reads l.sup h.head h.entries h.pages (head_starts l.sup h.head h.tail is_right) fresh_for v.is.reads);
        clear = λ b c. elim (Contains-append_cases h.pages (take (needed (h.tail % 4096) entries) fresh) b c) [
          | inl old ↦ slots.unpaged i h is b old
          | inr one ↦ slots.unfree b (free b (in_take (needed (h.tail % 4096) entries) fresh b one))
        ];
      }

-- An append meets what `append` asks for.
pub can_append : (R : Region) (l : Layout) (held : Store) (i : ℕ) (h : Held) (entries : List Entry) (fresh : List ℕ) → ShowsSound R l held → held i ≡ Some h → AreFree l held fresh → AllDiffer fresh → AreGiven entries → needed (h.tail % 4096) entries ≤ length fresh
    → CanAppend R h.tail entries fresh
can_append R l held i h entries fresh m is free differ given enough =
    let v = stands_at m.shows i h is in
    record {
      whole = tail_whole l.sup h.head h.tail v.is.right;
      offset = tail_low l.sup h.head h.tail v.is.right;
      given = given;
      enough = enough;
      differ = append_differ l held i h is fresh free m.shows differ;
      inside = append_inside l held i h is fresh free m.shows (size R) (let blocks = blocks_of_super R l.sup m.sup in omega (arith, blocks));
    }

-- Once the tail has moved, the log has grown.
pub tail_follows : (l : Layout) (held : Store) (S T : Region) (i a new : ℕ) (h : Held) (more : List Placed) (fresh : List ℕ) → PagesClear l held → slot_of l i ≡ Some a → held i ≡ Some h → HasBehind S l held h new more fresh → Stored S (a + 24) new T
    → Shows T l (with_inode held i (Some (grown h new more fresh)))
tail_follows l held S T i a new h more fresh slots at is behind stored =
    tail_committed l held S T i a new h (h.entries ++ more) (h.pages ++ fresh) slots at is behind.right behind.reads behind.clear stored behind.shows

-- And the region is sound, where nothing is wrong.
pub sound_follows : (S T : Region) (l : Layout) (held : Store) (i a new : ℕ) (h : Held) (more : List Placed) (fresh : List ℕ) → ShowsSound S l held → slot_of l i ≡ Some a → held i ≡ Some h → HasBehind S l held h new more fresh
    → IsFaultless l (with_inode held i (Some (grown h new more fresh))) → Stored S (a + 24) new T → ShowsSound T l (with_inode held i (Some (grown h new more fresh)))
sound_follows S T l held i a new h more fresh m at is behind faultless stored =
    let slots : SlotsClear l held = sound_clear m in
    let same = stored_outside S T a 24 new (slots.whole i a at) (omega arith) (omega arith) stored in
    sound_moves S T l held (with_inode held i (Some (grown h new more fresh))) m (slot_front l S T i a slots.stand at same)
    (tail_follows l held S T i a new h more fresh (pages_clear slots) at is behind stored) faultless
