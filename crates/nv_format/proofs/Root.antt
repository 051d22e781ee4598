-- The root's entry and its slot, as they were stored.
use Rattle.std.proofs.Common.{◌≡◌, inl, inr, ℕ, ◌+◌, ◌*◌, ◌%◌, ◌<◌, ◌≤◌, refl, sym, ◌∙◌, subst, arith}
use Rattle.nv_region.specs.Region.{Region, HasBlocks, word, put}
use Rattle.nv_region.specs.Stops.{IsMixed, One}
use Rattle.nv_region.specs.Stored.{Within}
use Rattle.nv_super.specs.declared.superblock.Super.{Super}
use Rattle.nv_super.specs.Layout.{IsLayout, slot_address}
use Rattle.nv_format.specs.Format.{AnyAt, IsRootWord, IsEmptySystem, HasRoot, IsLaidOut, root_page, attributes_word}
use Rattle.nv_format.proofs.Kept.{journals_kept, kept_at, kept_behind, kept_other, numbers_kept}
use Rattle.nv_region.proofs.Puts.{blocks_stay, put_here}
use Rattle.nv_region.proofs.Wordwise.{mixed_word}
use Rattle.nv_format.proofs.Puts.{AreWords, four_words}
use Rattle.nv_inode.proofs.Places.{slot_aligned}
use Rattle.nv_format.proofs.Tables.{slot_to, root_below, no_root_word, other_slot}

-- words that were put at four addresses, in a region that is long enough
pub words_put : (R Q : Region) (at₀ at₁ at₂ at₃ a b c d n : ℕ) → at₁ ≡ at₀ + 8 → at₂ ≡ at₀ + 16 → at₃ ≡ at₀ + 24 → HasBlocks R n → at₀ + 32 ≤ 4096 * n
    → Q ≡ put (put (put (put R at₀ a) at₁ b) at₂ c) at₃ d → AreWords Q at₀ at₁ at₂ at₃ a b c d
words_put R Q at₀ at₁ at₂ at₃ a b c d n e₁ e₂ e₃ blocks within is =
    subst (λ (r : Region). AreWords r at₀ at₁ at₂ at₃ a b c d) (sym is) (four_words R at₀ at₁ at₂ at₃ a b c d e₁ e₂ e₃ (let size = blocks.0 in omega (arith, size)))

module _ (s : Super) (time : ℕ) (layout : IsLayout s) where
  to_page : slot_address s 1 + 128 ≤ root_page s
  to_page = slot_to s 1 layout (root_below s layout)

  root_aligned : slot_address s 1 % 8 ≡ 0
  root_aligned = slot_aligned s 1

  pub page_inside : root_page s + 32 ≤ 4096 * s.blocks
  page_inside = let room = layout.areas.room in omega arith

  -- the entry, the slot's valid word, and its other words
  pub root_stored : (R V S : Region) → HasBlocks R s.blocks
      → AreWords R (root_page s) (root_page s + 8) (root_page s + 16) (root_page s + 24) (attributes_word 493) 0 time 0
      → V ≡ put R (slot_address s 1) 1 → IsMixed R (One (slot_address s 1) 1) V
      → AreWords S (slot_address s 1 + 8) (slot_address s 1 + 16) (slot_address s 1 + 24) (slot_address s 1 + 32) 2 (root_page s) (root_page s + 32) time
      → IsMixed V (Within (slot_address s 1 + 8) 32) S → HasRoot S s time
  root_stored R V S blocks entry stored first slot then = record {
    slot = (λ i. record { valid = valid i; kind = slot.first i; head = slot.second i; tail = slot.third i; created = slot.fourth i });
    entry = record {
      attributes = behind (root_page s) (omega arith) (omega arith) ∙ entry.first;
      empty = behind (root_page s + 8) (omega arith) (omega arith) ∙ entry.second;
      made = behind (root_page s + 16) (omega arith) (omega arith) ∙ entry.third;
      owner = behind (root_page s + 24) (omega arith) (omega arith) ∙ entry.fourth;
    };
  }
    where
      stands : word V (slot_address s 1) ≡ 1
      stands = subst (λ (r : Region). word r (slot_address s 1) ≡ 1) (sym stored)
          (put_here R (slot_address s 1) 1 (let size = blocks.0 in let page = page_inside in let to = to_page in omega (arith, size, page, to)))

      valid : word S (slot_address s 1) ≡ 1
      valid = mixed_word V S (Within (slot_address s 1 + 8) 32) (slot_address s 1) root_aligned then (λ x w. let from = w.0 in let whole = root_aligned in omega (arith, from, whole)) ∙ stands

      behind : (a : ℕ) → a % 8 ≡ 0 → root_page s ≤ a → word S a ≡ word R a
      behind a whole from =
          let to = to_page in
          kept_behind V S (slot_address s 1 + 8) 32 a whole (omega (arith, from, to)) then
          ∙ kept_other R V (slot_address s 1) 1 a root_aligned whole (λ e. omega (arith, e, from, to)) first

  -- the same, as the stores come
  pub root_written : (R₀ R V S : Region) (page kind at : ℕ) → HasBlocks R₀ s.blocks → page ≡ root_page s → kind ≡ 2 → at ≡ slot_address s 1
      → R ≡ put (put (put (put R₀ page (attributes_word 493)) (page + 8) 0) (page + 16) time) (page + 24) 0 → IsMixed R₀ (Within page 32) R
      → V ≡ put R at 1 → IsMixed R (One at 1) V
      → S ≡ put (put (put (put V (slot_address s 1 + 8) kind) (slot_address s 1 + 16) page) (slot_address s 1 + 24) (page + 32)) (slot_address s 1 + 32) time
      → IsMixed V (Within (slot_address s 1 + 8) 32) S → HasRoot S s time
  root_written R₀ R V S page kind at blocks is_page is_kind is_at wrote_entry entry wrote_valid valid wrote_slot slot =
      root_stored R V S blocks_entry
      (subst (λ (p : ℕ). AreWords R p (p + 8) (p + 16) (p + 24) (attributes_word 493) 0 time 0) is_page
      (words_put R₀ R page (page + 8) (page + 16) (page + 24) (attributes_word 493) 0 time 0 s.blocks refl refl refl blocks (let inside = page_inside in omega (arith, inside, is_page)) wrote_entry))
      (subst (λ (a : ℕ). V ≡ put R a 1) is_at wrote_valid) (subst (λ (a : ℕ). IsMixed R (One a 1) V) is_at valid)
      (subst (λ (p : ℕ). AreWords S (slot_address s 1 + 8) (slot_address s 1 + 16) (slot_address s 1 + 24) (slot_address s 1 + 32) 2 p (p + 32) time) is_page
      (subst (λ (k : ℕ). AreWords S (slot_address s 1 + 8) (slot_address s 1 + 16) (slot_address s 1 + 24) (slot_address s 1 + 32) k page (page + 32) time) is_kind
      (words_put V S (slot_address s 1 + 8) (slot_address s 1 + 16) (slot_address s 1 + 24) (slot_address s 1 + 32) kind page (page + 32) time s.blocks (omega arith) (omega arith) (omega arith) blocks_valid
      (let inside = page_inside in let to = to_page in omega (arith, inside, to)) wrote_slot)))
      slot
    where
      blocks_entry : HasBlocks R s.blocks
      blocks_entry = blocks_stay R₀ R (Within page 32) s.blocks entry blocks

      blocks_valid : HasBlocks V s.blocks
      blocks_valid = blocks_stay R V (One at 1) s.blocks valid blocks_entry

  -- which words these are
  pub entry_words : (page i x : ℕ) → page ≡ root_page s → Within page 32 i x → AnyAt (IsRootWord s) i x
  entry_words page i x is within = let from = within.0 in let to = within.1 in inr (omega (arith, from, is), omega (arith, to, is))

  pub slot_words : (i x : ℕ) → Within (slot_address s 1 + 8) 32 i x → AnyAt (IsRootWord s) i x
  slot_words i x within = let from = within.0 in let to = within.1 in inl (omega (arith, from), omega (arith, to))

  pub valid_word : (at i x : ℕ) → at ≡ slot_address s 1 → One at 1 i x → AnyAt (IsRootWord s) i x
  valid_word at i x same one = let whole = root_aligned in let is = one.0 in inl (omega (arith, whole, is, same), omega (arith, whole, is, same))

  -- the root over a system without inodes
  pub laid_out : (R S : Region) → IsEmptySystem R s → IsMixed R (AnyAt (IsRootWord s)) S → HasRoot S s time → IsLaidOut S s time
  laid_out R S system mixed root = record {
    numbers = numbers_kept s R S (λ a whole above low. journal a whole (omega arith)) system.numbers;
    journals = journals_kept s R S (λ a whole above low. journal a whole low) system.journals;
    unused = λ i below differ. kept_at R S (IsRootWord s) (slot_address s i) (slot_aligned s i) (other_slot s i layout below differ) mixed ∙ system.unused i below;
    root = root;
  }
    where
      journal : (a : ℕ) → a % 8 ≡ 0 → a < (1 + s.cpus) * 4096 → word S a ≡ word R a
      journal a whole below = kept_at R S (IsRootWord s) a whole (no_root_word s a layout below) mixed
