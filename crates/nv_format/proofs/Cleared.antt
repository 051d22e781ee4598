-- The areas before the data blocks, cleared word by word.
use Rattle.std.proofs.Common.{◌≡◌, inl, inr, ℕ, ◌+◌, ◌*◌, ◌/◌, ◌%◌, ◌<◌, ◌≤◌, length, refl, sym, ◌∙◌, subst, arith}
use Rattle.nv_region.specs.Region.{Region, HasBlocks, word, put}
use Rattle.nv_region.specs.Stops.{Choices, IsMixed, One}
use Rattle.nv_region.specs.Stored.{Within, StoresOnly}
use Rattle.nv_region.proofs.Wordwise.{stores_more}
use Rattle.nv_super.specs.declared.superblock.Super.{Super}
use Rattle.nv_super.specs.Layout.{IsLayout, slot_address, inode_limit}
use Rattle.nv_inode.specs.Slot.{nth_slot}
use Rattle.nv_format.specs.Format.{AnyAt, IsPointer, IsValidWord, IsSystemWord, HasNumbers, HasEmptyJournals, IsEmptySystem}
use Rattle.nv_format.proofs.Kept.{zero_stays, kept_at, journals_kept, numbers_kept}
use Rattle.nv_region.proofs.Puts.{put_here}
use Rattle.nv_format.proofs.Puts.{AreWords, four_words, fifth_word, four_long}
use Rattle.nv_inode.proofs.Places.{slot_place, place, place_below}
use Rattle.nv_format.proofs.Tables.{no_valid_word, no_pointer}

-- a word that is 0 stays so when another is cleared
pub zero_more : (R S : Region) (at a : ℕ) → IsMixed R (One at 0) S → word R a ≡ 0 → word S a ≡ 0
zero_more R S at a mixed = zero_stays R S (One at 0) a (λ i x one. one.1) mixed

word_back : (i at : ℕ) → at % 8 ≡ 0 → i ≡ at / 8 → at ≡ 8 * i
word_back i at whole e = omega arith

-- one word is among these places
pub one_at : (places : ℕ → Type 0) (at value : ℕ) → at % 8 ≡ 0 → places at → (i x : ℕ) → One at value i x → AnyAt places i x
one_at places at value whole here i x one = subst places (word_back i at whole one.0) here

pub clears_more : (places : ℕ → Type 0) (at value : ℕ) (R Q S : Region) (old mid new : Choices) → at % 8 ≡ 0 → places at → StoresOnly (AnyAt places) R Q old mid → StoresOnly (One at value) Q S mid new → StoresOnly (AnyAt places) R S old new
clears_more places at value R Q S old mid new whole here first then = stores_more (AnyAt places) (One at value) R Q S old mid new (one_at places at value whole here) first then

-- the valid words of all slots, by inodes
pub by_inode : (s : Super) (R : Region) → IsLayout s → ((k : ℕ) → k < inode_limit s → word R (nth_slot s k) ≡ 0) → (i : ℕ) → i < inode_limit s → word R (slot_address s i) ≡ 0
by_inode s R layout zeros i below = subst (λ (a : ℕ). word R a ≡ 0) (sym (slot_place s i)) (zeros (place s i) (place_below s i layout below))

pub numbers_put : (s : Super) (R Q : Region) (n : ℕ) → 1 ≤ n → HasBlocks R n → Q ≡ put (put (put (put (put R 8 s.version) 16 s.cpus) 24 s.blocks) 32 s.table_blocks) 40 s.state → HasNumbers Q s
numbers_put s R Q n some blocks is = subst (λ (r : Region). HasNumbers r s) (sym is) (record {
  version = five.first;
  cpus = five.second;
  blocks = five.third;
  table_blocks = five.fourth;
  state = put_here (put (put (put (put R 8 s.version) 16 s.cpus) 24 s.blocks) 32 s.table_blocks) 40 s.state (let size = blocks.0 in omega (arith, long, size));
})
  where
    long : length (put (put (put (put R 8 s.version) 16 s.cpus) 24 s.blocks) 32 s.table_blocks).words ≡ length R.words
    long = four_long R 8 16 24 32 s.version s.cpus s.blocks s.table_blocks

    five : AreWords (put (put (put (put (put R 8 s.version) 16 s.cpus) 24 s.blocks) 32 s.table_blocks) 40 s.state) 8 16 24 32 s.version s.cpus s.blocks s.table_blocks
    five =
        fifth_word (put (put (put (put R 8 s.version) 16 s.cpus) 24 s.blocks) 32 s.table_blocks) 8 16 24 32 40 s.version s.cpus s.blocks s.table_blocks s.state refl refl refl refl
        (four_words R 8 16 24 32 s.version s.cpus s.blocks s.table_blocks refl refl refl (let size = blocks.0 in omega (arith, size, some)))

-- numbers, journals and tables, each stored behind the one before
pub system_cleared : (s : Super) (R Q S : Region) → IsLayout s → HasNumbers R s → IsMixed R (AnyAt (IsPointer s)) Q → IsMixed Q (AnyAt (IsValidWord s)) S
    → HasEmptyJournals Q s → ((i : ℕ) → i < inode_limit s → word S (slot_address s i) ≡ 0) → IsEmptySystem S s
system_cleared s R Q S layout numbers pointers valid journals unused = record {
  numbers = numbers_kept s R S (λ a whole above low. number a whole low) numbers;
  journals = journals_kept s Q S (λ a whole above low. journal a whole low) journals;
  unused = unused;
}
  where
    journal : (a : ℕ) → a % 8 ≡ 0 → a < (1 + s.cpus) * 4096 → word S a ≡ word Q a
    journal a whole low = kept_at Q S (IsValidWord s) a whole (no_valid_word s a low) valid

    number : (a : ℕ) → a % 8 ≡ 0 → a < 4096 → word S a ≡ word R a
    number a whole low = journal a whole (omega arith) ∙ kept_at R Q (IsPointer s) a whole (no_pointer s a low) pointers

-- which words these are
pub number_words : (s : Super) (i x : ℕ) → Within 8 40 i x → AnyAt (IsSystemWord s) i x
number_words s i x within = inl (within.0, within.1)

pub pointer_words : (s : Super) (i x : ℕ) → AnyAt (IsPointer s) i x → AnyAt (IsSystemWord s) i x
pointer_words s i x pointer = inr (inl pointer)

pub valid_words : (s : Super) (i x : ℕ) → AnyAt (IsValidWord s) i x → AnyAt (IsSystemWord s) i x
valid_words s i x valid = inr (inr valid)
