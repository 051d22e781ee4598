-- A memory is ready for its superblock: at first, and with a block more.
use Rattle.std.proofs.Common.{◌≡◌, ◌≢◌, ◌+◌, ◌*◌, ◌/◌, ◌%◌, ◌≤◌, ℕ, false, List, length, drop, take, sym, ap, ◌∙◌, subst, arith}
use Rattle.std.proofs.lemmas.List.{take-append-drop, take-take, length-take}
use Rattle.byteorder.specs.Endian.{little_number}
use Rattle.nv_region.specs.Region.{Region, HasBlocks, size, word}
use Rattle.nv_super.specs.declared.superblock.Super.{Super}
use Rattle.nv_super.specs.Layout.{IsLayout, system_blocks}
use Rattle.nv_super.specs.Super.{IsSuper}
use Rattle.nv_super.proofs.Accepted.{super_stays}
use Rattle.nv_journal.specs.Undone.{SameBefore}
use Rattle.nv_journal.proofs.Fixed.{end_fixed}
use Rattle.nv_outcome.proofs.Metadata.{end_two}
use Rattle.nv_metadata.specs.Memory.{MetadataState, CanHold, IsReady, SameFront}
use Rattle.nv_metadata.specs.Holding.{SameShape}
use Rattle.nv_metadata.specs.Blocks.{AreBytesAt}
use Rattle.nv_metadata.specs.Fronts.{IsWhole}
use Rattle.nv_metadata.specs.Gathered.{SaysSuper}
use Rattle.nv_metadata.specs.Parts.{IsFront}
use Rattle.nv_metadata.proofs.Pieces.{number_within}
use Rattle.nv_metadata.proofs.Refused.{accepted_there}

-- regions of as many blocks are as long
same_size : (R S : Region) (blocks : ℕ) → HasBlocks R blocks → HasBlocks S blocks → size S ≡ size R
same_size R S blocks r s = (let a = r.0 in let b = r.1 in let c = s.0 in let d = s.1 in omega (arith, a, b, c, d))

-- with a block more
pub hold_more : (s : Super) (m new : MetadataState) (block : ℕ) → CanHold s m → system_blocks s ≤ block
    → ((at : ℕ) → at % 8 ≡ 0 → at / 4096 ≢ block → word new.memory.region at ≡ word m.memory.region at) → length new.memory.region.words ≡ length m.memory.region.words → new.memory.region.rest ≡ m.memory.region.rest
    → SameFront m new → CanHold s new
hold_more s m new block ready behind others long rest same = record {
  blocks = blocks;
  few = ready.few;
  superblock = super_stays m.memory.region new.memory.region (same_size m.memory.region new.memory.region s.blocks ready.blocks blocks) (λ at aligned low. others at aligned (λ is. omega (arith, low, is, behind))) s ready.superblock;
  front = (let is = same.0 in let high = ready.front in omega (arith, is, high));
} where
  blocks : HasBlocks new.memory.region s.blocks
  blocks = (long ∙ ready.blocks.0, ap length rest ∙ ready.blocks.1)

-- with more blocks, all of them data blocks
pub can_still : (s : Super) (m new : MetadataState) → CanHold s m → SameBefore (4096 * system_blocks s) m.memory.region new.memory.region → SameShape m new → CanHold s new
can_still s m new can before shape = record {
  blocks = blocks;
  few = can.few;
  superblock = super_stays m.memory.region new.memory.region (same_size m.memory.region new.memory.region s.blocks can.blocks blocks) (λ at aligned low. before at aligned (omega (arith, low))) s can.superblock;
  front = (let is = shape.open.0 in let high = can.front in omega (arith, is, high));
} where
  blocks : HasBlocks new.memory.region s.blocks
  blocks = (shape.as_long ∙ can.blocks.0, ap length shape.rest ∙ can.blocks.1)

-- the first block of a front is one
pub front_first : (s : Super) (front : List ℕ) → IsFront s front → IsFront s (take 4096 front)
front_first s front is =
    let long : length (take 4096 front) ≡ 4096 = (let n = length-take 4096 front in let begins = is.begins in omega (arith, n, begins)) in
    record {
      begins = omega (arith, long);
      whole = omega (arith, long);
      ends = (let begins = is.begins in let ends = is.ends in omega (arith, long, begins, ends));
      superblock = subst (λ (l : List ℕ). SaysSuper l s) (sym (take-take 4096 4096 front (omega arith))) is.superblock;
    }

-- bytes that were read begin with those that were read of them first
pub read_first : (bytes front : List ℕ) (n : ℕ) → AreBytesAt bytes 0 front → n ≤ length front → AreBytesAt bytes 0 (take n front)
read_first bytes front n are few =
    let long : length (take n front) ≡ n = (let l = length-take n front in omega (arith, l, few)) in
    record {
      within = (let w = are.within in omega (arith, long, few, w));
      same = ap (take n) are.same ∙ take-take n (length front) bytes few ∙ ap (λ (k : ℕ). take k bytes) (sym long);
    }

-- a region that begins with these bytes has the superblock that the first block says
pub said_of : (s : Super) (front : List ℕ) (M : Region) → SaysSuper (take 4096 front) s → HasBlocks M s.blocks → ((at : ℕ) → at % 8 ≡ 0 → at + 8 ≤ length front → word M at ≡ little_number 8 (drop at front)) → IsSuper M s
said_of s front M says has words =
    says M has (λ at aligned within. words at aligned (omega (arith, within, length-take 4096 front)) ∙ ap (λ (l : List ℕ). little_number 8 (drop at l)) (sym (take-append-drop 4096 front)) ∙ number_within (take 4096 front) (drop 4096 front) at within)

-- a memory with this front can hold data blocks
pub can_first : (s : Super) (front : List ℕ) (m : MetadataState) → IsLayout s → IsFront s front → HasBlocks m.memory.region s.blocks → ((at : ℕ) → at % 8 ≡ 0 → at + 8 ≤ length front → word m.memory.region at ≡ little_number 8 (drop at front))
    → (m.memory.front ≡ length front) × (m.memory.burnt ≡ false) → CanHold s m
can_first s front m layout is has words fresh = record {
  blocks = has;
  few = layout.blocks_to;
  superblock = said_of s front m.memory.region is.superblock has words;
  front = (let ends = is.ends in let n = fresh.0 in omega (arith, ends, n));
}

-- one that can, and whose front is all in front of the data blocks, is ready in version 1
pub ready_part : (s : Super) (m : MetadataState) (n : ℕ) → CanHold s m → s.version ≡ 1 → (m.memory.front ≡ n) × (m.memory.burnt ≡ false) → n ≡ 4096 * system_blocks s → IsReady s m
ready_part s m n can one opens count = record {
  blocks = can.blocks;
  few = can.few;
  superblock = can.superblock;
  front = opens.0 ∙ count ∙ ap (λ (b : ℕ). 4096 * b) (sym (end_fixed s one));
  unburnt = opens.1;
}

-- and in version 2 one whose front is all of the image
pub ready_whole : (s : Super) (bytes : List ℕ) (m : MetadataState) → IsLayout s → IsWhole s bytes → HasBlocks m.memory.region s.blocks → ((at : ℕ) → at % 8 ≡ 0 → at + 8 ≤ length bytes → word m.memory.region at ≡ little_number 8 (drop at bytes))
    → (m.memory.front ≡ length bytes) × (m.memory.burnt ≡ false) → IsReady s m
ready_whole s bytes m layout is has words fresh = record {
  blocks = has;
  few = layout.blocks_to;
  superblock = said_of s bytes m.memory.region is.superblock has words;
  front = fresh.0 ∙ is.count ∙ ap (λ (b : ℕ). 4096 * b) (sym (end_two s is.version));
  unburnt = fresh.1;
}

-- what a region that has these bytes alone says, each one says that begins with them
pub says : (s : Super) (first : List ℕ) (M : Region) → length first ≡ 4096 → HasBlocks M s.blocks → ((at : ℕ) → at % 8 ≡ 0 → at + 8 ≤ length first → word M at ≡ little_number 8 (drop at first)) → IsSuper M s → SaysSuper first s
says s first M count blocks words is R has same = accepted_there R M (same_size R M s.blocks has blocks) (λ at aligned low. words at aligned (omega (arith, low, aligned, count)) ∙ sym (same at aligned (omega (arith, low, aligned, count)))) s is
