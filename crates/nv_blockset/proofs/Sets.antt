-- A set of blocks as words, without a block and after one more.
use Rattle.std.proofs.Common.{◌≡◌, ℕ, zero, suc, ◌/◌, ◌%◌, ◌^◌, ◌<◌, ◌≢◌, List, length, get_or, refl, ap, arith, replicate, length-set, get_or-set_other, get_or-set_same}
use Rattle.std.specs.Prelude.{bit_or}
use Rattle.std.specs.Int.{bit_at}
use Rattle.std.proofs.lemmas.Nat.Bits.{bit_at_or, bit_at-pow_same, bit_at-pow_other, bit_at-lt, bit_at-zero}
use mathlib.Core.Logic.{dite}
use native.Mathlib.Decide.{ℕ_discrete}
use Rattle.nv_blockset.specs.BlockSet.{has, with_block, mask_of, words_for}

or_same : (n k : ℕ) → bit_at (bit_or n (2 ^ k)) k ≡ 1
or_same n k = let below = bit_at-lt n k in let one = bit_at-pow_same k in rw (bit_at_or n (2 ^ k) k, one) (omega arith)

pub or_other : (n k i : ℕ) → i ≢ k → bit_at (bit_or n (2 ^ k)) i ≡ bit_at n i
or_other n k i other = rw (bit_at_or n (2 ^ k) i, bit_at-pow_other k i other) (omega arith)

-- each block below the bound has its word
pub word_inside : (b blocks : ℕ) → b < blocks → b / 64 < words_for blocks
word_inside b blocks l = omega arith

pub has_same : (words : List ℕ) (b : ℕ) → b / 64 < length words → has (with_block words b) b ≡ 1
has_same words b inside = rw (get_or-set_same words (b / 64) (bit_or (get_or words (b / 64) 0) (mask_of b)) 0 inside) (or_same (get_or words (b / 64) 0) (b % 64))

pub has_other : (words : List ℕ) (b c : ℕ) → b / 64 < length words → c ≢ b → has (with_block words b) c ≡ has words c
has_other words b c inside other = dite (ℕ_discrete (c / 64) (b / 64))
    (λ e. let apart : c % 64 ≢ b % 64 = λ m. other (omega arith) in
    rw (e, get_or-set_same words (b / 64) (bit_or (get_or words (b / 64) 0) (mask_of b)) 0 inside) (or_other (get_or words (b / 64) 0) (b % 64) (c % 64) apart))
    (λ n. ap (λ (x : ℕ). bit_at x (c % 64)) (get_or-set_other words (b / 64) (c / 64) (bit_or (get_or words (b / 64) 0) (mask_of b)) 0 n))

pub with_block_long : (words : List ℕ) (b : ℕ) → length (with_block words b) ≡ length words
with_block_long words b = length-set words (b / 64) (bit_or (get_or words (b / 64) 0) (mask_of b))

-- a list of one value, read at any place with the same default
pub blank_at : {A : Type 0} (n i : ℕ) (x : A) → get_or (replicate n x) i x ≡ x
blank_at zero i x = refl
blank_at (suc n) zero x = refl
blank_at (suc n) (suc i) x = blank_at n i x

-- words of 0 hold no block
pub has_none : (n b : ℕ) → has (replicate n 0) b ≡ 0
has_none n b = rw (blank_at {A = ℕ} n (b / 64) 0) (bit_at-zero (b % 64))
