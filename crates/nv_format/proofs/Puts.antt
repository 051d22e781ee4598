-- Words that were put one behind the other.
use Rattle.std.proofs.Common.{◌≡◌, ℕ, ◌+◌, ◌*◌, ◌≤◌, length, ◌∙◌, arith}
use Rattle.nv_region.specs.Region.{Region, word, put}
use Rattle.nv_region.proofs.Puts.{put_here, put_other, put_long}

-- the words at four addresses, each eight bytes behind the one before
pub record AreWords (R : Region) (at₀ at₁ at₂ at₃ a b c d : ℕ) : Type 0 where
  pub first : word R at₀ ≡ a
  pub second : word R at₁ ≡ b
  pub third : word R at₂ ≡ c
  pub fourth : word R at₃ ≡ d

pub four_words : (R : Region) (at₀ at₁ at₂ at₃ a b c d : ℕ) → at₁ ≡ at₀ + 8 → at₂ ≡ at₀ + 16 → at₃ ≡ at₀ + 24 → at₀ + 32 ≤ 8 * length R.words
    → AreWords (put (put (put (put R at₀ a) at₁ b) at₂ c) at₃ d) at₀ at₁ at₂ at₃ a b c d
four_words R at₀ at₁ at₂ at₃ a b c d e₁ e₂ e₃ within = record {
  first =
      put_other (put (put (put R at₀ a) at₁ b) at₂ c) at₃ d at₀ (λ e. omega arith) ∙ put_other (put (put R at₀ a) at₁ b) at₂ c at₀ (λ e. omega arith)
      ∙ put_other (put R at₀ a) at₁ b at₀ (λ e. omega arith) ∙ put_here R at₀ a (omega arith);
  second =
      put_other (put (put (put R at₀ a) at₁ b) at₂ c) at₃ d at₁ (λ e. omega arith) ∙ put_other (put (put R at₀ a) at₁ b) at₂ c at₁ (λ e. omega arith)
      ∙ put_here (put R at₀ a) at₁ b (omega (arith, put_long R at₀ a));
  third =
      put_other (put (put (put R at₀ a) at₁ b) at₂ c) at₃ d at₂ (λ e. omega arith)
      ∙ put_here (put (put R at₀ a) at₁ b) at₂ c (omega (arith, put_long R at₀ a, put_long (put R at₀ a) at₁ b));
  fourth =
      put_here (put (put (put R at₀ a) at₁ b) at₂ c) at₃ d
      (omega (arith, put_long R at₀ a, put_long (put R at₀ a) at₁ b, put_long (put (put R at₀ a) at₁ b) at₂ c));
}

-- a fifth word leaves those before it
pub fifth_word : (R : Region) (at₀ at₁ at₂ at₃ at₄ a b c d e : ℕ) → at₁ ≡ at₀ + 8 → at₂ ≡ at₀ + 16 → at₃ ≡ at₀ + 24 → at₄ ≡ at₀ + 32
    → AreWords R at₀ at₁ at₂ at₃ a b c d → AreWords (put R at₄ e) at₀ at₁ at₂ at₃ a b c d
fifth_word R at₀ at₁ at₂ at₃ at₄ a b c d e e₁ e₂ e₃ e₄ four = record {
  first = put_other R at₄ e at₀ (λ k. omega arith) ∙ four.first;
  second = put_other R at₄ e at₁ (λ k. omega arith) ∙ four.second;
  third = put_other R at₄ e at₂ (λ k. omega arith) ∙ four.third;
  fourth = put_other R at₄ e at₃ (λ k. omega arith) ∙ four.fourth;
}

pub four_long : (R : Region) (at₀ at₁ at₂ at₃ a b c d : ℕ) → length (put (put (put (put R at₀ a) at₁ b) at₂ c) at₃ d).words ≡ length R.words
four_long R at₀ at₁ at₂ at₃ a b c d = put_long (put (put (put R at₀ a) at₁ b) at₂ c) at₃ d ∙ put_long (put (put R at₀ a) at₁ b) at₂ c ∙ put_long (put R at₀ a) at₁ b ∙ put_long R at₀ a
