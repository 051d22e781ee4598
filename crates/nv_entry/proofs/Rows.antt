-- What words that were stored in a row leave.
use Rattle.std.proofs.Common.{◌≡◌, ℕ, ◌+◌, ◌*◌, ◌/◌, ◌%◌, ◌<◌, ◌≤◌, List, length, get_or, ap, ◌∙◌, arith}
use Rattle.nv_region.specs.Region.{Region, size}
use Rattle.nv_region.specs.Stops.{IsMixed}
use Rattle.nv_region.specs.Stored.{SameOutside, Within}
use Rattle.nv_region.specs.Lines.{put_words}
use Rattle.nv_region.proofs.Lines.{words_here}
use Rattle.nv_region.proofs.Wordwise.{mixed_word}
use Rattle.nv_entry.specs.Written.{HoldsWords}

-- the words stand there
pub words_held : (R S : Region) (at : ℕ) (words : List ℕ) → at % 8 ≡ 0 → at + 8 * length words ≤ size R → length R.rest < 8 → S ≡ put_words R at words (length words) → HoldsWords S at words
words_held R S at words aligned inside short is k below =
    let place : (at + 8 * k) / 8 ≡ at / 8 + k = omega arith in
    ap (λ (Q : Region). get_or Q.words ((at + 8 * k) / 8) 0) is ∙ ap (λ (i : ℕ). get_or (put_words R at words (length words)).words i 0) place
    ∙ words_here R at words (length words) k aligned (omega (arith, inside, short, aligned)) below

-- all others are as they were
pub others_stay : (R S : Region) (at n : ℕ) → IsMixed R (Within at n) S → SameOutside R at n S
others_stay R S at n mixed = record {
  len = omega (arith, mixed.as_long, ap length mixed.same_rest);
  as_long = mixed.as_long;
  same_rest = mixed.same_rest;
  before = λ b whole below. mixed_word R S (Within at n) b whole mixed (λ x here. omega (arith, here.0, whole, below));
  behind = λ b whole above. mixed_word R S (Within at n) b whole mixed (λ x here. omega (arith, here.1, whole, above));
}
