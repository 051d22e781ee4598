-- Digits in their places: what a digit looks like, and two places more.
use Rattle.std.proofs.Common.{◌≡◌, ◌≤◌, ◌<◌, ◌+◌, ◌-◌, ◌*◌, ℕ, false, List, [], ◌∷◌, ◌++◌, length, take, set, ap, ◌∙◌, append_assoc, arith}
use Rattle.std.proofs.lemmas.Grind.{take-set_at}
use Rattle.std.proofs.lemmas.List.{length-set}
use Rattle.std.proofs.lemmas.Bool.Decides.{nat_tests}
use Rattle.std.specs.Fmt.{digit_glyph}

pub low_glyph : (n : ℕ) → n < 10 → digit_glyph false n ≡ 48 + n
low_glyph n low = grind (arith, nat_tests)

pub high_glyph : (n : ℕ) → 10 ≤ n → digit_glyph false n ≡ 97 + (n - 10)
high_glyph n high = grind (arith, nat_tests)

-- two places more
pub two_more : (digits : List ℕ) (i x y : ℕ) → 2 * i + 1 < length digits → take (2 * (i + 1)) (set (set digits (2 * i) x) (2 * i + 1) y) ≡ take (2 * i) digits ++ x ∷ y ∷ []
two_more digits i x y room =
    let first : 2 * i < length digits = omega arith in
    let second : 2 * i + 1 < length (set digits (2 * i) x) = rw length-set room in
    take-set_at (set digits (2 * i) x) (2 * i + 1) (2 * (i + 1)) y (omega arith) second
    ∙ ap (λ front. front ++ y ∷ []) (take-set_at digits (2 * i) (2 * i + 1) x (omega arith) first)
    ∙ append_assoc (take (2 * i) digits) (x ∷ []) (y ∷ [])
