-- Numbers in a row: one more of them, and what a function gives for them, cut in two.
use Rattle.std.proofs.Common.{◌≡◌, ℕ, zero, suc, ◌+◌, List, [], ◌∷◌, ◌++◌, map, ap, ◌∙◌, arith}
use Rattle.std.specs.List.{range_with_len}

pub one_more : (a n : ℕ) → range_with_len a n ++ (a + n) ∷ [] ≡ range_with_len a (n + 1)
one_more a zero = let e : a + 0 ≡ a = omega arith in ap (λ j. j ∷ []) e
one_more a (suc n) =
    let rest = one_more (a + 1) n in
    let e : a + suc n ≡ a + 1 + n = omega arith in
    let last : suc (n + 1) ≡ suc n + 1 = omega arith in
    ap (λ j. a ∷ (range_with_len (a + 1) n ++ j ∷ [])) e ∙ ap (λ l. a ∷ l) rest ∙ ap (range_with_len a) last

pub range_more : (f : ℕ → ℕ) (a m n : ℕ) → map f (range_with_len a m) ++ map f (range_with_len (a + m) n) ≡ map f (range_with_len a (m + n))
range_more f a zero n = ap (λ (b : ℕ). map f (range_with_len b n)) (let e : a + 0 ≡ a = omega arith in e) ∙ ap (λ (k : ℕ). map f (range_with_len a k)) (let e : n ≡ 0 + n = omega arith in e)
range_more f a (suc m) n =
    ap (λ (b : ℕ). f a ∷ (map f (range_with_len (a + 1) m) ++ map f (range_with_len b n))) (let e : a + suc m ≡ (a + 1) + m = omega arith in e)
    ∙ ap (λ (l : List ℕ). f a ∷ l) (range_more f (a + 1) m n)
    ∙ ap (λ (k : ℕ). map f (range_with_len a k)) (let e : suc (m + n) ≡ suc m + n = omega arith in e)
