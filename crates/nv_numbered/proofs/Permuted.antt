-- Numbers and values in another order.
use Rattle.std.proofs.Common.{◌≡◌, ℕ, ◌<◌, ◌≢◌, eqb, List, length, arith}
use Rattle.std.specs.List.{AllPairs}
use Rattle.std.specs.List.Sorted.{IsPermutation}
use Rattle.std.proofs.lemmas.Bool.Decides.{Decides-eqb, nat_tests}
use Rattle.std.proofs.lemmas.Grind.{get_or_default_zero}
use Rattle.std.proofs.lemmas.List.Sorted.{All-permutation}
use Rattle.std.proofs.lemmas.Map.Keys.{IsDistinct-IsPermutation}
use Rattle.std.proofs.lemmas.Map.Made.{AllPairs-from_IsDistinct, IsDistinct-from_AllPairs}
use Rattle.nv_numbered.specs.Values.{AreNumbersBelow}

-- each is at most as far, and none stands twice
pub numbers_permute : (limit : ℕ) (xs ys : List ℕ) → IsPermutation xs ys → AreNumbersBelow limit xs → AreNumbersBelow limit ys
numbers_permute limit xs ys moved are = record {
  below = λ k less. All-permutation (λ n. n < limit) xs ys moved (λ j d inside. rw (get_or_default_zero xs j d inside) (are.below j inside)) k 0 less;
  once = λ j k order less. apart j k 0 order less;
} where
  flips : (x y : ℕ) → eqb x y ≡ eqb y x
  flips x y = grind (arith, nat_tests)

  differ : AllPairs (λ x y. x ≢ y) xs
  differ j k d order less = let first : j < length xs = omega (arith, order, less) in rw (get_or_default_zero xs j d first, get_or_default_zero xs k d less) (are.once j k order less)

  apart : AllPairs (λ x y. x ≢ y) ys
  apart = AllPairs-from_IsDistinct Decides-eqb ys (IsDistinct-IsPermutation eqb flips xs ys moved (IsDistinct-from_AllPairs Decides-eqb xs differ))
