use Rattle.std.proofs.Common.{◌≢◌, ℕ, zero, suc, ◌<◌, List, [], ◌∷◌, get_or, arith}
use Rattle.test_store.proofs.numbered.given.Goals as goal

abbrev five_and_one : List ℕ
five_and_one = 5 ∷ 1 ∷ []

below : (k : ℕ) → k < 2 → get_or five_and_one k 0 < 8
below zero inside = omega arith
below (suc zero) inside = omega arith
below (suc (suc k)) inside = absurd (omega (arith, inside))

once : (j k : ℕ) → j < k → k < 2 → get_or five_and_one j 0 ≢ get_or five_and_one k 0
once j zero order inside same = absurd (omega (arith, order))
once zero (suc zero) order inside same = absurd (omega (arith, same))
once (suc j) (suc zero) order inside same = absurd (omega (arith, order))
once j (suc (suc k)) order inside same = absurd (omega (arith, inside))

pub from_values-requires-clause-numbers : goal.from_values-requires-clause-numbers
from_values-requires-clause-numbers c = rw c.in_ok-numbers.ensures.items (record { below = below; once = once })
