-- There is something that a take gives.
use Rattle.std.proofs.Common.{◌≡◌, ℕ, zero, suc, ◌+◌, ◌-◌, ◌<◌, ◌≤◌, inl, inr, List, [], ◌∷◌, ◌++◌, length, refl, arith}
use Rattle.std.proofs.Math.ListN.{set}
use Rattle.std.proofs.lemmas.Bool.{cases_lt}
use Rattle.nv_super.specs.declared.owners.Run.{Run}
use Rattle.nv_alloc.specs.Taking.{IsFullest, TakeExists, Takes, all_blocks, blocks_in, ends, goes_on, left, pool_at, taken}
use Rattle.nv_alloc.proofs.Pools.{blocks_all, some_in_fullest}

-- ---- the fullest pool

-- the first pool, where none behind it has more blocks
first_fullest : (p : List Run) (ps : List (List Run)) → ((d : ℕ) → d < length ps → blocks_in (pool_at ps d) ≤ blocks_in p) → IsFullest (p ∷ ps) 0
first_fullest p ps most = record { within = omega arith; most = by; lowest = λ d below. absurd (omega (arith, below)) } where
  by : (d : ℕ) → d < length (p ∷ ps) → blocks_in (pool_at (p ∷ ps) d) ≤ blocks_in p
  by zero inside = omega arith
  by (suc d) inside = most d (omega (arith, inside))

-- the fullest of the others, where it has more blocks than the first
later_fullest : (p : List Run) (ps : List (List Run)) (best : ℕ) → IsFullest ps best → blocks_in p < blocks_in (pool_at ps best) → IsFullest (p ∷ ps) (suc best)
later_fullest p ps best f less = record { within = (let inside = f.within in omega (arith, inside)); most = most; lowest = lowest } where
  most : (d : ℕ) → d < length (p ∷ ps) → blocks_in (pool_at (p ∷ ps) d) ≤ blocks_in (pool_at ps best)
  most zero inside = omega (arith, less)
  most (suc d) inside = f.most d (omega (arith, inside))

  lowest : (d : ℕ) → d < suc best → blocks_in (pool_at (p ∷ ps) d) < blocks_in (pool_at ps best)
  lowest zero below = less
  lowest (suc d) below = f.lowest d (omega (arith, below))

fullest_with : (p : List Run) (ps : List (List Run)) → (best : ℕ) × IsFullest ps best → (best : ℕ) × IsFullest (p ∷ ps) best
fullest_with p ps (best, f) = elim (cases_lt (blocks_in p) (blocks_in (pool_at ps best))) [
  | inl less ↦ (suc best, later_fullest p ps best f less)
  | inr most ↦ (0, first_fullest p ps (λ d inside. (let m = f.most d inside in omega (arith, m, most))))
]

fullest_exists : (ps : List (List Run)) → 0 < length ps → (best : ℕ) × IsFullest ps best
fullest_exists [] some = absurd (omega (arith, some))
fullest_exists (p ∷ []) some = (0, first_fullest p [] (λ d inside. absurd (omega (arith, inside))))
fullest_exists (p ∷ q ∷ ps) some = fullest_with p (q ∷ ps) (fullest_exists (q ∷ ps) (omega arith))

-- ---- the take

abbrev IsTaken : List (List Run) → ℕ → ℕ → Type 0
IsTaken pools cpu n = (runs : List Run) × (after : List (List Run)) × Takes pools cpu n runs after

-- what the pools have once one of them, if it is there, is empty
emptied : (pools : List (List Run)) (cpu : ℕ) → all_blocks (set pools cpu []) + blocks_in (pool_at pools cpu) ≡ all_blocks pools
emptied [] cpu = refl
emptied (p ∷ ps) zero = let without = blocks_all [] ps in let all = blocks_all p ps in omega (arith, without, all)
emptied (p ∷ ps) (suc cpu) = let rest = emptied ps cpu in let without = blocks_all p (set ps cpu []) in let all = blocks_all p ps in omega (arith, rest, without, all)

-- where there are blocks there are pools
some_pool : (pools : List (List Run)) → 0 < all_blocks pools → 0 < length pools
some_pool [] some = absurd (omega (arith, some))
some_pool (p ∷ ps) some = omega arith

-- One pool is enough, or else all that it has is taken, and the rest from the pool that then is the fullest, which has some.
from_pool : (pools : List (List Run)) (cpu n : ℕ) → n ≤ all_blocks pools
    → ((next : List (List Run)) (d rest : ℕ) → rest ≤ all_blocks next → 0 < rest → 0 < blocks_in (pool_at next d) → rest ≤ n - blocks_in (pool_at pools cpu) → IsTaken next d rest) → IsTaken pools cpu n
from_pool pools cpu n enough go = elim (cases_lt (blocks_in (pool_at pools cpu)) n) [
  | inl few ↦
      (let next : List (List Run) = set pools cpu [] in
      let count = emptied pools cpu in
      let rest : ℕ = n - blocks_in (pool_at pools cpu) in
      let left_over : rest ≤ all_blocks next = omega (arith, count, enough, few) in
      let some : 0 < rest = omega (arith, few) in
      let there : 0 < all_blocks next = omega (arith, left_over, some) in
      let f = fullest_exists next (some_pool next there) in
      let t = go next f.0 rest left_over some (some_in_fullest next f.0 f.1 there) (omega arith) in
      (pool_at pools cpu ++ t.0, t.1, goes_on f.0 t.0 t.1 few f.1 t.2))
  | inr enough_here ↦ (taken n (pool_at pools cpu), set pools cpu (left n (pool_at pools cpu)), ends enough_here)
]

-- From a pool that has some less is needed each time.
from_some : (most : ℕ) (pools : List (List Run)) (cpu n : ℕ) → n ≤ all_blocks pools → 0 < n → 0 < blocks_in (pool_at pools cpu) → n ≤ most → IsTaken pools cpu n
from_some zero pools cpu n enough some there fits = absurd (omega (arith, some, fits))
from_some (suc most) pools cpu n enough some there fits =
    from_pool pools cpu n enough (λ next d rest left_over more has less. from_some most next d rest left_over more has (omega (arith, less, fits, there, some)))

pub take_exists : TakeExists
take_exists pools cpu n enough = from_pool pools cpu n enough (λ next d rest left_over more has less. from_some rest next d rest left_over more has (omega arith))
