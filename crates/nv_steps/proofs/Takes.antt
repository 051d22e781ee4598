-- What a take gives: runs that aren't empty, of as many blocks.
use Rattle.std.proofs.Common.{◌≡◌, ℕ, ◌+◌, ◌-◌, ◌<◌, inl, inr, List, [], ◌∷◌, length, ap, ◌∙◌, subst, arith}
use Rattle.std.specs.List.{Contains}
use Rattle.std.proofs.Math.ListN.{set}
use Rattle.std.proofs.lemmas.Bool.{cases_lt}
use Rattle.std.proofs.lemmas.List.Elements.{Contains-append_cases}
use Rattle.nv_super.specs.declared.owners.Run.{Run}
use Rattle.nv_super.specs.Runs.{Apart}
use Rattle.nv_super.proofs.Members.{none_in}
use Rattle.nv_super.proofs.Rising.{Contains-cons}
use Rattle.nv_super.proofs.Runs.{some_blocks, tail_apart}
use Rattle.nv_alloc.specs.Taking.{Takes, all_blocks, blocks_in, ends, goes_on, left, pool_at, taken}
use Rattle.nv_alloc.proofs.Fronts.{left_blocks, taken_none, taken_part, taken_whole}
use Rattle.nv_alloc.proofs.Pools.{blocks_set}
use Rattle.nv_steps.proofs.Singles.{emptied_apart}

-- no run is empty
pub apart_some : (runs : List Run) → Apart runs → (r : Run) → Contains runs r → 0 < r.count
apart_some [] apart r c = absurd (none_in r c)
apart_some (x ∷ runs) apart r c = elim (Contains-cons x runs r c) [
  | inl same ↦ (let n = ap (λ (y : Run). y.count) same in let some = some_blocks x runs apart in omega (arith, n, some))
  | inr rest ↦ apart_some runs (tail_apart x runs apart) r rest
]

taken_some : (n : ℕ) (runs : List Run) → Apart runs → (r : Run) → Contains (taken n runs) r → 0 < r.count
taken_some n [] apart r c = absurd (none_in r c)
taken_some n (x ∷ runs) apart r c = elim (cases_lt 0 n) [
  | inl pos ↦ elim (cases_lt n x.count) [
    | inl part ↦ elim (Contains-cons (record { start = x.start; count = n }) [] r (subst (λ (xs : List Run). Contains xs r) (taken_part n x runs pos part) c)) [
      | inl same ↦ (let m = ap (λ (y : Run). y.count) same in omega (arith, m, pos))
      | inr none ↦ absurd (none_in r none)
    ]
    | inr whole ↦ elim (Contains-cons x (taken (n - x.count) runs) r (subst (λ (xs : List Run). Contains xs r) (taken_whole n x runs pos whole) c)) [
      | inl same ↦ (let m = ap (λ (y : Run). y.count) same in let some = some_blocks x runs apart in omega (arith, m, some))
      | inr rest ↦ taken_some (n - x.count) runs (tail_apart x runs apart) r rest
    ]
  ]
  | inr zero ↦ absurd (let none : n ≡ 0 = omega (arith, zero) in none_in r (subst (λ (xs : List Run). Contains xs r) (ap (λ (m : ℕ). taken m (x ∷ runs)) none ∙ taken_none (x ∷ runs)) c))
]

pub takes_some : (pools : List (List Run)) (cpu n : ℕ) (runs : List Run) (after : List (List Run)) → ((e : ℕ) → Apart (pool_at pools e)) → cpu < length pools → Takes pools cpu n runs after → (r : Run) → Contains runs r → 0 < r.count
takes_some pools cpu n runs after apart inside (ends some) r c = taken_some n (pool_at pools cpu) (apart cpu) r c
takes_some pools cpu n runs after apart inside (goes_on d more after' few fullest rest) r c = elim (Contains-append_cases (pool_at pools cpu) more r c) [
  | inl first ↦ apart_some (pool_at pools cpu) (apart cpu) r first
  | inr later ↦ takes_some (set pools cpu []) d (n - blocks_in (pool_at pools cpu)) more after' (emptied_apart pools cpu inside apart) fullest.within rest r later
]

-- So many blocks fewer are free then.
pub takes_less : (pools : List (List Run)) (cpu n : ℕ) (runs : List Run) (after : List (List Run)) → cpu < length pools → Takes pools cpu n runs after → all_blocks after + n ≡ all_blocks pools
takes_less pools cpu n runs after inside (ends some) =
    let change = blocks_set pools cpu (left n (pool_at pools cpu)) inside in
    let less = left_blocks n (pool_at pools cpu) in
    omega (arith, change, less, some)
takes_less pools cpu n runs after inside (goes_on d more after' few fullest rest) =
    let change = blocks_set pools cpu [] inside in
    let less = takes_less (set pools cpu []) d (n - blocks_in (pool_at pools cpu)) more after' fullest.within rest in
    omega (arith, change, less, few)
