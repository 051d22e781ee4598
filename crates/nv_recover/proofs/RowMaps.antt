-- The two sets of claims, after a run of blocks of which none was claimed.
use Rattle.std.proofs.Common.{◌≡◌, ℕ, zero, suc, ◌+◌, ◌-◌, ◌*◌, ◌<◌, ◌≤◌, ◌≢◌, ◌==◌, ◌⊎◌, inl, inr, List, ◌∷◌, [], ◌++◌, length, cond, refl, ap, sym, subst, ◌∙◌, arith}
use Rattle.std.proofs.lemmas.Bool.{cases_lt}
use Rattle.std.proofs.lemmas.List.Sums.{sum_by-append}
use Rattle.std.specs.List.{All}
use mathlib.Core.Logic.{dite}
use native.Mathlib.Decide.{ℕ_discrete}
use Rattle.nv_blockset.specs.BlockSet.{has}
use Rattle.nv_super.specs.declared.owners.Owner.{Owner}
use Rattle.nv_super.specs.Owners.{claims_of, pairs, raised}
use Rattle.nv_radix.specs.declared.extent.Extent.{Extent}
use Rattle.nv_scan.specs.Claims.{run_claims}
use Rattle.nv_scan.proofs.Runs.{each_block}
use Rattle.nv_outcome.specs.Parts.{AreMaps}
use Rattle.nv_recover.specs.Scanned.{Fits}
use Rattle.nv_recover.proofs.TwoSets.{claims_here, claims_elsewhere}

-- the words of the first set go as far as a run, of which each block has its word
pub end_within : (first second : List ℕ) (i : ℕ) (run : Extent) → 64 ≤ run.count → All (Fits first second) (run_claims i run) → run.block + run.count ≤ 64 * length first
end_within first second i run long within =
    let last = each_block (Fits first second) i run.page run.block run.count (run.count - 1) (omega (arith, long)) within in
    omega (arith, last.0, long)

-- a run has no claim of a block outside
claims_apart : (b start : ℕ) (o : Owner) (n : ℕ) → (start ≤ b → b < start + n → ⊥) → claims_of b (pairs start o n) ≡ 0
claims_apart b start o zero out = refl
claims_apart b start o (suc n) out =
    let other : b ≢ start + n = λ e. out (omega (arith, e)) (omega (arith, e)) in
    claims_elsewhere (start + n) b (pairs start o n) (raised o n) other ∙ claims_apart b start o n (λ from to. out from (omega (arith, to)))

-- and one of each of its own
claims_within : (b start : ℕ) (o : Owner) (n : ℕ) → start ≤ b → b < start + n → claims_of b (pairs start o n) ≡ 1
claims_within b start o zero from to = absurd (omega (arith, from, to))
claims_within b start o (suc n) from to = dite (ℕ_discrete b (start + n))
    (λ e. subst (λ (c : ℕ). claims_of c (pairs start o n ++ (start + n, raised o n) ∷ []) ≡ 1) (sym e)
    (claims_here (start + n) (pairs start o n) (raised o n) ∙ ap (λ (k : ℕ). k + 1) (claims_apart (start + n) start o n (λ f t. omega (arith, t)))))
    (λ ne. claims_elsewhere (start + n) b (pairs start o n) (raised o n) ne ∙ claims_within b start o n from (omega (arith, to, ne)))

in_run : (b start n : ℕ) → ((start ≤ b) × (b < start + n)) ⊎ (start ≤ b → b < start + n → ⊥)
in_run b start n = elim (cases_lt b start) [
  | inl below ↦ inr (λ from to. omega (arith, below, from))
  | inr from ↦ elim (cases_lt b (start + n)) [
    | inl to ↦ inl (from, to)
    | inr past ↦ inr (λ f to. omega (arith, past, to))
  ]
]

module _ (before : List (ℕ × Owner)) (first second new : List ℕ) (start : ℕ) (o : Owner) (n : ℕ) (maps : AreMaps before first second)
    (clear : (b : ℕ) → start ≤ b → b < start + n → has first b ≡ 0) (row : (b : ℕ) → start ≤ b → b < start + n → has new b ≡ 1) (others : (b : ℕ) → (start ≤ b → b < start + n → ⊥) → has new b ≡ has first b) where
  sum : (b : ℕ) → claims_of b (before ++ pairs start o n) ≡ claims_of b before + claims_of b (pairs start o n)
  sum b = sum_by-append (λ (x : ℕ × Owner). cond (x.0 == b) 1 0) before (pairs start o n)

  pub maps_row : AreMaps (before ++ pairs start o n) new second
  maps_row = record {
    once = λ b. (let all = sum b in elim (in_run b start n) [
      | inl i ↦ (let one = claims_within b start o n i.0 i.1 in let is = row b i.0 i.1 in omega (arith, all, one, is))
      | inr out ↦ (let none = claims_apart b start o n out in let is = others b out in let was = maps.once b in omega (arith, all, none, is, was))
    ]);
    twice = λ b. (let all = sum b in let was = maps.twice b in elim (in_run b start n) [
      | inl i ↦ (let one = claims_within b start o n i.0 i.1 in let is = clear b i.0 i.1 in let once = maps.once b in omega (arith, all, one, is, once, was))
      | inr out ↦ (let none = claims_apart b start o n out in omega (arith, all, none, was))
    ]);
  }
