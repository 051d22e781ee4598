-- A view that has all seats.
use Rattle.std.proofs.Common.{◌≡◌, ℕ, zero, suc, ◌+◌, ◌-◌, ◌<◌, cond, true, false, List, [], ◌∷◌, map, sym, refl, ap, ◌∙◌, arith, min}
use Rattle.std.specs.Prelude.{◌==◌}
use Rattle.std.specs.List.{All, sum_by, count_by}
use Rattle.std.proofs.lemmas.List.Sums.{sum_by-cons}
use Rattle.std.proofs.lemmas.List.Elements.{All-head, All-tail}
use Rattle.std.proofs.lemmas.Nat.Bits.{bit_at-lt}
use Rattle.std.proofs.Common.{get_or, ◌/◌, ◌%◌}
use mathlib.Core.Bool.{Bool, not, ◌&&◌}
use mathlib.Core.Option.{some}
use lib.ListN.{get_elem?}
use Rattle.nv_blockset.specs.BlockSet.{has}
use Rattle.nv_super.specs.declared.owners.Owner.{Owner}
use Rattle.nv_super.specs.Owners.{claims_of}
use Rattle.nv_claimcore.specs.declared.view.Sizes.{Sizes}
use Rattle.nv_claimcore.specs.declared.view.Record.{Record}
use Rattle.nv_claimcore.specs.declared.view.View.{View}
use Rattle.nv_claimcore.specs.Claims.{State, Legal, times, won, lost, marked, is_won, is_lost, is_marked, below, Settled}
use Rattle.nv_claimcore.specs.Finished.{pair_of}
use Rattle.nv_claimcore.proofs.Counting.{sum_alone}

won_or_lost : (w t : Bool) → ◌≡◌ {A = ℕ} (cond t 1 0) (cond (w && t) 1 0 + cond (not w && t) 1 0)
won_or_lost true true = refl
won_or_lost true false = refl
won_or_lost false true = refl
won_or_lost false false = refl

pub count_pairs : (b : ℕ) (rs : List Record) → claims_of b (map pair_of rs) ≡ count_by (is_won b) rs + count_by (is_lost b) rs
count_pairs b [] = refl
count_pairs b (r ∷ rs) = let rest = count_pairs b rs in let one = won_or_lost r.won (r.block == b) in
    let x = sum_by-cons (λ (p : ℕ × Owner). cond (p.0 == b) 1 0) (pair_of r) (map pair_of rs) in let y = sum_by-cons (λ q. cond (is_won b q) 1 0) r rs in let z = sum_by-cons (λ q. cond (is_lost b q) 1 0) r rs in omega arith

settled_one : (w m t : Bool) → m ≡ not w → ◌≡◌ {A = ℕ} (cond ((not w && m) && t) 1 0) (cond (not w && t) 1 0)
settled_one true m t e = refl
settled_one false m t e = ap (λ (x : Bool). cond (x && t) 1 0) e

pub count_settled : (b : ℕ) (rs : List Record) → All Settled rs → count_by (is_marked b) rs ≡ count_by (is_lost b) rs
count_settled b [] all = refl
count_settled b (r ∷ rs) all = let rest = count_settled b rs (All-tail Settled r rs all) in let one = settled_one r.won r.marked (r.block == b) (All-head Settled r rs all) in
    let y = sum_by-cons (λ q. cond (is_marked b q) 1 0) r rs in let z = sum_by-cons (λ q. cond (is_lost b q) 1 0) r rs in omega arith

module _ (z : Sizes) (s : State) (legal : Legal z s) (w : ℕ) (v : View) (at : get_elem? s.views w ≡ some v) (all : v.seats ≡ z.workers) (settled : All Settled v.records) where
  alone : (f : View → ℕ) → ((u : View) → u.numbers ≡ [] → u.records ≡ [] → f u ≡ 0) → sum_by f s.views ≡ f v
  alone f none = sum_alone f (λ (u : View). u.seats) s.views w v at (legal.seats ∙ sym all) (λ i u e idle. let nothing = (legal.each i u e).idle idle in none u nothing.0 nothing.1)

  -- the numbers are those below the cursor
  pub whole_numbers : (x : ℕ) → times x v.numbers ≡ below x s.cursor
  whole_numbers x = sym (alone (λ u. times x u.numbers) (λ u no_numbers no_records. ap (times x) no_numbers)) ∙ legal.numbers x

  whole_won : (b : ℕ) → won b v ≡ has s.first b
  whole_won b = sym (alone (won b) (λ u no_numbers no_records. ap (count_by (is_won b)) no_records)) ∙ legal.first b

  whole_lost : (b : ℕ) → has s.first b ≡ 0 → lost b v ≡ 0
  whole_lost b none = sym (alone (lost b) (λ u no_numbers no_records. ap (count_by (is_lost b)) no_records)) ∙ legal.lost b none

  whole_marked : (b : ℕ) → has s.second b ≡ min 1 (lost b v)
  whole_marked b = legal.second b ∙ ap (min 1) (alone (marked b) (λ u no_numbers no_records. ap (count_by (is_marked b)) no_records) ∙ count_settled b v.records settled)

  -- the first set has the claimed blocks, the second those that are claimed twice or more, and each claimed block is won once
  pub whole_first : (b : ℕ) → has s.first b ≡ min 1 (claims_of b (map pair_of v.records))
  whole_first b = let sum = count_pairs b v.records in let one = whole_won b in let bit = bit_at-lt (get_or s.first (b / 64) 0) (b % 64) in first_of_cases (has s.first b) (won b v) (lost b v) (claims_of b (map pair_of v.records)) one bit sum (whole_lost b) where
    first_of_cases : (h x y n : ℕ) → x ≡ h → h < 2 → n ≡ x + y → (h ≡ 0 → y ≡ 0) → h ≡ min 1 n
    first_of_cases zero x y n e l sum none = let none' = none refl in omega arith
    first_of_cases (suc h) x y n e l sum none = omega arith

  pub whole_second : (b : ℕ) → has s.second b ≡ min 1 (claims_of b (map pair_of v.records) - 1)
  whole_second b = let sum = count_pairs b v.records in let one = whole_won b in let bit = bit_at-lt (get_or s.first (b / 64) 0) (b % 64) in cases (has s.first b) (won b v) (lost b v) (claims_of b (map pair_of v.records)) (has s.second b) one bit sum (whole_lost b) (whole_marked b) where
    cases : (h x y n t : ℕ) → x ≡ h → h < 2 → n ≡ x + y → (h ≡ 0 → y ≡ 0) → t ≡ min 1 y → t ≡ min 1 (n - 1)
    cases zero x y n t e l sum none m = let none' = none refl in omega arith
    cases (suc h) x y n t e l sum none m = omega arith

  pub whole_once : (b : ℕ) → won b v ≡ min 1 (claims_of b (map pair_of v.records))
  whole_once b = whole_won b ∙ whole_first b
