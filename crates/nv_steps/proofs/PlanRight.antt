-- The plan of a write that isn't too large.
use Rattle.std.proofs.Common.{◌≡◌, ℕ, ◌+◌, ◌/◌, ◌%◌, ◌<◌, ◌≤◌, Bool, true, false, cond, nat_eq, nat_lt, not, is_some, IfSome, ◌&&◌, refl, arith, Option, Some, None}
use Rattle.std.proofs.lemmas.Bool.Decides.{nat_tests}
use Rattle.nv_region.specs.Region.{size}
use Rattle.nv_super.specs.Layout.{most_pages}
use Rattle.nv_scan.specs.declared.piece.Row.{Row}
use Rattle.nv_steps.specs.Writes.{ending_page, plan_of}
use Rattle.nv_steps.proofs.WriteFollows.{IsRight}
use Rattle.nv_steps.specs.declared.planning.Plan.{Plan}

-- the page where the file ended lies before the new bytes
ends_before : (mapped : ℕ → Option ℕ) (size offset q : ℕ) → ending_page mapped size offset ≡ Some q → q < offset / 4096
ends_before mapped size offset q is = by (not (nat_eq (size % 4096) 0)) (nat_lt (size / 4096) (offset / 4096)) (is_some (mapped (size / 4096))) refl is where
  by : (a b c : Bool) → nat_lt (size / 4096) (offset / 4096) ≡ b → cond (a && b && c) (Some (size / 4096)) None ≡ Some q → q < offset / 4096
  by true true true test e = (let same : size / 4096 ≡ q = cc in let less : size / 4096 < offset / 4096 = grind (arith, nat_tests) in omega (arith, same, less))
  by true true false test e = absurd (cc)
  by true false c test e = absurd (cc)
  by false b c test e = absurd (cc)

-- A write that isn't too large is right for its file.
pub plan_right : (row : Row) (mapped : ℕ → Option ℕ) (offset count time : ℕ) → row.numbers.size ≤ 1073741824 → 0 < count → offset + count ≤ 1073741824 → IsRight row (plan_of mapped row.numbers.size offset count time)
plan_right row mapped offset count time small some fits = record {
  some = omega (arith, some);
  before = λ q is. ends_before mapped row.numbers.size offset q is;
  small = omega (arith, small, fits);
  top = omega (arith, some, fits);
  last = omega (arith, some);
  grows = omega arith;
}

-- Then the page where the file ended is one that a file has.
pub ending_inside : {row : Row} {plan : Plan} → IsRight row plan → IfSome plan.ending (λ p. p < most_pages)
ending_inside {row} {plan} right = by plan.ending right.before where
  by : (o : Option ℕ) → ((q : ℕ) → o ≡ Some q → q < plan.first) → IfSome o (λ p. p < most_pages)
  by None before = tt
  by (Some q) before = let below = before q refl in let some = right.some in let top = right.top in omega (arith, below, some, top)
