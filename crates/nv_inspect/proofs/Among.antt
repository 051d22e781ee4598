-- Whether a page is among others.
use Rattle.std.proofs.Common.{◌≡◌, ◌∙◌, ◌<◌, ◌≤◌, ℕ, Bool, true, false, ◌&&◌, nat_le, nat_lt, Option, Some, None, refl, ap, arith}
use Rattle.std.specs.Prelude.{IsTrue}
use Rattle.std.proofs.lemmas.Bool.{false≢true}
use Rattle.std.proofs.lemmas.Bool.Decides.{nat_tests}
use Rattle.nv_inspect.specs.Held.{is_among, is_before}

pub le_is : (x y : ℕ) → nat_le x y ≡ true → x ≤ y
le_is x y h = grind (arith, nat_tests)

pub is_le : (x y : ℕ) → x ≤ y → nat_le x y ≡ true
is_le x y h = grind (arith, nat_tests)

pub no_le : (x y : ℕ) → y < x → nat_le x y ≡ false
no_le x y h = grind (arith, nat_tests)

pub is_lt : (x y : ℕ) → x < y → nat_lt x y ≡ true
is_lt x y h = grind (arith, nat_tests)

pub lt_is : (x y : ℕ) → nat_lt x y ≡ true → x < y
lt_is x y h = grind (arith, nat_tests)

pub no_lt : (x y : ℕ) → y ≤ x → nat_lt x y ≡ false
no_lt x y h = grind (arith, nat_tests)

pub below_end : (e p page : ℕ) → nat_lt page e ≡ false → nat_lt p e ≡ true → p < page
below_end e p page never is_so = grind (arith, nat_tests)

pub and_split : (b c : Bool) → (b && c) ≡ true → (b ≡ true) × (c ≡ true)
and_split true c h = (refl, h)
and_split false c h = absurd (false≢true h)

pub and_false : (b : Bool) → (b && false) ≡ false
and_false true = refl
and_false false = refl

pub is_among_split : (first : ℕ) (end : Option ℕ) (p : ℕ) → IsTrue (is_among first end p) → (first ≤ p) × IsTrue (is_before end p)
is_among_split first end p h = let w = and_split (nat_le first p) (is_before end p) h in (le_is first p w.0, w.1)

pub is_among_both : (first : ℕ) (end : Option ℕ) (p : ℕ) → first ≤ p → IsTrue (is_before end p) → IsTrue (is_among first end p)
is_among_both first end p from before = ap (λ (t : Bool). t && is_before end p) (is_le first p from) ∙ before

pub among_front : (first : ℕ) (end : Option ℕ) (p : ℕ) → p < first → is_among first end p ≡ false
among_front first end p less = ap (λ (t : Bool). t && is_before end p) (no_le first p less)

pub among_behind : (first end p : ℕ) → end ≤ p → is_among first (Some end) p ≡ false
among_behind first end p past = ap (λ (t : Bool). nat_le first p && t) (no_lt p end past) ∙ and_false (nat_le first p)

pub among_open : (first p : ℕ) → first ≤ p → is_among first None p ≡ true
among_open first p from = is_among_both first None p from refl

pub among_both : (first end p : ℕ) → first ≤ p → p < end → is_among first (Some end) p ≡ true
among_both first end p from below = is_among_both first (Some end) p from (is_lt p end below)

pub among_to : (first end p : ℕ) → is_among first (Some end) p ≡ true → p < end
among_to first end p h = lt_is p end (and_split (nat_le first p) (nat_lt p end) h).1
