-- What a function gives for numbers in a row.
use Rattle.std.proofs.Common.{◌≡◌, ℕ, zero, suc, ◌+◌, ◌-◌, ◌*◌, ◌/◌, ◌<◌, ◌≤◌, min, List, ◌∷◌, ◌++◌, map, refl, ap, ◌∙◌, arith, append_assoc, Result, Ok, Err, OnOk, is_ok, if◌then◌else◌}
use Rattle.std.specs.List.{range_with_len}
use Rattle.nv_super.proofs.Ranges.{range_more}

-- what is told up to one place, and from there up to another
pub range_seam : (f : ℕ → ℕ) (a b c : ℕ) → a ≤ b → b ≤ c → map f (range_with_len a (b - a)) ++ map f (range_with_len b (c - b)) ≡ map f (range_with_len a (c - a))
range_seam f a b c low high =
    ap (λ (d : ℕ). map f (range_with_len a (b - a)) ++ map f (range_with_len d (c - b))) (let e : b ≡ a + (b - a) = omega arith in e)
    ∙ range_more f a (b - a) (c - b)
    ∙ ap (λ (k : ℕ). map f (range_with_len a k)) (let e : (b - a) + (c - b) ≡ c - a = omega arith in e)

-- one piece more behind those so far
pub piece_more : (f : ℕ → ℕ) (old now new piece : List ℕ) (a b c : ℕ) → a ≤ b → b ≤ c → now ≡ old ++ map f (range_with_len a (b - a)) → new ≡ now ++ piece → piece ≡ map f (range_with_len b (c - b)) → new ≡ old ++ map f (range_with_len a (c - a))
piece_more f old now new piece a b c low high so_far more is =
    more ∙ ap (λ (l : List ℕ). l ++ piece) so_far ∙ append_assoc old (map f (range_with_len a (b - a))) piece
    ∙ ap (λ (l : List ℕ). old ++ l) (ap (λ (l : List ℕ). map f (range_with_len a (b - a)) ++ l) is ∙ range_seam f a b c low high)

-- two functions that agree on the numbers
pub same_range : (f g : ℕ → ℕ) (a n : ℕ) → ((x : ℕ) → a ≤ x → x < a + n → f x ≡ g x) → map f (range_with_len a n) ≡ map g (range_with_len a n)
same_range f g a zero same = refl
same_range f g a (suc n) same =
    ap (λ (x : ℕ). x ∷ map f (range_with_len (a + 1) n)) (same a (omega arith) (omega arith))
    ∙ ap (λ (l : List ℕ). g a ∷ l) (same_range f g (a + 1) n (λ x low high. same x (omega arith) (omega arith)))

-- what a call adds where it succeeds
pub added : {T E : Type 0} (result : Result T E) (old new piece other : List ℕ) → new ≡ (if is_ok result then old ++ piece else old) → piece ≡ other → OnOk result (new ≡ old ++ other)
added (Ok done) old new piece other is same = is ∙ ap (λ (l : List ℕ). old ++ l) same
added (Err refused) old new piece other is same = tt

-- ---- what is read of one page: up to its end, or to that of what is wanted

pub page_on : (at end stop : ℕ) → stop ≡ min end ((at / 4096 + 1) * 4096) → at < end → at ≤ stop
page_on at end stop is more = omega arith

pub page_high : (end next stop : ℕ) → stop ≡ min end next → stop ≤ end
page_high end next stop is = omega arith

pub page_smaller : (at end stop : ℕ) → stop ≡ min end ((at / 4096 + 1) * 4096) → at < end → end - stop < end - at
page_smaller at end stop is more = omega arith

pub on_page : (at end stop x : ℕ) → stop ≡ min end ((at / 4096 + 1) * 4096) → at ≤ x → x < at + (stop - at) → at / 4096 ≡ x / 4096
on_page at end stop x is low high = omega arith

-- all that is wanted
pub all_read : (at offset count : ℕ) → offset + count ≤ at → at ≤ offset + count → at - offset ≡ count
all_read at offset count past low = omega arith
