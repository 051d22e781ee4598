-- New bytes of a file, byte by byte.
use Rattle.std.proofs.Common.{◌≡◌, ℕ, ◌+◌, ◌-◌, ◌/◌, ◌%◌, ◌<◌, ◌≤◌, true, false, List, length, get_or, nat_le, nat_lt, refl, ap, ◌∙◌, arith}
use Rattle.std.proofs.lemmas.Bool.Decides.{nat_tests}
use Rattle.nv_bytes.specs.Bytes.{byte_after, byte_of_word}

-- a place among the new bytes
pub new_byte : (offset size x k : ℕ) (new : List ℕ) (old : ℕ → ℕ) → offset ≤ x → x + 8 ≤ offset + length new → k < 8 → get_or new ((x - offset) + k) 0 ≡ byte_after offset new size old (x + k)
new_byte offset size x k new old from to few =
    let low : nat_le offset (x + k) ≡ true = grind (arith, nat_tests) in
    let high : nat_lt (x + k) (offset + length new) ≡ true = grind (arith, nat_tests) in
    let place : (x + k) - offset ≡ (x - offset) + k = omega arith in
    rw (low, high, place) refl

-- a word below the size stays where it lies before the new bytes or behind them
pub stays_before : (offset size x k : ℕ) (new : List ℕ) (old : ℕ → ℕ) → x + 8 ≤ size → x + 8 ≤ offset → k < 8 → byte_after offset new size old (x + k) ≡ old (x + k)
stays_before offset size x k new old below before few =
    let low : nat_le offset (x + k) ≡ false = grind (arith, nat_tests) in
    let inside : nat_lt (x + k) size ≡ true = grind (arith, nat_tests) in
    rw (low, inside) refl

pub stays_behind : (offset size x k : ℕ) (new : List ℕ) (old : ℕ → ℕ) → x + 8 ≤ size → offset + length new ≤ x → k < 8 → byte_after offset new size old (x + k) ≡ old (x + k)
stays_behind offset size x k new old below behind few =
    let low : nat_le offset (x + k) ≡ true = grind (arith, nat_tests) in
    let high : nat_lt (x + k) (offset + length new) ≡ false = grind (arith, nat_tests) in
    let inside : nat_lt (x + k) size ≡ true = grind (arith, nat_tests) in
    rw (low, high, inside) refl

-- byte k of the word in which byte x of something stands
pub old_byte : (f : ℕ → ℕ) (w x k : ℕ) → x % 8 ≡ 0 → k < 8 → ((y : ℕ) → y / 8 ≡ x / 8 → byte_of_word w (y % 8) ≡ f y) → byte_of_word w k ≡ f (x + k)
old_byte f w x k whole few each =
    let place : k ≡ (x + k) % 8 = omega arith in
    ap (byte_of_word w) place ∙ each (x + k) (omega arith)
