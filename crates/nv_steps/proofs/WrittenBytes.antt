-- The bytes of a file once it was written.
use Rattle.std.proofs.Common.{◌≡◌, ℕ, ◌+◌, ◌-◌, ◌*◌, ◌/◌, ◌%◌, ◌<◌, ◌≤◌, inl, inr, max, Bool, true, false, cond, nat_eq, nat_le, nat_lt, not, is_some, ◌&&◌, List, length, slice_index, refl, ap, sym, ◌∙◌, arith, Option, Some, None}
use Rattle.std.proofs.lemmas.Bool.{cases_lt, le-ltb, lt-leb, lt-ltb}
use Rattle.std.proofs.lemmas.Bool.Decides.{nat_tests}
use Rattle.nv_region.specs.Region.{Region}
use Rattle.nv_radix.specs.Pages.{Pages, block_at}
use Rattle.nv_mounted.specs.Bytes.{byte_in}
use Rattle.nv_bytes.specs.Bytes.{byte_after, file_byte}
use Rattle.nv_steps.specs.Writes.{ending_page, plan_of}
use Rattle.nv_steps.proofs.DataEntries.{IsWritten}

ends_there : (mapped : ℕ → Option ℕ) (size offset p b : ℕ) → mapped p ≡ Some b → p * 4096 < size → size < (p + 1) * 4096 → p < offset / 4096 → ending_page mapped size offset ≡ Some p
ends_there mapped size offset p b at low high before =
    let page : size / 4096 ≡ p = omega (arith, low, high) in
    let part : not (nat_eq (size % 4096) 0) ≡ true = not_whole (size % 4096) (omega (arith, low, high)) in
    let less : nat_lt (size / 4096) (offset / 4096) ≡ true = lt-ltb (size / 4096) (offset / 4096) (omega (arith, page, before)) in
    let there : is_some (mapped (size / 4096)) ≡ true = ap is_some (ap mapped page ∙ at) in
    all (not (nat_eq (size % 4096) 0)) (nat_lt (size / 4096) (offset / 4096)) (is_some (mapped (size / 4096))) part less there ∙ ap (λ (n : ℕ). Some n) page
  where
    not_whole : (n : ℕ) → 0 < n → not (nat_eq n 0) ≡ true
    not_whole n some = grind (arith, nat_tests)

    all : (a c d : Bool) → a ≡ true → c ≡ true → d ≡ true → cond (a && c && d) (Some (size / 4096)) None ≡ Some (size / 4096)
    all true true true e f g = refl
    all true true false e f g = absurd (cc)
    all true false d e f g = absurd (cc)
    all false c d e f g = absurd (cc)

-- A byte of a page that isn't written stays, and is zero past the old size.
pub unwritten_byte : (R : Region) (m : Pages) (size offset time x : ℕ) (new : List ℕ) → 0 < length new → ((p b : ℕ) → block_at m p ≡ Some b → p * 4096 < size) → x < max size (offset + length new)
    → (IsWritten (plan_of (block_at m) size offset (length new) time) (x / 4096) → ⊥) → byte_after offset new size (file_byte R m) x ≡ file_byte R m x
unwritten_byte R m size offset time x new some below inside away = elim (cases_lt x offset) [
  | inl before ↦ elim (cases_lt x size) [
    | inl low ↦ by_tests (nat_le offset x) (nat_lt x (offset + length new)) (nat_lt x size) (lt-leb offset x before) (lt-ltb x size low)
    | inr past ↦ past_size (nat_le offset x) (nat_lt x (offset + length new)) (nat_lt x size) (lt-leb offset x before) (le-ltb x size past) before past
  ]
  | inr from ↦ elim (cases_lt x (offset + length new)) [
    | inl within ↦ absurd (away (inr (omega (arith, from), omega (arith, from, within))))
    | inr behind ↦ elim (cases_lt x size) [
      | inl low ↦ behind_tests (nat_le offset x) (nat_lt x (offset + length new)) (nat_lt x size) (le-ltb x (offset + length new) behind) (lt-ltb x size low)
      | inr past ↦ absurd (omega (arith, inside, behind, past))
    ]
  ]
] where
  by_tests : (a b c : Bool) → a ≡ false → c ≡ true → cond (a && b) (slice_index new (x - offset)) (cond c (file_byte R m x) 0) ≡ file_byte R m x
  by_tests false b true e f = refl
  by_tests false b false e f = absurd (cc)
  by_tests true b c e f = absurd (cc)

  behind_tests : (a b c : Bool) → b ≡ false → c ≡ true → cond (a && b) (slice_index new (x - offset)) (cond c (file_byte R m x) 0) ≡ file_byte R m x
  behind_tests false b true e f = refl
  behind_tests true false true e f = refl
  behind_tests true true c e f = absurd (cc)
  behind_tests a b false e f = absurd (cc)

  none_there : (o : Option ℕ) → block_at m (x / 4096) ≡ o → x < offset → size ≤ x → byte_in R o x ≡ 0
  none_there None at before past = refl
  none_there (Some b) at before past =
      let low = below (x / 4096) b at in
      absurd (elim (cases_lt (x / 4096) (offset / 4096)) [
        | inl less ↦ away (inl (ends_there (block_at m) size offset (x / 4096) b at low (omega (arith, past)) less))
        | inr same ↦ away (inr (same, omega (arith, before, some)))
      ])

  past_size : (a b c : Bool) → a ≡ false → c ≡ false → x < offset → size ≤ x → cond (a && b) (slice_index new (x - offset)) (cond c (file_byte R m x) 0) ≡ file_byte R m x
  past_size false b false e f before past = sym (none_there (block_at m (x / 4096)) refl before past)
  past_size false b true e f before past = absurd (cc)
  past_size true b c e f before past = absurd (cc)
