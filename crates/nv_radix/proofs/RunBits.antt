-- The bits of a run of places.
use Rattle.std.proofs.Common.{◌≡◌, ℕ, ◌+◌, ◌-◌, ◌*◌, ◌/◌, ◌%◌, ◌^◌, ◌<◌, ◌≤◌, Bool, true, false, cond, suc, ap, ◌∙◌, arith, inl, inr, bit_or}
use Rattle.std.specs.Int.{bit_at}
use Rattle.std.proofs.Math.Nat.{mul_comm, mul-sub, mod-eq_of_lt}
use Rattle.std.proofs.Math.Pow.{pow_mono, pow_pos}
use Rattle.std.proofs.lemmas.Bool.Decides.{leb_tells}
use Rattle.std.proofs.lemmas.Nat.{pow-add}
use Rattle.std.proofs.lemmas.Nat.Bits.{ones_shr, bit_at-lt, bit_at_or, bit_at_mask_inside, bit_at_mask_below, bit_at_mask_above}
use Rattle.nv_radix.specs.Pages.{in_run}

-- ones, shifted
shifted_ones : (page count : ℕ) → (2 ^ count - 1) * 2 ^ page ≡ 2 ^ (page + count) - 2 ^ page
shifted_ones page count =
    let turned = mul_comm (2 ^ count - 1) (2 ^ page) in
    let parts = mul-sub (2 ^ page) (2 ^ count) 1 in
    let power = pow-add 2 page count in
    omega (arith, turned, parts, power)

mask_bits : (page count p : ℕ) → bit_at (2 ^ (page + count) - 2 ^ page) p ≡ cond (in_run page count p) 1 0
mask_bits page count p = elim (leb_tells page p) [
  | inl w ↦ elim (leb_tells (suc p) (page + count)) [
    | inl v ↦ rw (w.0, v.0) (bit_at_mask_inside page (page + count) p w.1 (omega (arith, v.1)))
    | inr v ↦ rw (w.0, v.0) (bit_at_mask_above page (page + count) p (omega (arith, v.1)))
  ]
  | inr w ↦ rw w.0 (bit_at_mask_below page (page + count) p (omega (arith, w.1)))
]

-- as many ones as the run has places, shifted to its first place
pub ones_of_run : (page count p : ℕ) → page + count ≤ 64 → bit_at (18446744073709551615 / 2 ^ (64 - count) * 2 ^ page % 18446744073709551616) p ≡ cond (in_run page count p) 1 0
ones_of_run page count p few =
    let size : 64 - (64 - count) ≡ count = omega (arith, few) in
    let ones : 18446744073709551615 / 2 ^ (64 - count) ≡ 2 ^ count - 1 = ones_shr 64 (64 - count) (omega arith) ∙ ap (λ (k : ℕ). 2 ^ k - 1) size in
    let mask : 18446744073709551615 / 2 ^ (64 - count) * 2 ^ page ≡ 2 ^ (page + count) - 2 ^ page = ap (λ (n : ℕ). n * 2 ^ page) ones ∙ shifted_ones page count in
    let most : 2 ^ (page + count) ≤ 2 ^ 64 = pow_mono few in
    let some : 0 < 2 ^ page = pow_pos page in
    let fits : 2 ^ (page + count) - 2 ^ page < 18446744073709551616 = omega (arith, most, some) in
    ap (λ (n : ℕ). bit_at (n % 18446744073709551616) p) mask ∙ ap (λ (n : ℕ). bit_at n p) (mod-eq_of_lt fits) ∙ mask_bits page count p

-- the bits of a run are set
pub or_run : (mapped bits p : ℕ) (t : Bool) → bit_at bits p ≡ cond t 1 0 → bit_at (bit_or mapped bits) p ≡ cond t 1 (bit_at mapped p)
or_run mapped bits p true e = (let both = bit_at_or mapped bits p in let few = bit_at-lt mapped p in omega (arith, both, few, e))
or_run mapped bits p false e = (let both = bit_at_or mapped bits p in omega (arith, both, e))
