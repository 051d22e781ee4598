-- The bytes of a written page past the end of its file.
use Rattle.std.proofs.Common.{◌≡◌, ℕ, ◌+◌, ◌-◌, ◌/◌, ◌≤◌, inl, inr, Bool, true, false, cond, nat_le, nat_lt, ◌&&◌, List, [], ◌∷◌, length, slice_index, refl, ap, sym, ◌∙◌, subst, arith, Some}
use Rattle.std.proofs.lemmas.Bool.{le-ltb}
use Rattle.nv_region.specs.Region.{Region}
use Rattle.nv_super.proofs.Rising.{Contains-cons}
use Rattle.nv_entry.specs.declared.entry.AttrEntry.{AttrEntry}
use Rattle.nv_entry.specs.declared.entry.WriteEntry.{WriteEntry}
use Rattle.nv_entry.specs.declared.entry.Entry.TheVariants.{Attr, Write}
use Rattle.nv_mounted.specs.Bytes.{byte_in}
use Rattle.nv_bytes.specs.Bytes.{byte_after}
use Rattle.nv_steps.specs.Zeros.{ZerosFrom}

-- A byte past the old size and the new bytes is zero.
pub zero_after : (offset : ℕ) (new : List ℕ) (size : ℕ) (old : ℕ → ℕ) (x : ℕ) → offset + length new ≤ x → size ≤ x → byte_after offset new size old x ≡ 0
zero_after offset new size old x behind past = by (nat_le offset x) (nat_lt x (offset + length new)) (nat_lt x size) (le-ltb x (offset + length new) behind) (le-ltb x size past) where
  by : (a b c : Bool) → b ≡ false → c ≡ false → cond (a && b) (slice_index new (x - offset)) (cond c (old x) 0) ≡ 0
  by true false false e f = refl
  by false false false e f = refl
  by a true c e f = absurd (cc)
  by a b true e f = absurd (cc)

-- Attributes alone write no page.
pub no_zeros : (R : Region) (size : ℕ) (x : AttrEntry) → ZerosFrom R size (Attr x ∷ [])
no_zeros R size x w here k y low page past = elim (Contains-cons (Attr x) [] (Write w) here) [ inl same ↦ absurd (cc) | inr none ↦ absurd (omega (arith, none.1)) ]

-- An entry of one page, and then attributes.
pub one_page_zeros : (R : Region) (size : ℕ) (one : WriteEntry) (x : AttrEntry) → one.count ≡ 1 → ((y : ℕ) → y / 4096 ≡ one.offset → size ≤ y → byte_in R (Some one.block) y ≡ 0) → ZerosFrom R size (Write one ∷ Attr x ∷ [])
one_page_zeros R size one x single zeros w here k y low page past = elim (Contains-cons (Write one) (Attr x ∷ []) (Write w) here) [
  | inl same ↦ (
      let is : w ≡ one = cc in
      let count : w.count ≡ 1 = ap (λ (v : WriteEntry). v.count) is ∙ single in
      let first : k ≡ 0 = omega (arith, low, count) in
      let block : one.block ≡ w.block + k = sym (ap (λ (v : WriteEntry). v.block) is) ∙ omega (arith, first) in
      let offset : y / 4096 ≡ one.offset = page ∙ omega (arith, first) ∙ ap (λ (v : WriteEntry). v.offset) is in
      subst (λ (b : ℕ). byte_in R (Some b) y ≡ 0) block (zeros y offset past))
  | inr rest ↦ no_zeros R size x w rest k y low page past
]
