-- One block more in a set.
use Rattle.std.proofs.Common.{◌≡◌, ◌≢◌, ◌⊎◌, inl, inr, ◌||◌, ◌/◌, ◌<◌, ◌∙◌, ℕ, Bool, true, false, refl, List, length, eqb, eq-eqb, ap, sym}
use Rattle.std.proofs.lemmas.Bool.{cases_eq, ne_eqb}
use Rattle.std.proofs.Math.Bool.{or-false}
use Rattle.nv_blockset.specs.BlockSet.{is_set, with_block}
use Rattle.nv_blockset.proofs.Sets.{has_same, has_other}

pub set_more : (words : List ℕ) (block b : ℕ) → block / 64 < length words → is_set (with_block words block) b ≡ (is_set words b || eqb b block)
set_more words block b inside = by (cases_eq b block)
  where
    or_true : (a : Bool) → true ≡ (a || true)
    or_true true = refl
    or_true false = refl

    or_on : (a t : Bool) → t ≡ true → true ≡ (a || t)
    or_on a t on = or_true a ∙ ap (λ (u : Bool). a || u) (sym on)

    by : (b ≡ block) ⊎ (b ≢ block) → is_set (with_block words block) b ≡ (is_set words b || eqb b block)
    by (inl is) = ap (λ (x : ℕ). is_set (with_block words block) x) is ∙ ap (λ (x : ℕ). eqb x 1) (has_same words block inside) ∙ or_on (is_set words b) (eqb b block) (eq-eqb b block is)
    by (inr differs) = ap (λ (x : ℕ). eqb x 1) (has_other words block b inside differs) ∙ sym (ap (λ (t : Bool). is_set words b || t) (ne_eqb b block differs) ∙ or-false (is_set words b))
