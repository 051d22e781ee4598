-- Of what can apply, in an order of ranks, the first that does is one.
use Rattle.std.proofs.Common.{◌≡◌, ℕ, ◌<◌, inl, inr, ap, sym, ◌∙◌, arith}
use Rattle.std.proofs.lemmas.Bool.{cases_lt}

-- where each has a rank of its own
pub one_first : {A : Type 0} (rank : A → ℕ) (of_rank : ℕ → A) → ((x : A) → of_rank (rank x) ≡ x) → (Applies : A → Type 0) (a b : A)
    → Applies a → ((x : A) → rank x < rank a → Applies x → ⊥) → Applies b → ((x : A) → rank x < rank b → Applies x → ⊥) → a ≡ b
one_first rank of_rank back Applies a b applies_a first_a applies_b first_b = elim (cases_lt (rank a) (rank b)) [
  | inl less ↦ absurd (first_b a less applies_a)
  | inr more ↦ elim (cases_lt (rank b) (rank a)) [
    | inl less ↦ absurd (first_a b less applies_b)
    | inr other ↦ (let same : rank a ≡ rank b = omega (arith, more, other) in sym (back a) ∙ ap of_rank same ∙ back b)
  ]
]
