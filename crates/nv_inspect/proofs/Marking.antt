-- Marks of some entries, and then of others.
use Rattle.std.proofs.Common.{◌∙◌, ℕ, List, Option, refl, arith, inl, inr, ◌⊎◌}
use Rattle.nv_inspect.specs.Held.{Marks}

module _ (by : ℕ) where
  -- of the same entries
  pub marks_as : (P Q : ℕ → Type 0) (old new : List (Option ℕ)) → ((k : ℕ) → P k → Q k) → ((k : ℕ) → Q k → P k) → Marks by P old new → Marks by Q old new
  marks_as P Q old new to from marks = record {
    long = marks.long;
    each = λ k below. elim (marks.each k below) [
      | inl w ↦ inl (to k w.0, w.1)
      | inr w ↦ inr (λ q. w.0 (from k q), w.1)
    ];
  }

  -- of these and those
  pub marks_both : (P Q : ℕ → Type 0) (old mid new : List (Option ℕ)) → Marks by P old mid → Marks by Q mid new → Marks by (λ (k : ℕ). P k ⊎ Q k) old new
  marks_both P Q old mid new first second = record {
    long = second.long ∙ first.long;
    each = λ k below. elim (second.each k (let long = first.long in omega (arith, below, long))) [
      | inl w ↦ inl (inr w.0, w.1)
      | inr w ↦ elim (first.each k below) [
        | inl v ↦ inl (inl v.0, w.1 ∙ v.1)
        | inr v ↦ inr (λ both. elim both [ inl p ↦ v.0 p | inr q ↦ w.0 q ], w.1 ∙ v.1)
      ]
    ];
  }

  -- of none
  pub marks_none : (P : ℕ → Type 0) (old : List (Option ℕ)) → ((k : ℕ) → P k → ⊥) → Marks by P old old
  marks_none P old never = record { long = refl; each = λ k below. inr (never k, refl) }

  -- of these and then those, which are all
  pub marks_then : (P Q all : ℕ → Type 0) (old mid new : List (Option ℕ)) → Marks by P old mid → Marks by Q mid new → ((k : ℕ) → P k ⊎ Q k → all k) → ((k : ℕ) → all k → P k ⊎ Q k) → Marks by all old new
  marks_then P Q all old mid new first second to from = marks_as (λ (k : ℕ). P k ⊎ Q k) all old new to from (marks_both P Q old mid new first second)
