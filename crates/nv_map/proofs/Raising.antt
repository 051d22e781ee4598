-- How what cells tell grows.
use Rattle.std.proofs.Common.{◌⊎◌, inl, inr, ℕ, ◌<◌, List, [], ◌∷◌, ◌++◌, get_or, refl, sym, ◌∙◌, subst, arith}
use Rattle.std.proofs.lemmas.List.Elements.{Contains-append_left, Contains-push, Contains-push_cases}
use Rattle.nv_super.proofs.Members.{none_in}
use Rattle.nv_map.specs.declared.uses.BlockUse.{BlockUse}
use Rattle.nv_map.specs.declared.uses.BlockUse.TheVariants.{Free}
use Rattle.nv_map.specs.declared.marks.Marks.{Marks}
use Rattle.nv_map.specs.Marks.{HasRoom, IsRaised, Raises, SaysOne}

-- where no block is used so, nothing changes
pub raises_none : (has : ℕ → BlockUse → Type 0) (m : Marks) → ((b : ℕ) (other : BlockUse) → b < m.blocks → has b other → ⊥) → Raises has m m
raises_none has m none = record {
  blocks = refl;
  each = refl;
  count = refl;
  cells = λ place inside. record { had = inl refl; later = omega arith; last = λ b other below at h. absurd (none b other below h) };
}

module _ (P Q R : ℕ → BlockUse → Type 0) (first : (b : ℕ) (other : BlockUse) → P b other → R b other) (second : (b : ℕ) (other : BlockUse) → Q b other → R b other)
    (either : (b : ℕ) (other : BlockUse) → R b other → P b other ⊎ Q b other) where
  cell_both : (blocks each place : ℕ) (u v w : BlockUse) → IsRaised P blocks each place u v → IsRaised Q blocks each place v w → IsRaised R blocks each place u w
  cell_both blocks each place u v w p q = record {
    had = elim q.had [
      | inl same ↦ elim p.had [
        | inl old ↦ inl (same ∙ old)
        | inr (b, below, at, h) ↦ inr (b, below, at, subst (λ (x : BlockUse). R b x) (sym same) (first b v h))
      ]
      | inr (b, below, at, h) ↦ inr (b, below, at, second b w h)
    ];
    later = omega (arith, p.later, q.later);
    last = λ b other below at h. elim (either b other h) [
      | inl x ↦ (let one = p.last b other below at x in omega (arith, one, q.later))
      | inr y ↦ q.last b other below at y
    ];
  }

  -- what is told in turn
  pub raises_both : (a b c : Marks) → Raises P a b → Raises Q b c → Raises R a c
  raises_both a b c p q = record {
    blocks = q.blocks ∙ p.blocks;
    each = q.each ∙ p.each;
    count = q.count ∙ p.count;
    cells = λ place inside.
        let next : IsRaised Q a.blocks a.each place (get_or b.uses.items place Free) (get_or c.uses.items place Free) =
        rw (sym p.blocks, sym p.each) (q.cells place (omega (arith, inside, p.count))) in
        cell_both a.blocks a.each place _ _ _ (p.cells place inside) next;
  }

-- the same said in other words
pub raises_as : (P R : ℕ → BlockUse → Type 0) (a b : Marks) → ((x : ℕ) (other : BlockUse) → P x other → R x other) → ((x : ℕ) (other : BlockUse) → R x other → P x other) → Raises P a b → Raises R a b
raises_as P R a b to back p =
    raises_both P (λ x other. ⊥) R to (λ x other h. absurd h) (λ x other h. inl (back x other h)) a b b p (raises_none (λ x other. ⊥) b (λ x other below h. h))

pub has_room : (P : ℕ → BlockUse → Type 0) (a b : Marks) → Raises P a b → HasRoom a → HasRoom b
has_room P a b p room = record {
  some = subst (λ (n : ℕ). 0 < n) (sym p.each) room.some;
  room = rw (p.blocks, p.count, p.each) room.room;
}

-- nothing is said by nobody
pub says_none : {X : Type 0} (says : X → ℕ → BlockUse → Type 0) (m : Marks) → Raises (SaysOne says []) m m
says_none says m = raises_none (SaysOne says []) m (λ b other below h. none_in h.0 h.1)

-- one more of them is heard
pub says_more : {X : Type 0} (says : X → ℕ → BlockUse → Type 0) (xs : List X) (x : X) (a b c : Marks) → Raises (SaysOne says xs) a b → Raises (says x) b c → Raises (SaysOne says (xs ++ x ∷ [])) a c
says_more {X} says xs x a b c p q =
    raises_both (SaysOne says xs) (says x) (SaysOne says (xs ++ x ∷ []))
    (λ n other h. (h.0, Contains-append_left xs (x ∷ []) h.0 h.1, h.2))
    (λ n other h. (x, Contains-push xs x, h))
    (λ n other h. elim (Contains-push_cases xs x h.0 h.1) [
      | inl one ↦ inl (h.0, one, h.2)
      | inr last ↦ inr (subst (λ (y : X). says y n other) (sym last) h.2)
    ])
    a b c p q
