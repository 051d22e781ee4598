-- One page more at the end of a map.
use Rattle.std.proofs.Common.{◌≡◌, ℕ, ◌+◌, ◌<◌, Bool, true, false, cond, eqb, ◌++◌, [], ◌∷◌, Option, None, refl, ap, ◌∙◌, arith, inl, inr}
use Rattle.std.proofs.lemmas.Bool.Decides.{eqb_tells}
use Rattle.nv_radix.specs.Pages.{Pages, block_at}
use Rattle.nv_radix.specs.Rising.{Rises}
use Rattle.nv_radix.proofs.Rising.{block_at-above, block_at-first, block_at-second}

at_itself : (p : ℕ) (o : Option ℕ) → block_at ((p, o) ∷ []) p ≡ o
at_itself p o = elim (eqb_tells p p) [ inl w ↦ rw w.0 refl | inr w ↦ absurd (w.1 refl) ]

-- the new page
pub block_at-push_same : (m : Pages) (p : ℕ) (o : Option ℕ) → Rises 0 p m → block_at (m ++ (p, o) ∷ []) p ≡ o
block_at-push_same m p o h = block_at-second 0 p m ((p, o) ∷ []) p h (omega arith) ∙ at_itself p o

-- the pages before it
pub block_at-push_below : (m : Pages) (p q : ℕ) (o : Option ℕ) → q < p → block_at (m ++ (p, o) ∷ []) q ≡ block_at m q
block_at-push_below m p q o l = block_at-first p (p + 1) m ((p, o) ∷ []) q (omega arith, omega arith, omega arith) l

-- and those behind it
pub block_at-push_above : (m : Pages) (p q : ℕ) (o : Option ℕ) → Rises 0 p m → p < q → block_at (m ++ (p, o) ∷ []) q ≡ None
block_at-push_above m p q o h l = block_at-second 0 p m ((p, o) ∷ []) q h (omega (arith, l)) ∙ block_at-above p (p + 1) ((p, o) ∷ []) q (omega arith, omega arith, omega arith) (omega (arith, l))

none_again : (b : Bool) → cond {A = Option ℕ} b None None ≡ None
none_again true = refl
none_again false = refl

-- a page with no block changes nothing
pub block_at-push_none : (m : Pages) (p q : ℕ) → block_at (m ++ (p, None) ∷ []) q ≡ block_at m q
block_at-push_none [] p q = none_again (eqb p q)
block_at-push_none (x ∷ xs) p q = ap (cond (eqb x.0 q) x.1) (block_at-push_none xs p q)
