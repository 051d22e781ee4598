-- What a filter and a sort leave.
use Rattle.std.proofs.Common.{◌≡◌, ℕ, ◌⊎◌, inl, inr, Bool, true, false, cond, List, [], ◌∷◌, refl, ap, sym, ◌∙◌, subst, arith}
use Rattle.std.specs.List.{Contains, filter}
use Rattle.nv_super.specs.Order.{Rises, Lists, SortedOf}
use Rattle.nv_super.proofs.Rising.{Contains-cons, Contains-head, Contains-tail, head_least, tail_rises, rises_cons}

pub from_filter : {A : Type 0} (p : A → Bool) (xs : List A) (x : A) → Contains (filter p xs) x → Contains xs x × (p x ≡ true)
from_filter p [] x c = absurd (omega (arith, c.1))
from_filter {A} p (y ∷ xs) x c = test (p y) refl c (from_filter p xs x) where
  test : (b : Bool) → p y ≡ b → Contains (cond b (y ∷ filter p xs) (filter p xs)) x → (Contains (filter p xs) x → Contains xs x × (p x ≡ true)) → Contains (y ∷ xs) x × (p x ≡ true)
  test true e c rest = elim (Contains-cons y (filter p xs) x c) [
    | inl w ↦ ((let P : A → Type 0 = λ z. Contains (y ∷ xs) z in subst P (sym w) (Contains-head y xs)), ap p w ∙ e)
    | inr w ↦ (let r = rest w in (Contains-tail y xs x r.0, r.1))
  ]
  test false e c rest = let r = rest c in (Contains-tail y xs x r.0, r.1)

pub into_filter : {A : Type 0} (p : A → Bool) (xs : List A) (x : A) → Contains xs x → p x ≡ true → Contains (filter p xs) x
into_filter p [] x c h = absurd (omega (arith, c.1))
into_filter {A} p (y ∷ xs) x c h = test (p y) refl (Contains-cons y xs x c) (λ w. into_filter p xs x w h) where
  test : (b : Bool) → p y ≡ b → (x ≡ y) ⊎ Contains xs x → (Contains xs x → Contains (filter p xs) x) → Contains (cond b (y ∷ filter p xs) (filter p xs)) x
  test true e (inl w) rest = let P : A → Type 0 = λ z. Contains (y ∷ filter p xs) z in subst P (sym w) (Contains-head y (filter p xs))
  test true e (inr w) rest = Contains-tail y (filter p xs) x (rest w)
  test false e (inl w) rest = absurd (let z : true ≡ false = sym h ∙ ap p w ∙ e in cc)
  test false e (inr w) rest = rest w

pub lists_filter : {A : Type 0} (key : A → List ℕ) (p : A → Bool) (Q : A → Type 0) (xs new : List A) → ((x : A) → p x ≡ true → Q x) → ((x : A) → Q x → p x ≡ true) → SortedOf key (filter p xs) new → Lists key (λ x. Contains xs x × Q x) new
lists_filter key p Q xs new there back s = record {
  rising = s.rising;
  each = λ x c. (let w = from_filter p xs x (s.from x c) in (w.0, there x w.1));
  all = λ x h. s.kept x (into_filter p xs x h.0 (back x h.1));
}

-- what is left of a rising list rises
pub rises_filter : {A : Type 0} (key : A → List ℕ) (p : A → Bool) (xs : List A) → Rises key xs → Rises key (filter p xs)
rises_filter key p [] r = tt
rises_filter {A} key p (x ∷ xs) r = test (p x) (rises_filter key p xs (tail_rises key x xs r)) where
  test : (b : Bool) → Rises key (filter p xs) → Rises key (cond b (x ∷ filter p xs) (filter p xs))
  test true rest = rises_cons key x (filter p xs) (λ y c. head_least key x xs r y (from_filter p xs y c).0) rest
  test false rest = rest
