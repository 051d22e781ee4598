-- What holds of finitely many things, all of which a list has: how such lists are decided about, put together and sorted.
use Rattle.std.proofs.Common.{◌≡◌, ◌⊎◌, inl, inr, ℕ, zero, suc, ◌<◌, List, [], ◌∷◌, ◌++◌, Option, Some, None, refl, sym, ap, subst, arith}
use Rattle.std.specs.List.{Contains, flat_map}
use Rattle.std.proofs.lemmas.Bool.{cases_eq, cases_lt}
use Rattle.std.proofs.lemmas.List.Elements.{Contains-append_left, Contains-append_right, Contains-append_cases}
use Rattle.nv_super.specs.Order.{Lists, SortedOf}
use Rattle.nv_super.proofs.Rising.{Contains-cons, Contains-head, Contains-tail}
use Rattle.nv_super.proofs.Members.{none_in, into_flat, from_flat}
use Rattle.nv_super.proofs.OneMore.{put_in}
use Rattle.nv_scan.specs.Faults.{Has}

-- it holds or it doesn't
abbrev pub Decided : Type 0 → Type 0
Decided P = P ⊎ (P → ⊥)

-- a list of just what P holds of
abbrev pub Finite : {A : Type 0} → (A → Type 0) → Type 0
Finite {A} P = (xs : List A) × Has P xs

pub both : {P Q : Type 0} → Decided P → Decided Q → Decided (P × Q)
both (inl p) (inl q) = inl (p, q)
both (inr p) q = inr (λ h. p h.0)
both (inl p) (inr q) = inr (λ h. q h.1)

pub not_so : {P : Type 0} → Decided P → Decided (P → ⊥)
not_so (inl p) = inr (λ h. h p)
not_so (inr p) = inl p

pub told_as : {P Q : Type 0} → (P → Q) → (Q → P) → Decided P → Decided Q
told_as there back (inl p) = inl (there p)
told_as there back (inr p) = inr (λ q. p (back q))

pub number_is : (a b : ℕ) → Decided (a ≡ b)
number_is a b = elim (cases_eq a b) [ inl e ↦ inl e | inr n ↦ inr n ]

pub number_below : (a b : ℕ) → Decided (a < b)
number_below a b = elim (cases_lt a b) [ inl h ↦ inl h | inr n ↦ inr (λ h. omega (arith, h, n)) ]

-- ---- lists of what holds

pub nothing : {A : Type 0} → Finite (λ (x : A). ⊥)
nothing = ([], record { each = λ x c. none_in x c; all = λ x h. absurd h })

pub only : {A : Type 0} (y : A) → Finite (λ (x : A). x ≡ y)
only y = (
  y ∷ [],
  record {
    each = λ x c. elim (Contains-cons y [] x c) [ inl e ↦ e | inr w ↦ absurd (none_in x w) ];
    all = λ x e. subst (Contains (y ∷ [])) (sym e) (Contains-head y []);
  },
)

pub elements : {A : Type 0} (xs : List A) → Finite (Contains xs)
elements xs = (xs, record { each = λ x c. c; all = λ x c. c })

pub value_of : {A : Type 0} (o : Option A) → Finite (λ (x : A). o ≡ Some x)
value_of None = ([], record { each = λ x c. absurd (none_in x c); all = λ x h. absurd (cc) })
value_of (Some y) = (
  y ∷ [],
  record {
    each = λ x c. elim (Contains-cons y [] x c) [ inl e ↦ ap Some (sym e) | inr w ↦ absurd (none_in x w) ];
    all = λ x h. (let e : y ≡ x = cc in subst (Contains (y ∷ [])) e (Contains-head y []));
  },
)

pub numbers : (n : ℕ) → Finite (λ k. k < n)
numbers zero = ([], record { each = λ x c. absurd (none_in x c); all = λ x h. absurd (omega arith) })
numbers (suc n) = one_more (numbers n) where
  one_more : Finite (λ k. k < n) → Finite (λ k. k < suc n)
  one_more f = (
    n ∷ f.0,
    record {
      each = λ x c. elim (Contains-cons n f.0 x c) [ inl e ↦ omega (arith, e) | inr w ↦ (let less = f.1.each x w in omega (arith, less)) ];
      all = λ x h. at x h (cases x h);
    },
  ) where
    cases : (x : ℕ) → x < suc n → (x ≡ n) ⊎ (x < n)
    cases x h = grind arith

    at : (x : ℕ) → x < suc n → (x ≡ n) ⊎ (x < n) → Contains (n ∷ f.0) x
    at x h (inl e) = subst (Contains (n ∷ f.0)) (sym e) (Contains-head n f.0)
    at x h (inr less) = Contains-tail n f.0 x (f.1.all x less)

-- the same by another name
pub by_name : {A : Type 0} {P Q : A → Type 0} → ((x : A) → P x → Q x) → ((x : A) → Q x → P x) → Finite P → Finite Q
by_name there back f = (f.0, record { each = λ x c. there x (f.1.each x c); all = λ x h. f.1.all x (back x h) })

pub either : {A : Type 0} {P Q : A → Type 0} → Finite P → Finite Q → Finite (λ x. P x ⊎ Q x)
either f g = (
  f.0 ++ g.0,
  record {
    each = λ x c. elim (Contains-append_cases f.0 g.0 x c) [ inl w ↦ inl (f.1.each x w) | inr w ↦ inr (g.1.each x w) ];
    all = λ x h. elim h [ inl p ↦ Contains-append_left f.0 g.0 x (f.1.all x p) | inr q ↦ Contains-append_right f.0 g.0 x (g.1.all x q) ];
  },
)

-- where something holds, and else nothing
pub if_so : {A : Type 0} {D : Type 0} {P : A → Type 0} → Decided D → Finite P → Finite (λ x. D × P x)
if_so (inl d) f = (f.0, record { each = λ x c. (d, f.1.each x c); all = λ x h. f.1.all x h.1 })
if_so (inr n) f = ([], record { each = λ x c. absurd (none_in x c); all = λ x h. absurd (n h.0) })

-- what belongs to one of finitely many
pub over : {A B : Type 0} {Q : A → Type 0} {P : A → B → Type 0} → Finite Q → ((x : A) → Finite (P x)) → Finite (λ (y : B). (x : A) × Q x × P x y)
over {A} {B} f g = (
  flat_map (λ (x : A). (g x).0) f.0,
  record {
    each = λ y c. (let w = from_flat (λ (x : A). (g x).0) f.0 y c in (w.0, f.1.each w.0 w.1, (g w.0).1.each y w.2));
    all = λ y h. into_flat (λ (x : A). (g x).0) f.0 h.0 y (f.1.all h.0 h.1) ((g h.0).1.all y h.2);
  },
)

-- those of them of which something else holds
pub those : {A : Type 0} {P : A → Type 0} (Q : A → Type 0) → Finite P → ((x : A) → Decided (Q x)) → Finite (λ x. P x × Q x)
those {A} {P} Q f d = (
  sifted f.0,
  record {
    each = λ x c. (let w = from f.0 x c in (f.1.each x w.0, w.1));
    all = λ x h. into f.0 x (f.1.all x h.0) h.1;
  },
) where
  kept : (x : A) → Decided (Q x) → List A → List A
  kept x (inl q) xs = x ∷ xs
  kept x (inr n) xs = xs

  sifted : List A → List A
  sifted [] = []
  sifted (x ∷ xs) = kept x (d x) (sifted xs)

  from : (xs : List A) (x : A) → Contains (sifted xs) x → Contains xs x × Q x
  from [] x c = absurd (none_in x c)
  from (y ∷ xs) x c = test (d y) (from xs x) c where
    test : (t : Decided (Q y)) → (Contains (sifted xs) x → Contains xs x × Q x) → Contains (kept y t (sifted xs)) x → Contains (y ∷ xs) x × Q x
    test (inl q) rest c = elim (Contains-cons y (sifted xs) x c) [
      | inl e ↦ (subst (Contains (y ∷ xs)) (sym e) (Contains-head y xs), subst Q (sym e) q)
      | inr w ↦ (let r = rest w in (Contains-tail y xs x r.0, r.1))
    ]
    test (inr n) rest c = let r = rest c in (Contains-tail y xs x r.0, r.1)

  into : (xs : List A) (x : A) → Contains xs x → Q x → Contains (sifted xs) x
  into [] x c q = absurd (none_in x c)
  into (y ∷ xs) x c q = test (d y) (λ w. into xs x w q) (Contains-cons y xs x c) where
    test : (t : Decided (Q y)) → (Contains xs x → Contains (sifted xs) x) → (x ≡ y) ⊎ Contains xs x → Contains (kept y t (sifted xs)) x
    test (inl p) rest (inl e) = subst (Contains (y ∷ sifted xs)) (sym e) (Contains-head y (sifted xs))
    test (inl p) rest (inr w) = Contains-tail y (sifted xs) x (rest w)
    test (inr n) rest (inl e) = absurd (n (subst Q e q))
    test (inr n) rest (inr w) = rest w

-- ---- looking through them

pub some : {A : Type 0} {P : A → Type 0} → Finite P → Decided ((x : A) × P x)
some {A} {P} f = look f.0 f.1 where
  look : (xs : List A) → Has P xs → Decided ((x : A) × P x)
  look [] h = inr (λ w. none_in w.0 (h.all w.0 w.1))
  look (x ∷ xs) h = inl (x, h.each x (Contains-head x xs))

pub holds : {A : Type 0} {P : A → Type 0} → Finite P → (x : A) → ((y : A) → Decided (y ≡ x)) → Decided (P x)
holds {A} {P} f x same = told_as (λ w. subst P w.1.1 w.1.0) (λ p. (x, (p, refl))) (some (those (λ y. y ≡ x) f same))

-- ---- in order

module _ {A : Type 0} (key : A → List ℕ) (key_only : (x y : A) → key x ≡ key y → x ≡ y) where
  sorted : (xs : List A) → (ys : List A) × SortedOf key xs ys
  sorted [] = ([], record { rising = tt; from = λ y c. c; kept = λ y c. c })
  sorted (x ∷ xs) = one_more (sorted xs) where
    one_more : (ys : List A) × SortedOf key xs ys → (ys : List A) × SortedOf key (x ∷ xs) ys
    one_more s = let p = put_in key key_only x s.0 s.1.rising in (
      p.list,
      record {
        rising = p.rising;
        from = λ y c. elim (p.from y c) [
          | inl same ↦ subst (Contains (x ∷ xs)) (sym same) (Contains-head x xs)
          | inr w ↦ Contains-tail x xs y (s.1.from y w)
        ];
        kept = λ y c. elim (Contains-cons x xs y c) [
          | inl same ↦ subst (Contains p.list) (sym same) p.here
          | inr w ↦ p.kept y (s.1.kept y w)
        ];
      },
    )

  -- each of them once, rising
  pub in_order : {P : A → Type 0} → Finite P → (xs : List A) × Lists key P xs
  in_order f = let s = sorted f.0 in (
    s.0,
    record {
      rising = s.1.rising;
      each = λ x c. f.1.each x (s.1.from x c);
      all = λ x h. s.1.kept x (f.1.all x h);
    },
  )
