-- One element more in a list that rises by key, or one less, and what that makes of a list of all that a property holds of.
use Rattle.std.proofs.Common.{◌≡◌, ℕ, suc, ◌⊎◌, inl, inr, nat_cmp, List, [], ◌∷◌, length, refl, ap, sym, ◌∙◌, subst}
use Rattle.std.specs.List.{Contains}
use Rattle.std.specs.Ordering.{ordering_reverse, is_eq}
use Rattle.std.specs.Cmp.Lexicographic.{slice_cmp, nat_list_cmp_total, bytes_decides, texts_ties}
use Rattle.std.specs.declared.cmp.Ordering.{Ordering}
use Rattle.std.specs.declared.cmp.Ordering.TheVariants.{Less, Equal, Greater}
use Rattle.nv_super.specs.Order.{Rises, Lists}
use Rattle.nv_super.proofs.Rising.{Below, below_not_self, Contains-cons, Contains-head, Contains-tail, head_least, tail_rises, rises_cons}
use Rattle.nv_super.proofs.Members.{none_in}

-- a number and a list of numbers are told by both in one list
pub pair_only : (x y : ℕ × List ℕ) → x.0 ∷ x.1 ≡ y.0 ∷ y.1 → x ≡ y
pair_only x y e =
    let first : x.0 ≡ y.0 = cc in
    let rest : x.1 ≡ y.1 = cc in
    λ i. (first i, rest i)

-- an element put into its place
pub record PutIn {A : Type 0} (key : A → List ℕ) (x : A) (xs : List A) : Type 0 where
  pub list : List A
  pub rising : Rises key list
  pub from : (y : A) → Contains list y → (y ≡ x) ⊎ Contains xs y
  pub here : Contains list x
  pub kept : (y : A) → Contains xs y → Contains list y
  pub more : (Contains xs x → ⊥) → length list ≡ suc (length xs)

pub put_in : {A : Type 0} (key : A → List ℕ) → ((x y : A) → key x ≡ key y → x ≡ y) → (x : A) (xs : List A) → Rises key xs → PutIn key x xs
put_in key key_only x [] r = record {
  list = x ∷ [];
  rising = tt;
  from = λ y c. Contains-cons x [] y c;
  here = Contains-head x [];
  kept = λ y c. absurd (none_in y c);
  more = λ out. refl;
}
put_in {A} key key_only x (z ∷ xs) r = by_order (slice_cmp nat_cmp (key x) (key z)) refl (put_in key key_only x xs (tail_rises key z xs r)) where
  by_order : (o : Ordering) → slice_cmp nat_cmp (key x) (key z) ≡ o → PutIn key x xs → PutIn key x (z ∷ xs)
  by_order Less e rest = record {
    list = x ∷ z ∷ xs;
    rising = (e, r);
    from = λ y c. Contains-cons x (z ∷ xs) y c;
    here = Contains-head x (z ∷ xs);
    kept = λ y c. Contains-tail x (z ∷ xs) y c;
    more = λ out. refl;
  }
  by_order Equal e rest =
      let same : x ≡ z = key_only x z ((bytes_decides (key x) (key z)).0 (texts_ties (key x) (key z) ∙ ap is_eq e)) in
      let here : Contains (z ∷ xs) x = subst (Contains (z ∷ xs)) (sym same) (Contains-head z xs) in
      record { list = z ∷ xs; rising = r; from = λ y c. inr c; here = here; kept = λ y c. c; more = λ out. absurd (out here) }
  by_order Greater e rest = record {
    list = z ∷ rest.list;
    rising = rises_cons key z rest.list (λ y c. elim (rest.from y c) [
      | inl same ↦ subst (λ (w : A). Below (key z) (key w)) (sym same) (nat_list_cmp_total.antisymm (key z) (key x) ∙ ap ordering_reverse e)
      | inr w ↦ head_least key z xs r y w
    ]) rest.rising;
    from = λ y c. elim (Contains-cons z rest.list y c) [
      | inl same ↦ inr (subst (Contains (z ∷ xs)) (sym same) (Contains-head z xs))
      | inr w ↦ elim (rest.from y w) [ inl same ↦ inl same | inr v ↦ inr (Contains-tail z xs y v) ]
    ];
    here = Contains-tail z rest.list x rest.here;
    kept = λ y c. elim (Contains-cons z xs y c) [
      | inl same ↦ subst (Contains (z ∷ rest.list)) (sym same) (Contains-head z rest.list)
      | inr w ↦ Contains-tail z rest.list y (rest.kept y w)
    ];
    more = λ out. ap suc (rest.more (λ c. out (Contains-tail z xs x c)));
  }

-- the others, where one element is taken out
pub record TakenOut {A : Type 0} (xs : List A) (x : A) : Type 0 where
  pub others : List A
  pub fewer : length xs ≡ suc (length others)
  pub each : (y : A) → Contains others y → Contains xs y
  pub all : (y : A) → Contains xs y → (y ≡ x) ⊎ Contains others y
  pub rising : (key : A → List ℕ) → Rises key xs → Rises key others
  pub gone : (key : A → List ℕ) → Rises key xs → Contains others x → ⊥

pub take_out : {A : Type 0} (xs : List A) (x : A) → Contains xs x → TakenOut xs x
take_out [] x c = absurd (none_in x c)
take_out {A} (z ∷ xs) x c = at (Contains-cons z xs x c) (take_out xs x) where
  later : Contains xs x → TakenOut xs x → TakenOut (z ∷ xs) x
  later w rest = record {
    others = z ∷ rest.others;
    fewer = ap suc rest.fewer;
    each = λ y d. elim (Contains-cons z rest.others y d) [
      | inl e ↦ subst (Contains (z ∷ xs)) (sym e) (Contains-head z xs)
      | inr v ↦ Contains-tail z xs y (rest.each y v)
    ];
    all = λ y d. elim (Contains-cons z xs y d) [
      | inl e ↦ inr (subst (Contains (z ∷ rest.others)) (sym e) (Contains-head z rest.others))
      | inr v ↦ elim (rest.all y v) [ inl e ↦ inl e | inr u ↦ inr (Contains-tail z rest.others y u) ]
    ];
    rising = λ key r. rises_cons key z rest.others (λ y d. head_least key z xs r y (rest.each y d)) (rest.rising key (tail_rises key z xs r));
    gone = λ key r d. elim (Contains-cons z rest.others x d) [
      | inl e ↦ below_not_self (key z) (subst (λ (u : A). Below (key z) (key u)) e (head_least key z xs r x w))
      | inr v ↦ rest.gone key (tail_rises key z xs r) v
    ];
  }

  at : (x ≡ z) ⊎ Contains xs x → (Contains xs x → TakenOut xs x) → TakenOut (z ∷ xs) x
  at (inl same) rest = record {
    others = xs;
    fewer = refl;
    each = λ y d. Contains-tail z xs y d;
    all = λ y d. elim (Contains-cons z xs y d) [ inl e ↦ inl (e ∙ sym same) | inr v ↦ inr v ];
    rising = λ key r. tail_rises key z xs r;
    gone = λ key r d. below_not_self (key z) (subst (λ (u : A). Below (key z) (key u)) same (head_least key z xs r x d));
  }
  at (inr w) rest = later w (rest w)

-- what Q holds of is one more than what P holds of
pub lists_more : {A : Type 0} (key : A → List ℕ) (P Q : A → Type 0) → ((x y : A) → key x ≡ key y → x ≡ y) → (x : A) (xs : List A) → (P x → ⊥) → Q x → ((y : A) → P y → Q y) → ((y : A) → Q y → (y ≡ x) ⊎ P y)
    → Lists key P xs → (ys : List A) × Lists key Q ys × (length ys ≡ suc (length xs))
lists_more key P Q key_only x xs out is there back l = let put = put_in key key_only x xs l.rising in (
  put.list,
  record {
    rising = put.rising;
    each = λ y c. elim (put.from y c) [ inl w ↦ subst Q (sym w) is | inr w ↦ there y (l.each y w) ];
    all = λ y q. elim (back y q) [ inl w ↦ subst (Contains put.list) (sym w) put.here | inr w ↦ put.kept y (l.all y w) ];
  },
  put.more (λ c. out (l.each x c)),
)

-- what Q holds of is one less than what P holds of
pub lists_less : {A : Type 0} (key : A → List ℕ) (P Q : A → Type 0) (x : A) (xs : List A) → P x → (Q x → ⊥) → ((y : A) → Q y → P y) → ((y : A) → P y → (y ≡ x) ⊎ Q y)
    → Lists key P xs → (ys : List A) × Lists key Q ys × (length xs ≡ suc (length ys))
lists_less key P Q x xs is out back there l = let t = take_out xs x (l.all x is) in (
  t.others,
  record {
    rising = t.rising key l.rising;
    each = λ y c. elim (there y (l.each y (t.each y c))) [ inl w ↦ absurd (t.gone key l.rising (subst (Contains t.others) w c)) | inr w ↦ w ];
    all = λ y q. elim (t.all y (l.all y (back y q))) [ inl w ↦ absurd (out (subst Q w q)) | inr w ↦ w ];
  },
  t.fewer,
)
