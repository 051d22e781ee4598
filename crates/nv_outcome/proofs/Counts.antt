-- How many claims a block has, and who owns it.
use Rattle.std.proofs.Common.{◌≡◌, ◌≢◌, ℕ, ◌+◌, ◌<◌, ◌≤◌, inl, inr, eqb, Bool, true, false, cond, List, [], ◌∷◌, ◌++◌, refl, ap, sym, ◌∙◌, subst, arith, eqb-true, eq-eqb, zero-add}
use Rattle.std.proofs.lemmas.List.Sums.{sum_by-cons}
use Rattle.std.specs.List.{Contains}
use Rattle.std.proofs.lemmas.List.Elements.{Contains-append_cases}
use Rattle.std.proofs.Math.Nat.{lt_of_lt_of_le}
use Rattle.nv_super.specs.declared.owners.Owner.{Owner}
use Rattle.nv_super.specs.Order.{Rises}
use Rattle.nv_super.proofs.Rising.{Contains-cons, Contains-head, Contains-tail, head_least, below_not_self, tail_rises}
use Rattle.nv_super.specs.Owners.{claims_of}
use Rattle.nv_super.proofs.Members.{none_in}
use Rattle.nv_scan.specs.Faults.{IsOnce}

pub IsOnce-from_rises : {A : Type 0} (key : A → List ℕ) (xs : List A) → Rises key xs → IsOnce xs
IsOnce-from_rises key [] r = tt
IsOnce-from_rises key (x ∷ xs) r = (λ c. below_not_self (key x) (head_least key x xs r x c), IsOnce-from_rises key xs (tail_rises key x xs r))

pub IsOnce-append : {A : Type 0} (xs ys : List A) → IsOnce xs → IsOnce ys → ((x : A) → Contains xs x → Contains ys x → ⊥) → IsOnce (xs ++ ys)
IsOnce-append [] ys a b apart = b
IsOnce-append (x ∷ xs) ys a b apart = (
  λ c. elim (Contains-append_cases xs ys x c) [ inl w ↦ a.0 w | inr w ↦ apart x (Contains-head x xs) w ],
  IsOnce-append xs ys a.1 b (λ y v w. apart y (Contains-tail x xs y v) w),
)

pub claims_yes : (x : ℕ × Owner) (xs : List (ℕ × Owner)) (b : ℕ) → eqb x.0 b ≡ true → claims_of b (x ∷ xs) ≡ 1 + claims_of b xs
claims_yes x xs b e = sum_by-cons (λ (y : ℕ × Owner). cond (eqb y.0 b) 1 0) x xs ∙ ap (λ (t : Bool). cond t 1 0 + claims_of b xs) e

pub claims_no : (x : ℕ × Owner) (xs : List (ℕ × Owner)) (b : ℕ) → eqb x.0 b ≡ false → claims_of b (x ∷ xs) ≡ claims_of b xs
claims_no x xs b e = sum_by-cons (λ (y : ℕ × Owner). cond (eqb y.0 b) 1 0) x xs ∙ ap (λ (t : Bool). cond t 1 0 + claims_of b xs) e ∙ zero-add (claims_of b xs)

-- one claim more is counted or not
pub claims_more : (x : ℕ × Owner) (xs : List (ℕ × Owner)) (b : ℕ) → claims_of b xs ≤ claims_of b (x ∷ xs)
claims_more x xs b = test (eqb x.0 b) refl where
  test : (t : Bool) → eqb x.0 b ≡ t → claims_of b xs ≤ claims_of b (x ∷ xs)
  test true e = rw (claims_yes x xs b e) (omega arith)
  test false e = rw (claims_no x xs b e) (omega arith)

first_of : {b : ℕ} {o : Owner} {x : ℕ × Owner} → (b, o) ≡ x → x.0 ≡ b
first_of e = ap (λ (z : ℕ × Owner). z.0) (sym e)

-- a claim of the block is counted
pub counted : (xs : List (ℕ × Owner)) (b : ℕ) (o : Owner) → Contains xs (b, o) → 0 < claims_of b xs
counted [] b o c = absurd (none_in (b, o) c)
counted (y ∷ xs) b o c = elim (Contains-cons y xs (b, o) c) [
  | inl w ↦ (let s = claims_yes y xs b (eq-eqb y.0 b (first_of w)) in rw s (omega arith))
  | inr w ↦ (let s = claims_more y xs b in let r = counted xs b o w in lt_of_lt_of_le r s)
]

head_pair : (x : ℕ × Owner) (xs : List (ℕ × Owner)) (b : ℕ) → eqb x.0 b ≡ true → Contains (x ∷ xs) (b, x.1)
head_pair x xs b e = let same : x.0 ≡ b = eqb-true x.0 b e in let pair : (b, x.1) ≡ x = (λ i. (sym same i, x.1)) in rw pair (Contains-head x xs)

-- a block that is counted has a claim
pub some_claim : (xs : List (ℕ × Owner)) (b : ℕ) → 0 < claims_of b xs → (o : Owner) × Contains xs (b, o)
some_claim [] b h = absurd (omega arith)
some_claim (x ∷ xs) b h = test (some_claim xs b) (eqb x.0 b) refl where
  test : (0 < claims_of b xs → (o : Owner) × Contains xs (b, o)) → (t : Bool) → eqb x.0 b ≡ t → (o : Owner) × Contains (x ∷ xs) (b, o)
  test rest true e = (x.1, head_pair x xs b e)
  test rest false e = let r = rest (rw (claims_no x xs b e) at h) in (r.0, Contains-tail x xs (b, r.0) r.1)

-- two claims of one block are counted
pub counted_twice : (xs : List (ℕ × Owner)) (b : ℕ) (o p : Owner) → o ≢ p → Contains xs (b, o) → Contains xs (b, p) → 1 < claims_of b xs
counted_twice [] b o p ne c d = absurd (none_in (b, o) c)
counted_twice (x ∷ xs) b o p ne c d =
    elim (Contains-cons x xs (b, o) c) [
      | inl v ↦ elim (Contains-cons x xs (b, p) d) [
        | inl w ↦ absurd (ne (ap (λ (z : ℕ × Owner). z.1) (v ∙ sym w)))
        | inr w ↦ rw (claims_yes x xs b (eq-eqb x.0 b (first_of v))) (one_more (counted xs b p w))
      ]
      | inr v ↦ elim (Contains-cons x xs (b, p) d) [
        | inl w ↦ rw (claims_yes x xs b (eq-eqb x.0 b (first_of w))) (one_more (counted xs b o v))
        | inr w ↦ lt_of_lt_of_le (counted_twice xs b o p ne v w) (claims_more x xs b)
      ]
    ] where
      one_more : {n : ℕ} → 0 < n → 1 < 1 + n
      one_more h = omega arith

pub record TwoOf (xs : List (ℕ × Owner)) (b : ℕ) : Type 0 where
  pub one : Owner
  pub two : Owner
  pub apart : one ≢ two
  pub has_one : Contains xs (b, one)
  pub has_two : Contains xs (b, two)

-- a block that is counted twice has two claims
pub two_claims : (xs : List (ℕ × Owner)) (b : ℕ) → IsOnce xs → 1 < claims_of b xs → TwoOf xs b
two_claims [] b once h = absurd (omega arith)
two_claims (x ∷ xs) b once h = test (two_claims xs b once.1) (eqb x.0 b) refl where
  less_one : {n : ℕ} → 1 < 1 + n → 0 < n
  less_one h = omega arith

  test : (1 < claims_of b xs → TwoOf xs b) → (t : Bool) → eqb x.0 b ≡ t → TwoOf (x ∷ xs) b
  test rest true e =
      let r = some_claim xs b (less_one (rw (claims_yes x xs b e) at h)) in
      let same : x.0 ≡ b = eqb-true x.0 b e in let pair : (b, x.1) ≡ x = (λ i. (sym same i, x.1)) in
      record {
        one = x.1;
        two = r.0;
        apart = λ q. once.0 (let u : (b, r.0) ≡ x = (ap (λ (z : Owner). (b, z)) (sym q)) ∙ pair in let P : ℕ × Owner → Type 0 = λ z. Contains xs z in subst P u r.1);
        has_one = head_pair x xs b e;
        has_two = Contains-tail x xs (b, r.0) r.1;
      }
  test rest false e = let r = rest (rw (claims_no x xs b e) at h) in
      record { one = r.one; two = r.two; apart = r.apart; has_one = Contains-tail x xs _ r.has_one; has_two = Contains-tail x xs _ r.has_two }
