-- Who holds a subject, one entry further.
use Rattle.std.proofs.Common.{◌≡◌, ◌∙◌, ◌+◌, ◌-◌, ◌<◌, ℕ, List, [], ◌∷◌, ◌++◌, length, Option, Some, None, unwrap_or, ap, sym, subst, arith, inl, inr, ◌⊎◌, length-append, append-nil}
use Rattle.std.proofs.lemmas.Bool.{cases_lt}
use Rattle.std.specs.List.{remove}
use Rattle.std.proofs.lemmas.List.Edits.{remove-append_left, remove-append_right}
use Rattle.nv_logpage.specs.declared.found.Placed.{Placed}
use Rattle.nv_inspect.specs.Held.{IsHeld, IsHolder, IsTaken, Says}

pub one_longer : {A : Type 0} (es : List A) (x : A) → length (es ++ x ∷ []) ≡ length es + 1
one_longer es x = length-append es (x ∷ [])

pub remove_inner : {A : Type 0} (es : List A) (x : A) (k : ℕ) → k < length es → remove (es ++ x ∷ []) k ≡ remove es k ++ x ∷ []
remove_inner es x k below = remove-append_left es (x ∷ []) k below

pub remove_last : {A : Type 0} (es : List A) (x : A) (k : ℕ) → k ≡ length es → remove (es ++ x ∷ []) k ≡ es
remove_last es x k is = remove-append_right es (x ∷ []) k k (sym is) (omega arith)
    ∙ ap (λ (n : ℕ). es ++ remove (x ∷ []) n) (let zero_left : k - k ≡ 0 = omega arith in zero_left) ∙ append-nil es

-- a place among entries with one more is one of the others, or the last
pub inner_or_last : {A : Type 0} (es : List A) (x : A) (k : ℕ) → k < length (es ++ x ∷ []) → (k < length es) ⊎ (k ≡ length es)
inner_or_last es x k below = elim (cases_lt k (length es)) [
  | inl less ↦ inl less
  | inr past ↦ inr (let long = one_longer es x in omega (arith, below, past, long))
]

module _ {V : Type 0} (word : List Placed → V) (es : List Placed) (x : Placed) where
  -- The entry says nothing.
  module _ (same : (ys : List Placed) → word (ys ++ x ∷ []) ≡ word ys) (holder : Option ℕ) (is : IsHolder word es holder) where
    inner_same : (k : ℕ) → k < length es → word (remove (es ++ x ∷ []) k) ≡ word (remove es k)
    inner_same k below = ap word (remove_inner es x k below) ∙ same (remove es k)

    pub still_held : IsHolder word (es ++ x ∷ []) holder
    still_held = record {
      by = λ k h. (
        let b = is.by k h in (let long = one_longer es x in let in_es = b.0 in omega (arith, in_es, long)),
        λ e. (is.by k h).1 (sym (inner_same k (is.by k h).0) ∙ e ∙ same es),
      );
      others = λ k below never. elim (inner_or_last es x k below) [
        | inl less ↦ inner_same k less ∙ is.others k less never ∙ sym (same es)
        | inr last ↦ ap word (remove_last es x k last) ∙ sym (same es)
      ];
    }

  -- It says this.
  module _ (v : V) (said : (ys : List Placed) → word (ys ++ x ∷ []) ≡ v) where
    inner_said : (k : ℕ) → k < length es → word (remove (es ++ x ∷ []) k) ≡ word (es ++ x ∷ [])
    inner_said k below = ap word (remove_inner es x k below) ∙ said (remove es k) ∙ sym (said es)

    last_said : (k : ℕ) → k ≡ length es → word (remove (es ++ x ∷ []) k) ≡ word es
    last_said k last = ap word (remove_last es x k last)

    pub taken_over : (new : Option ℕ) → IsTaken (length es) (word es) v new → IsHolder word (es ++ x ∷ []) new
    taken_over new (inl same) = record {
      by = λ k h. absurd (let none = same.1 in cc);
      others = λ k below never. elim (inner_or_last es x k below) [
        | inl less ↦ inner_said k less
        | inr last ↦ last_said k last ∙ same.0 ∙ sym (said es)
      ];
    }
    taken_over new (inr other) = record {
      by = λ k h. (let some = other.1 in let last : k ≡ length es = cc in
          (let long = one_longer es x in omega (arith, last, long), λ e. other.0 (sym (last_said k last) ∙ e ∙ said es)));
      others = λ k below never. elim (inner_or_last es x k below) [
        | inl less ↦ inner_said k less
        | inr last ↦ absurd (never (other.1 ∙ ap Some (sym last)))
      ];
    }

  pub held_more : (said : Option V) → ((ys : List Placed) → word (ys ++ x ∷ []) ≡ unwrap_or said (word ys)) → (value : V) (holder : Option ℕ) (new : V) (new_holder : Option ℕ)
      → IsHeld word es value holder → Says (length es) said value holder new new_holder → IsHeld word (es ++ x ∷ []) new new_holder
  held_more None law value holder new new_holder was now = record {
    is = now.0 ∙ was.is ∙ sym (law es);
    holds = subst (λ (o : Option ℕ). IsHolder word (es ++ x ∷ []) o) (sym now.1) (still_held law holder was.holds);
  }
  held_more (Some v) law value holder new new_holder was now = record {
    is = now.0 ∙ sym (law es);
    holds = taken_over v law new_holder (subst (λ (u : V). IsTaken (length es) u v new_holder) was.is now.1);
  }
