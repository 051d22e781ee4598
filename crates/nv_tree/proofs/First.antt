-- The first refusal of a list of tests.
use Rattle.std.proofs.Common.{◌≡◌, ◌↔◌, Bool, true, false, cond, All, [], ◌∷◌, ◌++◌, Option, Some, None, refl, ◌∙◌, ap}
use Rattle.std.proofs.lemmas.List.Elements.{All-nil, All-cons, All-head, All-tail}
use Rattle.nv_tree.specs.declared.refusal.Refusal.{Refusal}
use Rattle.nv_tree.specs.Refusals.{Tests, first_refusal}
use Rattle.nv_tree.specs.Laws.{Fails, IsFirstRefusal}

first_here : (x : Bool × Refusal) (tests : Tests) (r : Refusal) → x.0 ≡ true → x.1 ≡ r → IsFirstRefusal (x ∷ tests) r
first_here x tests r holds is = record {
  before = [];
  after = tests;
  whole = ap (λ (b : Bool). (b, x.1) ∷ tests) holds ∙ ap (λ (s : Refusal). (true, s) ∷ tests) is;
  fail = All-nil Fails;
}

first_later : (x : Bool × Refusal) (tests : Tests) (r : Refusal) → x.0 ≡ false → IsFirstRefusal tests r → IsFirstRefusal (x ∷ tests) r
first_later x tests r fails f = record {
  before = x ∷ f.before;
  after = f.after;
  whole = ap (λ (l : Tests). x ∷ l) f.whole;
  fail = All-cons Fails x f.before fails f.fail;
}

first_by : (x : Bool × Refusal) (tests : Tests) (r : Refusal) → (first_refusal tests ≡ Some r → IsFirstRefusal tests r) → (b : Bool) → x.0 ≡ b → cond b (Some x.1) (first_refusal tests) ≡ Some r → IsFirstRefusal (x ∷ tests) r
first_by x tests r later true e h = first_here x tests r e (cc)
first_by x tests r later false e h = first_later x tests r e (later h)

is_first : (tests : Tests) (r : Refusal) → first_refusal tests ≡ Some r → IsFirstRefusal tests r
is_first [] r h = cc
is_first (x ∷ tests) r h = first_by x tests r (is_first tests r) x.0 refl h

found_first : (before after : Tests) (r : Refusal) → All Fails before → first_refusal (before ++ (true, r) ∷ after) ≡ Some r
found_first [] after r fail = refl
found_first (x ∷ before) after r fail =
    let chosen : Bool → Option Refusal = λ b. cond b (Some x.1) (first_refusal (before ++ (true, r) ∷ after)) in
    ap chosen (All-head Fails x before fail) ∙ found_first before after r (All-tail Fails x before fail)

pub first_some : (tests : Tests) (r : Refusal) → (first_refusal tests ≡ Some r) ↔ IsFirstRefusal tests r
first_some tests r = (is_first tests r, λ f. ap first_refusal f.whole ∙ found_first f.before f.after r f.fail)

none_by : (x : Bool × Refusal) (tests : Tests) → (first_refusal tests ≡ None → All Fails tests) → (b : Bool) → x.0 ≡ b → cond b (Some x.1) (first_refusal tests) ≡ None → All Fails (x ∷ tests)
none_by x tests later true e h = absurd (cc)
none_by x tests later false e h = All-cons Fails x tests e (later h)

none_hold : (tests : Tests) → first_refusal tests ≡ None → All Fails tests
none_hold [] h = All-nil Fails
none_hold (x ∷ tests) h = none_by x tests (none_hold tests) x.0 refl h

no_refusal : (tests : Tests) → All Fails tests → first_refusal tests ≡ None
no_refusal [] fail = refl
no_refusal (x ∷ tests) fail =
    let chosen : Bool → Option Refusal = λ b. cond b (Some x.1) (first_refusal tests) in
    ap chosen (All-head Fails x tests fail) ∙ no_refusal tests (All-tail Fails x tests fail)

pub first_none : (tests : Tests) → (first_refusal tests ≡ None) ↔ All Fails tests
first_none tests = (none_hold tests, no_refusal tests)
