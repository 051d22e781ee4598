-- What is known of a run by its end.
use Rattle.std.proofs.Common.{◌≡◌, subst, Result, Ok, Err, IfOk, IfErr, OnErr}

module _ {A T E : Type 0} where
  pub ended_ok : (r : Result T E) (ran : Result A E) (of : T → A) (P : A → Type 0) (R Q : T → Type 0) → IfOk r (λ t. ran ≡ Ok (of t)) → IfOk r R
      → ((t : T) → R t → P (of t) → Q t) → IfOk ran P → IfOk r Q
  ended_ok (Ok t) ran of P R Q is also then told = then t also (subst (λ (x : Result A E). IfOk x P) is told)
  ended_ok (Err e) ran of P R Q is also then told = tt

  pub ended_err : (r : Result T E) (ran : Result A E) (P Q : E → Type 0) → IfErr r (λ e. ran ≡ Err e) → ((e : E) → P e → Q e) → IfErr ran P → IfErr r Q
  ended_err (Ok t) ran P Q is then told = tt
  ended_err (Err e) ran P Q is then told = then e (subst (λ (x : Result A E). IfErr x P) is told)

  pub ended_on_err : (r : Result T E) (ran : Result A E) (P Q : Type 0) → IfErr r (λ e. ran ≡ Err e) → (P → Q) → OnErr ran P → OnErr r Q
  ended_on_err (Ok t) ran P Q is then told = tt
  ended_on_err (Err e) ran P Q is then told = then (subst (λ (x : Result A E). OnErr x P) is told)
