use Rattle.std.proofs.Common.{◌≡◌, ℕ, ◌+◌, ◌∷◌, ◌++◌, [], List, length, subst, sym, ap, ◌∙◌, arith}
use Rattle.std.proofs.Math.ListN.{replicate}
use Rattle.std.proofs.lemmas.List.{replicate_more, length-replicate}
use Rattle.std.proofs.lemmas.Result.{err_from_is_err_and}
use Rattle.nv_names.specs.Keys.{key_of}
use Rattle.nv_names.specs.Buckets.{place_of, all_lines, AreMany}
use Rattle.nv_names.proofs.Choosing.{Lines, empty_stand, empty_lines}
use Rattle.nv_names.proofs.spreading.empty_buckets.Goals as goal

pub returns-clause-many : goal.returns-clause-many
returns-clause-many c =
    subst AreMany (sym c.loop.invariant) (empty_stand (λ name. place_of (key_of name) (length (let ts : List Lines = replicate c.loop.counter [] in ts))) 0 c.loop.counter)

pub returns-clause-none : goal.returns-clause-none
returns-clause-none c = ap all_lines c.loop.invariant ∙ empty_lines c.loop.counter

pub returns-in_err-many-clause-many : goal.returns-in_err-many-clause-many
returns-in_err-many-clause-many c = let w = err_from_is_err_and c.from_residual.result c.from_residual.ensures.1 in rw w.1 tt

pub returns-in_err-many-clause-some : goal.returns-in_err-many-clause-some
returns-in_err-many-clause-some c = let w = err_from_is_err_and c.from_residual.result c.from_residual.ensures.1 in rw w.1 tt

pub returns-in_err-many-clause-none : goal.returns-in_err-many-clause-none
returns-in_err-many-clause-none c = let w = err_from_is_err_and c.from_residual.result c.from_residual.ensures.1 in rw w.1 tt

pub returns-in_err-push-clause-many : goal.returns-in_err-push-clause-many
returns-in_err-push-clause-many c = let w = err_from_is_err_and c.from_residual-in_err-push.result c.from_residual-in_err-push.ensures.1 in rw w.1 tt

pub returns-in_err-push-clause-some : goal.returns-in_err-push-clause-some
returns-in_err-push-clause-some c = let w = err_from_is_err_and c.from_residual-in_err-push.result c.from_residual-in_err-push.ensures.1 in rw w.1 tt

pub returns-in_err-push-clause-none : goal.returns-in_err-push-clause-none
returns-in_err-push-clause-none c = let w = err_from_is_err_and c.from_residual-in_err-push.result c.from_residual-in_err-push.ensures.1 in rw w.1 tt

one_more : {A : Type 0} (n : ℕ) (x y : A) (xs ys : List A) → xs ≡ replicate n x → y ≡ x → ys ≡ xs ++ y ∷ [] → ys ≡ replicate (n + 1) x
one_more n x y xs ys before is now = now ∙ ap (λ l. l ++ y ∷ []) before ∙ ap (λ v. replicate n x ++ v ∷ []) is ∙ replicate_more n x

pub loop-init : goal.loop-init
loop-init c = c.in_ok-many.ensures.items

pub loop-preserved : goal.loop-preserved
loop-preserved c = one_more c.loop.counter [] c.new.result c.loop.many.items c.push.new.self.items c.loop.invariant c.new.ensures c.in_ok-push.ensures.items

pub returns-clause-some : goal.returns-clause-some
returns-clause-some c =
    let all = c.loop-test.false in
    omega (arith, c.loop.many.ok.0, ap length c.loop.invariant ∙ length-replicate {A = Lines} c.loop.counter [])
