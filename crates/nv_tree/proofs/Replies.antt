-- What follows from what a call answered.
use Rattle.std.proofs.Common.{◌≡◌, Result, Err, IfErr}
use Rattle.nv_tree.specs.declared.refusal.Refusal.{Refusal}

-- a refusal handed on
pub refused_by : {A : Type 0} (r : Result A Refusal) (e x : Refusal) (Q : Refusal → Type 0) → r ≡ Err x → x ≡ e → Q e → IfErr r Q
refused_by r e x Q is same q = rw (is, same) q
