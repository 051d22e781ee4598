-- What an answer of `?` leaves to show at a refusal.
use Rattle.std.proofs.Common.{◌≡◌, Result, Err, IfErr}

pub handed_on : {T E : Type 0} (r : Result T E) (e x : E) (Q : E → Type 0) → r ≡ Err x → x ≡ e → Q e → IfErr r Q
handed_on r e x Q is same q = rw (is, same) q
