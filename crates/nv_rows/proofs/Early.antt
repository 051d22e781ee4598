-- What an early reply owes, and what a test says of an option.
use Rattle.std.proofs.Common.{◌≡◌, refl, true, false, Option, Some, None, is_some, Result, Ok, Err, IfOk, IsErr}

-- an early reply owes nothing of a good one
pub if_ok_err : {A E : Type 0} (r : Result A E) (Q : A → Type 0) → IsErr r → IfOk r Q
if_ok_err (Ok a) Q err = absurd (let no : false ≡ true = err in cc)
if_ok_err (Err e) Q err = tt

pub none_there : {A : Type 0} (o : Option A) → false ≡ is_some o → o ≡ None
none_there None is = refl
none_there (Some a) is = absurd (let no : false ≡ true = is in cc)
