-- What a call that was refused tells.
use Rattle.std.proofs.Common.{◌≡◌, Bool, IsTrue, sym, Result, Ok, Err, OnErr, is_err}

-- what is so is told at a refusal
pub told_err : {T E P : Type 0} (r : Result T E) → P → OnErr r P
told_err (Ok done) p = tt
told_err (Err refusal) p = p

-- a call that is refused where the fuse has burnt says at a refusal that it has
pub burnt_told : {T E : Type 0} (r : Result T E) {burnt : Bool} → is_err r ≡ burnt → OnErr r (IsTrue burnt)
burnt_told (Ok done) told = tt
burnt_told (Err refusal) told = sym told
