-- An error that is handed on.
use Rattle.std.proofs.Common.{◌≡◌, Result, Err}
use Rattle.std.specs.Result.{IfErr}
use Rattle.nv_metadata.specs.declared.errors.GatherError.{GatherError}
use Rattle.nv_metadata.specs.declared.errors.GatherError.TheVariants.{Memory}

-- want of memory stays it
pub passed_on : {A : Type 0} (r : Result A GatherError) (e x : GatherError) → r ≡ Err x → x ≡ e → e ≡ Memory → IfErr r (λ y. y ≡ Memory)
passed_on r e x is same memory = rw (is, same) memory
