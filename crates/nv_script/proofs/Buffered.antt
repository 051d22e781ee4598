-- The bytes that a reader with a buffer has left.
use Rattle.std.proofs.Common.{◌≡◌, ℕ, List, [], Option, Some, None, refl, ap, ◌∙◌}
use Rattle.std.specs.Io.KnownBytes.{prepend_known}
use Rattle.std.specs.Io.Buffered.{reader_inner, reader_buffer, reader_capacity, reader_remaining}
use Rattle.std.specs.declared.io.BufReader.{BufReader}

-- with an empty buffer they are those of the reader itself
pub nothing_buffered : (buffer : List ℕ) (known : Option (List ℕ)) → buffer ≡ [] → prepend_known buffer known ≡ known
nothing_buffered buffer None is = refl
nothing_buffered buffer (Some bytes) is = ap (λ b. prepend_known b (Some bytes)) is

pub same_reader : {T A : Type 0} (remaining : T → Option (List ℕ)) (r : BufReader T A) (inner : T) → reader_inner r ≡ inner → reader_buffer r ≡ [] → reader_capacity r ≡ 4096 → reader_remaining remaining r ≡ remaining inner
same_reader remaining r inner same empty capacity = rw capacity (nothing_buffered (reader_buffer r) (remaining (reader_inner r)) empty ∙ ap remaining same)
