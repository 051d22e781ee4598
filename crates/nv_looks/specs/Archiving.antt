-- What is told of an archive of what is chosen.
use Rattle.std.specs.Prelude.{◌≡◌, ◌⊎◌, ℕ, Bool, List, None, Result, Ok, Err}
use Rattle.nv_tree.specs.Tree.{Tree}
use Rattle.nv_tree.specs.Refusals.{Tests, first_refusal}
use Rattle.nv_stream.specs.declared.fault.ScriptError.TheVariants as errors
use Rattle.nv_tar.specs.declared.errors.TarError.{TarError}
use Rattle.nv_tar.specs.declared.errors.TarError.TheVariants as tars
use Rattle.nv_image_check.specs.declared.gathered.BlocksError.{BlocksError}
use Rattle.nv_image_check.specs.declared.gathered.BlocksError.TheVariants.{Read, Answer}
use Rattle.nv_session.specs.Machine.{TellsRefusal}
use Rattle.nv_archive.specs.Chosen.{AreTests}
use Rattle.nv_archive.specs.Archiving.{IsArchiveOf}
use Rattle.nv_archive.specs.declared.chosen.Chosen.{Chosen as ChosenValue}
use Rattle.nv_looks.specs.Sent.{Written, Sends, SendsFront, KeepsBoth}
use Rattle.nv_looks.specs.Looking.{Call, call_status}

-- the same or the refusal, with the exit status
abbrev pub GivesArchive : ChosenValue → Bool → Call
GivesArchive chosen all t text status = (tests : Tests) × AreTests t chosen tests × (status ≡ call_status (first_refusal tests))
    × (TellsRefusal tests text ⊎ ((first_refusal tests ≡ None) × IsArchiveOf t chosen all text))

-- ---- within

-- the exit status of an archive that was written, or why it wasn't
abbrev pub archive_status : Result (Unit {0}) TarError → Result ℕ BlocksError
archive_status (Ok done) = Ok 0
archive_status (Err (tars.Read error)) = Err (Read error)
archive_status (Err (tars.Answer error)) = Err (Answer error)

-- what a call tells of the tree was written
abbrev pub WritesTold : Call → Tree → Written → Written → ℕ → Type 0
WritesTold Tells t old new status = (text : List ℕ) × Tells t text status × Sends status old new text

-- a front of it was written
abbrev pub WritesToldFront : Call → Tree → Written → Written → Type 0
WritesToldFront Tells t old new = (text : List ℕ) × (status : ℕ) × Tells t text status × SendsFront status old new text

-- what an error leaves of it
abbrev pub FailsTold : Call → Tree → BlocksError → Written → Written → Type 0
FailsTold Tells t (Read error) old new = ⊥
FailsTold Tells t (Answer errors.Read) old new = ⊥
FailsTold Tells t (Answer errors.Write) old new = WritesToldFront Tells t old new
FailsTold Tells t (Answer errors.Memory) old new = KeepsBoth old new ⊎ WritesToldFront Tells t old new
