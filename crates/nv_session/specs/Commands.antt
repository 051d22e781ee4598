-- Which commands are calls, and the lines of their answers.
use Rattle.std.specs.Prelude.{ℕ, List, Option, Some, None, replicate}
use Rattle.nv_history.specs.Said as calls
use Rattle.nv_history.specs.Said.{Said}
use Rattle.nv_history.specs.declared.calls.Answer.{Answer}
use Rattle.nv_history.specs.declared.calls.Answer.TheVariants.{Done, Cleaned}
use Rattle.nv_line.specs.Request.{Request, Create, MakeDirectory, Write, SetSize, SetAttributes, Link, Unlink, RemoveDirectory, Rename, Clean, Upgrade}
use Rattle.nv_text.specs.Answers.{ok_line, cleaned_line}
use Rattle.nv_session.specs.Machine.{directory_mode, file_mode}

-- the call that a command is, at this time, where it leaves the names as they are
abbrev pub within_at : ℕ → Request → Option Said
within_at time (Write cpu path offset count byte) = Some (calls.Write cpu path offset (replicate count byte) time)
within_at time (SetSize cpu path size) = Some (calls.SetSize cpu path size time)
within_at time (SetAttributes cpu path mode owner group) = Some (calls.SetAttributes cpu path mode owner group time)
within_at time (Clean path) = Some (calls.Clean path)
within_at time Upgrade = Some calls.Upgrade
within_at time _ = None

-- the same of any command
abbrev pub call_at : ℕ → Request → Option Said
call_at time (Create cpu path) = Some (calls.Create cpu path file_mode time)
call_at time (MakeDirectory cpu path) = Some (calls.MakeDirectory cpu path directory_mode time)
call_at time (Link cpu old new) = Some (calls.Link cpu old new time)
call_at time (Unlink cpu path) = Some (calls.Unlink cpu path time)
call_at time (RemoveDirectory cpu path) = Some (calls.RemoveDirectory cpu path time)
call_at time (Rename cpu old new) = Some (calls.Rename cpu old new time)
call_at time request = within_at time request

-- the line of an answer
abbrev pub answer_line : Answer → List ℕ
answer_line Done = ok_line
answer_line (Cleaned page) = cleaned_line page
