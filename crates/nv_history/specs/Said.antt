-- What calls say, by the bytes of their texts.
use Rattle.std.specs.Prelude.{ℕ, Bool, true, false, List}
use Rattle.nv_bytes.specs.Data.{data_bytes}
use Rattle.nv_history.specs.declared.calls.Call.{Call}
use Rattle.nv_history.specs.declared.calls.Call.TheVariants as calls

-- A call: in the name of which CPU, of which paths, with what, and at what time.
pub data Said : Type 0 where
  Create : (cpu : ℕ) (path : List ℕ) (mode time : ℕ) → Said
  MakeDirectory : (cpu : ℕ) (path : List ℕ) (mode time : ℕ) → Said
  Write : (cpu : ℕ) (path : List ℕ) (offset : ℕ) (bytes : List ℕ) (time : ℕ) → Said
  SetSize : (cpu : ℕ) (path : List ℕ) (size time : ℕ) → Said
  SetAttributes : (cpu : ℕ) (path : List ℕ) (mode owner group time : ℕ) → Said
  Link : (cpu : ℕ) (old new : List ℕ) (time : ℕ) → Said
  Unlink : (cpu : ℕ) (path : List ℕ) (time : ℕ) → Said
  RemoveDirectory : (cpu : ℕ) (path : List ℕ) (time : ℕ) → Said
  Rename : (cpu : ℕ) (old new : List ℕ) (time : ℕ) → Said
  Clean : (path : List ℕ) → Said
  Upgrade : Said

-- what a call says
abbrev pub said : Call → Said
said (calls.Create cpu path mode time) = Create cpu path.now mode time
said (calls.MakeDirectory cpu path mode time) = MakeDirectory cpu path.now mode time
said (calls.Write cpu path offset content time) = Write cpu path.now offset (data_bytes content) time
said (calls.SetSize cpu path size time) = SetSize cpu path.now size time
said (calls.SetAttributes cpu path mode owner group time) = SetAttributes cpu path.now mode owner group time
said (calls.Link cpu old new time) = Link cpu old.now new.now time
said (calls.Unlink cpu path time) = Unlink cpu path.now time
said (calls.RemoveDirectory cpu path time) = RemoveDirectory cpu path.now time
said (calls.Rename cpu old new time) = Rename cpu old.now new.now time
said (calls.Clean path) = Clean path.now
said calls.Upgrade = Upgrade

-- whether a call gives names or takes them away
abbrev pub changes_names : Said → Bool
changes_names (Create cpu path mode time) = true
changes_names (MakeDirectory cpu path mode time) = true
changes_names (Link cpu old new time) = true
changes_names (Unlink cpu path time) = true
changes_names (RemoveDirectory cpu path time) = true
changes_names (Rename cpu old new time) = true
changes_names _ = false
