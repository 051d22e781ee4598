-- What a line of a script asks for, with no word on where its bytes lie in memory.
use Rattle.std.specs.Prelude.{ℕ, List}
use Rattle.nv_region.specs.declared.memory.Fuse.{Fuse}
use Rattle.nv_region.specs.declared.memory.Keep.{Keep}

-- a command of a script
pub data Request : Type 0 where
  Format : (cpus blocks table_blocks : ℕ) → Request
  Time : (time : ℕ) → Request
  Poke : (at value : ℕ) → Request
  Cut : (length : ℕ) → Request
  Recover : (workers : ℕ) → Request
  Replay : (workers : ℕ) (schedule : List ℕ) → Request
  ListNames : (path : List ℕ) → Request
  Stat : (path : List ℕ) → Request
  Read : (path : List ℕ) (offset count : ℕ) → Request
  Create : (cpu : ℕ) (path : List ℕ) → Request
  MakeDirectory : (cpu : ℕ) (path : List ℕ) → Request
  Write : (cpu : ℕ) (path : List ℕ) (offset count byte : ℕ) → Request
  SetSize : (cpu : ℕ) (path : List ℕ) (size : ℕ) → Request
  SetAttributes : (cpu : ℕ) (path : List ℕ) (mode owner group : ℕ) → Request
  Link : (cpu : ℕ) (old new : List ℕ) → Request
  Unlink : (cpu : ℕ) (path : List ℕ) → Request
  RemoveDirectory : (cpu : ℕ) (path : List ℕ) → Request
  Rename : (cpu : ℕ) (old new : List ℕ) → Request
  Clean : (path : List ℕ) → Request
  Upgrade : Request
  Tree : Request
  Free : Request
  Faults : Request
  Report : Request
  Peek : (at : ℕ) → Request
  Stop : (fuse : Fuse) (keep : Keep) → Request
