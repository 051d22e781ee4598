-- The value by which contracts see `Usage`.
use Rattle.std.specs.Prelude.{Bool, true, false}
use Rattle.clap.specs.Values.{kind_of}
use Rattle.clap.specs.declared.error.kind.ErrorKind.{ErrorKind}
use Rattle.clap.specs.declared.error.kind.ErrorKind.TheVariants.{OutOfMemory}
use Rattle.nv_args.specs.declared.usage.Cause.{Cause}
use Rattle.nv_args.specs.declared.usage.Cause.TheVariants.{Words, TwoOutputs, NoSize, NoChange, NoLog, NoMemory}

-- Whether a text for the user tells of want of memory.
pub record UsageTold : Type 0 where
  pub out_of_memory : Bool

-- whether an error is of the kind that tells of want of memory
abbrev pub is_memory : ErrorKind → Bool
is_memory OutOfMemory = true
is_memory _ = false

-- what the cause tells
abbrev pub told_by : Cause → UsageTold
told_by (Words error) = record { out_of_memory = is_memory (kind_of error) }
told_by TwoOutputs = record { out_of_memory = false }
told_by NoSize = record { out_of_memory = false }
told_by NoChange = record { out_of_memory = false }
told_by NoLog = record { out_of_memory = false }
told_by NoMemory = record { out_of_memory = true }
