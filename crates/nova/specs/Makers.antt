-- In whose name a command makes its calls.
use Rattle.std.specs.Prelude.{ℕ, Option, Some, None}
use Rattle.nv_unpack.specs.declared.maker.Maker.{Maker}
use Rattle.nv_unpack.specs.declared.maker.Maker.TheVariants as makers

-- in that of the CPU that is named, or of any
abbrev pub maker_said : Option ℕ → Maker
maker_said None = makers.Free
maker_said (Some cpu) = makers.Named cpu
