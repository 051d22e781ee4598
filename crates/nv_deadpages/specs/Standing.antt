-- Where the entries of a log stand while it is read.
use Rattle.std.specs.Prelude.{◌/◌, List}
use Rattle.std.specs.List.{Contains}
use Rattle.nv_logpage.specs.declared.found.Placed.{Placed}
use Rattle.nv_logpage.specs.Progress.{Progress}

-- The entries that were read stand in pages that were read, and so does the place that is read next.
pub record Stand (reader : Progress) (es : List Placed) : Type 0 where
  pub each : (x : Placed) → Contains es x → Contains reader.pages (x.at / 4096)
  pub here : Contains reader.pages (reader.place / 4096)
