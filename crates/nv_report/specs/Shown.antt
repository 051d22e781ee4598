-- What is told of a region, as an outcome without its tables and its doubled blocks, of which no text tells.
use Rattle.std.specs.Prelude.{[]}
use Rattle.nv_outcome.specs.Outcome.{Outcome}
use Rattle.nv_report.specs.declared.shown.Shown.{Shown}

-- as an outcome
abbrev pub shown_of : Shown → Outcome
shown_of shown = record { sup = shown.sup.now; tables = []; rows = shown.rows.now.items; free = shown.free.now.pools; doubled = []; faults = shown.faults.now }
