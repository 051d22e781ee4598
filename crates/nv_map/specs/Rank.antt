-- The order in which uses are told.
use Rattle.std.specs.Prelude.{ℕ}
use Rattle.nv_map.specs.declared.uses.BlockUse.{BlockUse}
use Rattle.nv_map.specs.declared.uses.BlockUse.TheVariants.{Free, System, Table, Data, Log, Doubled}

-- the order of telling: of several uses the last is told
abbrev pub rank : BlockUse → ℕ
rank Free = 0
rank System = 1
rank Table = 2
rank Data = 3
rank Log = 4
rank Doubled = 5
