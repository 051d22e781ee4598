-- How many blocks of a cell have each use.
use Rattle.std.specs.Prelude.{ℕ, ◌+◌, ◌-◌, ◌*◌, ◌==◌, List, length, map, take, drop}
use Rattle.std.specs.Int.{div_ceil}
use Rattle.std.specs.List.{count_by, range_with_len}
use Rattle.nv_map.specs.declared.uses.BlockUse.{BlockUse}
use Rattle.nv_map.specs.declared.uses.BlockUse.TheVariants.{Free, System, Table, Data, Log, Doubled}
use Rattle.nv_map.specs.declared.shares.Share.{Share}
use Rattle.nv_map.specs.Rank.{rank}

-- how many of these uses are this one
abbrev pub count_of : BlockUse → List BlockUse → ℕ
count_of kind uses = count_by (λ told. rank told == rank kind) uses

-- how many of the blocks with these uses have each, of which the first block has this number
abbrev pub share_of : ℕ → List BlockUse → Share
share_of first uses = record {
  first = first;
  last = first + (length uses - 1);
  blocks = length uses;
  free = count_of Free uses;
  system = count_of System uses;
  tables = count_of Table uses;
  files = count_of Data uses;
  logs = count_of Log uses;
  doubled = count_of Doubled uses;
}

-- the same of the cell of this number, of so many blocks or what is left
abbrev pub share_at : ℕ → List BlockUse → ℕ → Share
share_at each uses k = share_of (each * k) (take each (drop (each * k) uses))

-- the same of all cells
abbrev pub shares_of : ℕ → List BlockUse → List Share
shares_of each uses = map (share_at each uses) (range_with_len 0 (div_ceil (length uses) each))

-- how many blocks of a cell have this use
abbrev pub told_by : Share → BlockUse → ℕ
told_by share Free = share.free
told_by share System = share.system
told_by share Table = share.tables
told_by share Data = share.files
told_by share Log = share.logs
told_by share Doubled = share.doubled
