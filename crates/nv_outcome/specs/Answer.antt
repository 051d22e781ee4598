-- What a recovery's answer stands for.
use Rattle.std.specs.Prelude.{◌≡◌, []}
use Rattle.nv_region.specs.Region.{Region}
use Rattle.nv_journal.specs.Undo.{undone}
use Rattle.nv_rows.specs.RowList.{HasNumbersOf}
use Rattle.nv_outcome.specs.Outcome.{Outcome, IsOutcome}
use Rattle.nv_outcome.specs.Shared.{SharesAll}
use Rattle.nv_outcome.specs.declared.recovered.Recovered.{Recovered}

-- the answer as an outcome
abbrev pub outcome_of : Recovered → Outcome
outcome_of r = record { sup = r.sup; tables = r.tables.layout.chains; rows = r.rows.items; free = r.free.pools; doubled = r.doubled.items; faults = r.faults.items }

-- each data block of the region stands in exactly one of the answer's free lists or has exactly one owner
abbrev pub SharesBlocks : Region → Recovered → Type 0
SharesBlocks R r = SharesAll R r.tables.layout r.free.pools

-- The answer is the old region's outcome, the new region is the old with its journals rolled back, and where nothing is wrong each
-- data block is free or owned, and not both. The free lists, the tables and the numbers of the rows are those of its superblock.
pub record IsAnswer (old new : Region) (r : Recovered) : Type 0 where
  pub ok : IsOutcome old (outcome_of r)
  pub rolled_back : new ≡ undone r.sup old
  pub once : r.faults.items ≡ [] → SharesBlocks new r
  pub lists : r.free.sup ≡ r.sup
  pub tables : r.tables.layout.sup ≡ r.sup
  pub numbers : HasNumbersOf r.tables.layout r.rows
