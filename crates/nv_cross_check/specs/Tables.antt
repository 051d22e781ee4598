-- The tables that the checks read.
use Rattle.std.specs.Prelude.{◌≡◌, List}
use Rattle.nv_scan.specs.declared.piece.Row.{Row}
use Rattle.nv_cross_check.specs.declared.tables.RowTables.{RowTables}
use Rattle.nv_cross_check.specs.Listings.{AreListings}
use Rattle.nv_cross_check.specs.Steps.{ArePlaces, AreNumbersOfNames, unused_faults}

-- the tables are over these rows
pub record AreTables (rows : List Row) (t : RowTables) : Type 0 where
  pub listings : AreListings rows t.listings
  pub places : ArePlaces t.listings t.places
  pub counts : AreNumbersOfNames t.listings t.counts.items
  pub unused : t.unused.items ≡ unused_faults t.places t.listings
