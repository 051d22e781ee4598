-- What the journals of any region hold, and the region once they are rolled back.
use Rattle.std.specs.Prelude.{◌≡◌}
use Rattle.nv_region.specs.Region.{Region}
use Rattle.nv_super.specs.Super.{IsRefused, IsSuper}
use Rattle.nv_journal.specs.Undo.{undone}
use Rattle.nv_records.specs.Records.{ArePending}
use Rattle.nv_records.specs.declared.rolling.Journals.{Journals}
use Rattle.nv_records.specs.declared.rolling.Journals.TheVariants.{Pending, Refused}

-- the pending records by the superblock, or its first fault
abbrev pub TellsJournals : Region → Journals → Type 0
TellsJournals R (Pending sup records) = IsSuper R sup × ArePending sup R records.items
TellsJournals R (Refused fault) = IsRefused R fault

-- the region with its journals rolled back, or, where its superblock isn't accepted, as it was
abbrev pub RollsBack : Region → Journals → Region → Type 0
RollsBack R (Pending sup records) S = S ≡ undone sup R
RollsBack R (Refused fault) S = S ≡ R
