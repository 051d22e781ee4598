-- Tables that are answered with an outcome are those of its region.
use Rattle.std.proofs.Common.{◌≡◌, ◌∙◌}
use Rattle.nv_region.specs.Region.{Region}
use Rattle.nv_super.specs.Layout.{Layout}
use Rattle.nv_inode.specs.Chains.{layout_of}
use Rattle.nv_journal.specs.Undo.{undone}
use Rattle.nv_outcome.specs.Outcome.{Outcome, IsOutcome}

-- a layout with the superblock and the chains of an outcome
pub tables_laid : (R : Region) (o : Outcome) (l : Layout) → IsOutcome R o → l.sup ≡ o.sup → l.chains ≡ o.tables → l ≡ layout_of o.sup (undone o.sup R)
tables_laid R o l is sup chains = λ i. record { sup = sup i; chains = (chains ∙ is.tables) i }
