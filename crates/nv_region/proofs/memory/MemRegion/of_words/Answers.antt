use Rattle.std.proofs.Common.{ap}
use Rattle.nv_region.specs.StoredLines.{Noted}
use Rattle.nv_region.proofs.Before.{settled}
use Rattle.nv_region.proofs.memory.MemRegion.of_words.Goals as goal

pub returns-clause-settled : goal.returns-clause-settled
returns-clause-settled c = settled _ _ _ _ (ap (λ (n : Noted). n.rows) c.in_ok-stored.ensures) c.new-2.ensures
