use Rattle.nv_outcome.proofs.Metadata.{metadata_alone}
use Rattle.nv_outcome.proofs.laws.outcome_reads_metadata_alone.Goals as goal

pub returns : goal.returns
returns c = metadata_alone
