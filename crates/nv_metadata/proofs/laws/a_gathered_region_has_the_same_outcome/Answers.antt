use Rattle.nv_outcome.proofs.SuperOf.{one_super}
use Rattle.nv_metadata.proofs.Same.{gathered_outcome, whole_outcome, gathered_super}
use Rattle.nv_metadata.proofs.laws.a_gathered_region_has_the_same_outcome.Goals as goal

pub returns-clause-gathered : goal.returns-clause-gathered
returns-clause-gathered c = gathered_outcome

pub returns-clause-whole : goal.returns-clause-whole
returns-clause-whole c s R S o is g h = whole_outcome s R S is g o (one_super S s o.sup (gathered_super s R S is g) h.sup) h

pub returns-clause-superblock : goal.returns-clause-superblock
returns-clause-superblock c = gathered_super
