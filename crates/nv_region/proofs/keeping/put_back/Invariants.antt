use Rattle.nv_region.proofs.Before.{ArePutBack}
use Rattle.nv_region.proofs.keeping.put_back.Given as goal

abbrev pub invariant-loop-row : goal.invariant-loop-row
invariant-loop-row l = ArePutBack l.rows l.kept l.initial.words l.row-index l.words
