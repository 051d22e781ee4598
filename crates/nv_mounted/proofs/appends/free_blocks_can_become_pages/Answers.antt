use Rattle.nv_mounted.proofs.Appending as made
use Rattle.nv_mounted.proofs.appends.free_blocks_can_become_pages.Goals as goal

pub returns-clause-can : goal.returns-clause-can
returns-clause-can c = made.can_append

pub returns-clause-loose : goal.returns-clause-loose
returns-clause-loose c = λ l held i h fresh is free. made.append_loose l held i h is fresh free
