use Rattle.std.proofs.Common.{◌∙◌, [], sym}
use Rattle.nv_session.proofs.session.shown.Goals as goal

pub returns : goal.returns
returns c = λ i. record {
  sup = (c.superblock.ensures ∙ sym c.keeps.ensures.tables) i;
  tables = [];
  rows = c.rows.ensures i;
  free = (c.free.ensures i).pools;
  doubled = [];
  faults = c.faults.ensures i;
}
