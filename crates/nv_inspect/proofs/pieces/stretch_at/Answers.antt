use Rattle.nv_inspect.proofs.Steps.{same_to}
use Rattle.nv_inspect.proofs.pieces.stretch_at.Goals as goal

pub returns-clause-same : goal.returns-clause-same
returns-clause-same c = same_to c.args.pieces.now.entries c.args.page c.next.result c.next.ensures.some c.next.ensures.none
