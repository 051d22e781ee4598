use Rattle.nv_host.proofs.Ordered.{one_order}
use Rattle.nv_host.proofs.laws.names_have_one_order.Goals as goal

pub returns : goal.returns
returns c = one_order
