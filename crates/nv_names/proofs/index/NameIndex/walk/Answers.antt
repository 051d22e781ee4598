use Rattle.std.proofs.lemmas.Result.{IfOk-weaker}
use Rattle.nv_names.proofs.Listing.{has_names}
use Rattle.nv_names.proofs.index.NameIndex.walk.Goals as goal

pub returns : goal.returns
returns c = IfOk-weaker c.unsorted.result _ _ (λ listed names. has_names c.args.self.now listed.items c.unsorted.ensures.each_once names) c.unsorted.ensures.names
