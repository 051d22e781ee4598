use Rattle.nv_difference.proofs.Parts.{read_parts, read_same}
use Rattle.nv_difference.proofs.bytes.parting_in.Goals as goal

pub returns-in-Some : goal.returns-in-Some
returns-in-Some g c = λ x y first second. read_parts x y c.args.at _ _ c.requires.long _ _ (c.read.ensures.read x first) (c.read-2.ensures.read y second) c.in-Some.place c.in-Some.ensures

pub returns-in-None : goal.returns-in-None
returns-in-None g c = λ x y first second. read_same x y c.args.at _ _ c.requires.long _ _ (c.read.ensures.read x first) (c.read-2.ensures.read y second) c.in-None.ensures
