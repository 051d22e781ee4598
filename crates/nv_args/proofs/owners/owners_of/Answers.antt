use Rattle.std.proofs.Common.{refl}
use Rattle.nv_args.proofs.Owning.{no_group, no_owner}
use Rattle.nv_args.proofs.owners.owners_of.Goals as goal

pub returns-in_err-id_of-in-Some-clause-none : goal.returns-in_err-id_of-in-Some-clause-none
returns-in_err-id_of-in-Some-clause-none c none = no_owner c.args.text.now c.in-Some.owner c.in-Some.group c.in-Some.ensures.cases (c.in_err-id_of-in-Some.ensures.none refl)

pub returns-in_err-id_of-in-Some-2-clause-none : goal.returns-in_err-id_of-in-Some-2-clause-none
returns-in_err-id_of-in-Some-2-clause-none c none = no_group c.args.text.now c.in-Some.owner c.in-Some.group c.in-Some.ensures.cases (c.in_err-id_of-in-Some-2.ensures.none refl)
