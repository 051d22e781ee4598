use Rattle.nv_super.specs.declared.classes.FaultClass.{FaultClass}
use Rattle.nv_super.proofs.ClassNames.{name_found, name_within}
use Rattle.nv_super.proofs.classes.name_in.Goals as goal

pub bounds-classes-number : goal.bounds-classes-number
bounds-classes-number c = name_within (λ (x : FaultClass). x.name.now) c.args.classes.now c.args.number c.requires.table c.requires.within

pub returns : goal.returns
returns c = name_found (λ (x : FaultClass). x.name.now) c.args.classes.now _ c.args.number c.requires.table c.requires.within
