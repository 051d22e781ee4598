use Rattle.std.proofs.Common.{refl, inl}
use Rattle.nv_tree.specs.declared.refusal.Refusal.TheVariants.{Memory}
use Rattle.nova_c.proofs.by_number.names_in.Goals as goal

pub returns-in-Ok-clause-refused : goal.returns-in-Ok-clause-refused
returns-in-Ok-clause-refused c runs = (Memory, refl, inl (refl, c.in-Ok.ensures.allowed))
