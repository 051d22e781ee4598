use Rattle.std.proofs.Common.{refl, inl}
use Rattle.nv_tree.specs.declared.refusal.Refusal.TheVariants.{Memory}
use Rattle.nova_c.proofs.listing.names_in.Goals as goal

pub returns-in-Ok-clause-refused : goal.returns-in-Ok-clause-refused
returns-in-Ok-clause-refused c runs p says = (Memory, refl, inl (refl, c.in-Ok.ensures.allowed p says))
