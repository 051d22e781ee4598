use Rattle.nv_names.proofs.Keeping.{Stays, first_stays}
use Rattle.nv_names.proofs.bucket.Bucket.make_room.Goals as goal

stays : (c : goal.After-grow) → Stays c.self.inside.first.entries c.grow.new.first.entries c.self.inside.others.entries
stays c = first_stays c.self.inside.first.entries c.grow.new.first.entries c.self.inside.others.entries c.self.invariant c.grow.ensures.keyed c.grow.ensures.once c.grow.ensures.len c.grow.ensures.same

pub invariant_of-self : goal.invariant_of-self
invariant_of-self c = (stays c).bucket

pub returns-clause-names : goal.returns-clause-names
returns-clause-names c = rw (← c.self.view_is) (stays c).names
