use Rattle.std.proofs.Common.{◌<◌, subst}
use Rattle.nv_cross_check.proofs.Listed.{as_long, head_there}
use Rattle.nv_cross_check.proofs.listing.Listings.head.Goals as goal

pub head-requires : goal.head-requires
head-requires c =
    let t = c.self.inside in let within = rw (← c.self.view_is) at c.requires in
    subst (λ n. c.args.place < n) (as_long t.rows.now.items t.places.items t.lists.items c.self.invariant.long) within

pub returns : goal.returns
returns c = let t = c.self.inside in rw (← c.self.view_is) (head_there t.rows.now.items t.places.items t.lists.items c.args.place c.self.invariant.long c.head.result c.head.ensures)
