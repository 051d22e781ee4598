use Rattle.std.proofs.Common.{sym, ◌∙◌}
use Rattle.nv_cross_check.proofs.Listed.{as_long}
use Rattle.nv_cross_check.proofs.listing.Listings.len.Goals as goal

pub returns : goal.returns
returns c = let t = c.self.inside in rw (← c.self.view_is) (c.len.ensures ∙ sym (as_long t.rows.now.items t.places.items t.lists.items c.self.invariant.long))
