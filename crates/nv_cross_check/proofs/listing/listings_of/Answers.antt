use Rattle.nv_cross_check.proofs.Listed.{named_long, named_within, named_listed}
use Rattle.nv_cross_check.proofs.listing.listings_of.Goals as goal

pub invariant_of-result : goal.invariant_of-result
invariant_of-result c =
    let rows = c.args.rows.now.items in let places = c.push_all.new.places.items in let lists = c.push_all.new.lists.items in
    let is = c.in_ok-push_all.ensures in
    record { long = named_long rows places lists is.lists; within = named_within rows places lists is.lists; empty = is.empty; told = is.named }

pub returns : goal.returns
returns c = named_listed c.args.rows.now.items c.push_all.new.places.items c.push_all.new.lists.items c.in_ok-push_all.ensures.lists
