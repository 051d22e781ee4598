use Rattle.std.proofs.Common.{◌≡◌, ◌<◌, Bool, List, get_or, length, ap, sym, ◌∙◌, arith, false}
use Rattle.std.proofs.lemmas.List.{get_or-map, length-map}
use Rattle.nv_cross_check.specs.NameLists.{is_list}
use Rattle.nv_cross_check.proofs.Listed.{as_long, nameless_there}
use Rattle.nv_cross_check.proofs.listing.Listings.has_names.Goals as goal

pub index-requires : goal.index-requires
index-requires c =
    let t = c.self.inside in let within = rw (← c.self.view_is) at c.requires in
    let long = as_long t.rows.now.items t.places.items t.lists.items c.self.invariant.long in
    omega (arith, within, long, c.self.invariant.long, ap length c.self.invariant.told, length-map t.places.items is_list, t.named.ok.0)

pub returns : goal.returns
returns c is =
    let t = c.self.inside in let within = rw (← c.self.view_is) at c.requires in
    let long = as_long t.rows.now.items t.places.items t.lists.items c.self.invariant.long in
    let lt : c.args.place < length t.places.items = omega (arith, within, long, c.self.invariant.long) in
    let first : is_list (get_or t.places.items c.args.place 0) ≡ false =
    sym (get_or-map is_list t.places.items c.args.place 0 c.index.result.now lt) ∙ ap (λ (bs : List Bool). get_or bs c.args.place c.index.result.now) (sym c.self.invariant.told) ∙ sym c.index.ensures ∙ is in
    rw (← c.self.view_is) (nameless_there t.rows.now.items t.places.items t.lists.items c.args.place c.self.invariant.long c.self.invariant.empty within first)
