use Rattle.std.proofs.Common.{◌<◌, length, ap, ◌∙◌, arith}
use Rattle.std.proofs.lemmas.List.{get_or_default}
use Rattle.nv_cross_check.specs.NameLists.{names_by}
use Rattle.nv_cross_check.proofs.Listed.{as_long, names_there, list_names}
use Rattle.nv_cross_check.proofs.listing.Listings.names.Goals as goal

pub index-requires : goal.index-requires
index-requires c =
    let t = c.self.inside in let within = rw (← c.self.view_is) at c.requires in
    omega (arith, within, as_long t.rows.now.items t.places.items t.lists.items c.self.invariant.long, c.self.invariant.long, t.places.ok.0)

pub index-requires-2 : goal.index-requires-2
index-requires-2 c =
    let t = c.self.inside in let within = rw (← c.self.view_is) at c.requires in
    let long = as_long t.rows.now.items t.places.items t.lists.items c.self.invariant.long in
    let lt : c.args.place < length t.places.items = omega (arith, within, long, c.self.invariant.long) in
    let is = c.index.ensures ∙ get_or_default t.places.items c.args.place c.index.result.now 0 lt in
    omega (arith, is, c.self.invariant.within c.args.place lt, t.lists.ok.0)

pub returns : goal.returns
returns c =
    let t = c.self.inside in let within = rw (← c.self.view_is) at c.requires in
    let long = as_long t.rows.now.items t.places.items t.lists.items c.self.invariant.long in
    let lt : c.args.place < length t.places.items = omega (arith, within, long, c.self.invariant.long) in
    let is = c.index.ensures ∙ get_or_default t.places.items c.args.place c.index.result.now 0 lt in
    let inside : c.index.result.now < length t.lists.items = omega (arith, is, c.self.invariant.within c.args.place lt) in
    let names = c.deref.ensures.value ∙ list_names t.lists.items c.index.result.now c.index-2.result.now inside c.index-2.ensures ∙ ap (names_by t.lists.items) is in
    rw (← c.self.view_is) (names_there t.rows.now.items t.places.items t.lists.items c.args.place c.self.invariant.long c.deref.result.now within names)
