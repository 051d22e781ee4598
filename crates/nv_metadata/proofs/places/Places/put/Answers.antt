use Rattle.std.proofs.Common.{◌≡◌, List, length, set, ap, ◌∙◌, arith}
use Rattle.nv_metadata.specs.Places.{table}
use Rattle.nv_metadata.specs.declared.places.Place.{Place}
use Rattle.nv_metadata.proofs.Numbered.{put_table}
use Rattle.nv_metadata.proofs.places.Places.put.Goals as goal

pub returns-clause-put : goal.returns-clause-put
returns-clause-put c =
    let number : c.in_ok-number.number ≡ length c.self.inside.places.items = omega (arith, c.in_ok-number.ensures, c.len.ensures, c.self.inside.places.ok) in
    (λ i. table (set c.self.inside.numbers.items c.args.block (number i)) (c.in_ok-push.ensures.items i))
    ∙ put_table c.self.inside.numbers.items c.self.inside.places.items c.self.invariant.each c.args.place c.args.block
    ∙ ap (λ (l : List Place). set l c.args.block c.args.place) c.self.view_is
