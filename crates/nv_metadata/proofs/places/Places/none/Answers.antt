use Rattle.std.proofs.Common.{◌≡◌, ◌++◌, ◌∷◌, [], List, replicate, refl, ap, ◌∙◌}
use Rattle.nv_metadata.specs.Places.{nowhere, table}
use Rattle.nv_metadata.specs.declared.places.Place.{Place}
use Rattle.nv_metadata.proofs.Numbered.{blank_table}
use Rattle.nv_metadata.proofs.places.Places.none.Goals as goal

pub returns : goal.returns
returns c =
    let items : c.push.new.self.items ≡ nowhere ∷ [] = c.in_ok-push.ensures.items ∙ ap (λ (l : List Place). l ++ nowhere ∷ []) c.in_ok-places.ensures.items in
    let numbers : c.in_ok-vec.field-0.items ≡ replicate c.args.blocks 0 = c.in_ok-vec.ensures.items_if_clones_equal (λ y e. e) in
    (λ i. table (numbers i) (items i)) ∙ blank_table c.args.blocks (nowhere ∷ []) refl
