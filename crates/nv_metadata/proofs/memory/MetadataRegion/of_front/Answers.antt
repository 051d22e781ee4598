use Rattle.std.proofs.Common.{◌/◌, length, map, vec_items, false, refl, ap, ◌∙◌, arith}
use Rattle.std.proofs.lemmas.List.{length-replicate}
use Rattle.nv_region.specs.Region.{words_of}
use Rattle.nv_region.proofs.Fronted.{count_of_words}
use Rattle.nv_metadata.specs.Memory.{piece_of}
use Rattle.nv_metadata.specs.Places.{nowhere}
use Rattle.nv_metadata.specs.declared.places.Place.{Place}
use Rattle.nv_metadata.proofs.Held.{words_shown, front_first, zeros_first}
use Rattle.nv_metadata.proofs.Blank.{no_bytes, none_held, placed_first}
use Rattle.nv_metadata.proofs.memory.MetadataRegion.of_front.Goals as goal

pub returns-clause-blocks : goal.returns-clause-blocks
returns-clause-blocks c = (words_shown (words_of c.args.front.items) c.args.blocks (piece_of c.in_ok-none.field-0 (map vec_items c.in_ok-one_part.field-0.items)) (omega (arith, count_of_words c.args.front.items, c.requires.within)), refl)

pub returns-clause-front : goal.returns-clause-front
returns-clause-front c at aligned within = front_first (words_of c.args.front.items) c.args.front.items c.args.blocks (piece_of c.in_ok-none.field-0 (map vec_items c.in_ok-one_part.field-0.items)) refl at aligned within

pub returns-clause-zeros : goal.returns-clause-zeros
returns-clause-zeros c at aligned behind =
    zeros_first (words_of c.args.front.items) c.args.blocks (piece_of c.in_ok-none.field-0 (map vec_items c.in_ok-one_part.field-0.items)) (no_bytes c.in_ok-none.field-0 c.args.blocks c.in_ok-none.ensures (map vec_items c.in_ok-one_part.field-0.items))
    (omega (arith, count_of_words c.args.front.items, c.requires.within)) (at / 8) (omega (arith, count_of_words c.args.front.items, behind))

pub returns-clause-none : goal.returns-clause-none
returns-clause-none c b = none_held c.in_ok-none.field-0 c.args.blocks c.in_ok-none.ensures c.args.front.items c.args.blocks false (map vec_items c.in_ok-one_part.field-0.items) b

pub invariant_of-result : goal.invariant_of-result
invariant_of-result c = record {
  front = omega (arith, count_of_words c.args.front.items, c.requires.within);
  front_whole = c.requires.whole;
  blocks = c.requires.few;
  places = ap length c.in_ok-none.ensures ∙ length-replicate {A = Place} c.args.blocks nowhere;
  placed = placed_first c.in_ok-none.field-0 c.args.blocks c.in_ok-none.ensures (map vec_items c.in_ok-one_part.field-0.items) c.in_ok-one_part.ensures;
}
