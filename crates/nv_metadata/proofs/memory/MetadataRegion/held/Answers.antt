use Rattle.std.proofs.Common.{map, vec_items, sym, ap, ◌∙◌, arith}
use Rattle.nv_region.specs.Region.{size, words_of}
use Rattle.nv_metadata.specs.Memory.{MetadataState, piece_of, held}
use Rattle.nv_metadata.proofs.Held.{size_shown}
use Rattle.nv_metadata.proofs.Together.{known, held_at}
use Rattle.nv_metadata.proofs.memory.MetadataRegion.held.Goals as goal

pub at-requires : goal.at-requires
at-requires c = omega (arith, c.requires, ap (λ (m : MetadataState). size m.memory.region) c.self.view_is, size_shown (words_of c.self.inside.front.items) c.self.inside.blocks (piece_of c.self.inside.places (map vec_items c.self.inside.parts.items)) c.self.invariant.front, c.self.invariant.places)

pub returns : goal.returns
returns c =
    ap known c.at.ensures
    ∙ sym (held_at c.self.inside.front.items c.self.inside.blocks c.self.inside.burnt c.self.inside.places (map vec_items c.self.inside.parts.items) c.args.block)
    ∙ ap (λ (m : MetadataState). held m c.args.block) c.self.view_is
