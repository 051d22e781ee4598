use Rattle.std.proofs.Common.{map, vec_items, sym, ap, ◌∙◌}
use Rattle.nv_region.specs.Region.{size, words_of}
use Rattle.nv_metadata.specs.Memory.{MetadataState, piece_of}
use Rattle.nv_metadata.proofs.Held.{size_shown}
use Rattle.nv_metadata.proofs.memory.MetadataRegionPmem.len.Goals as goal

pub returns-clause-bytes : goal.returns-clause-bytes
returns-clause-bytes c = sym (size_shown (words_of c.self.inside.front.items) c.self.inside.blocks (piece_of c.self.inside.places (map vec_items c.self.inside.parts.items)) c.self.invariant.front) ∙ ap (λ (m : MetadataState). size m.memory.region) c.self.view_is
