use Rattle.std.proofs.Common.{map, vec_items, List, ℕ, drop, length, refl, sym, ap, ◌∙◌, arith}
use Rattle.byteorder.specs.Endian.{little_number}
use Rattle.nv_region.specs.Region.{word, words_of}
use Rattle.nv_metadata.specs.Memory.{MetadataState, piece_of}
use Rattle.nv_metadata.proofs.Held.{front_first}
use Rattle.nv_metadata.proofs.memory.MetadataRegion.front.Goals as goal

pub returns-clause-count : goal.returns-clause-count
returns-clause-count c = ap length c.deref.ensures.value ∙ ap (λ (m : MetadataState). m.memory.front) c.self.view_is

pub returns-clause-words : goal.returns-clause-words
returns-clause-words c at aligned within =
    let same = c.deref.ensures.value in
    sym (ap (λ (m : MetadataState). word m.memory.region at) c.self.view_is)
    ∙ front_first (words_of c.self.inside.front.items) c.self.inside.front.items c.self.inside.blocks (piece_of c.self.inside.places (map vec_items c.self.inside.parts.items)) refl at aligned (omega (arith, within, ap length same))
    ∙ ap (λ (l : List ℕ). little_number 8 (drop at l)) (sym same)
