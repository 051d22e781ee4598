use Rattle.std.proofs.Common.{map, vec_items, List, ℕ, drop, refl, sym, ap, ◌∙◌, arith}
use Rattle.byteorder.specs.Endian.{little_number}
use Rattle.nv_region.specs.Region.{word, words_of}
use Rattle.nv_metadata.specs.Memory.{MetadataState, piece_of}
use Rattle.nv_metadata.proofs.Held.{front_first}
use Rattle.nv_metadata.proofs.memory.MetadataRegionPmem.load.Goals as goal

pub returns-then-at-len : goal.returns-then-at-len
returns-then-at-len c =
    c.word_at.ensures ∙ ap (λ (l : List ℕ). little_number 8 (drop c.args.at l)) c.deref.ensures.value
    ∙ sym (front_first (words_of c.self.inside.front.items) c.self.inside.front.items c.self.inside.blocks (piece_of c.self.inside.places (map vec_items c.self.inside.parts.items)) refl c.args.at c.requires.aligned
    (omega (arith, c.requires.aligned, c.self.invariant.front_whole, c.if-at-len.true, c.len.ensures)))
    ∙ ap (λ (m : MetadataState). word m.memory.region c.args.at) c.self.view_is
