use Rattle.std.proofs.Common.{map, vec_items, List, ℕ, ◌<◌, ◌/◌, length, get_or, set, ap, ◌∙◌, arith}
use Rattle.std.proofs.lemmas.List.{take_at}
use Rattle.nv_region.specs.Region.{Region, put, words_of}
use Rattle.nv_region.specs.ImageState.{with_front}
use Rattle.nv_region.proofs.Fronted.{count_of_words, set_in_front, stored_or_before}
use Rattle.nv_metadata.specs.Memory.{MetadataState, piece_of, pieced}
use Rattle.nv_metadata.proofs.Held.{words_shown}
use Rattle.nv_metadata.proofs.memory.MetadataRegionPmem.store.Goals as goal

pub returns-clause-stored : goal.returns-clause-stored
returns-clause-stored c =
    let pieces = pieced c.self.inside.blocks (piece_of c.self.inside.places (map vec_items c.self.inside.parts.items)) in
    let words = c.put_word.ensures.words ∙ ap (λ (l : List ℕ). set (words_of l) (c.args.at / 8) c.args.value) c.deref_mut.ensures.value in
    let back = take_at c.put_word.new.bytes _ c.self.inside.front.len (omega (arith, c.put_word.ensures.as_long, ap length c.deref_mut.ensures.value, c.self.inside.front.ok)) in
    ap (λ (l : List ℕ). with_front (words_of l) pieces) back ∙ ap (λ (l : List ℕ). with_front l pieces) words
    ∙ set_in_front (words_of c.self.inside.front.items) pieces (c.args.at / 8) c.args.value (omega (arith, count_of_words c.self.inside.front.items, c.self.invariant.front_whole, c.requires.aligned, c.if-at-len.false, c.len.ensures))
    ∙ ap (λ (m : MetadataState). put m.memory.region c.args.at c.args.value) c.self.view_is

pub returns-clause-may_keep : goal.returns-clause-may_keep
returns-clause-may_keep c i x is =
    let long = words_shown (words_of c.self.inside.front.items) c.self.inside.blocks (piece_of c.self.inside.places (map vec_items c.self.inside.parts.items)) c.self.invariant.front in
    let inside : c.args.at / 8 < length c.args.self.now.memory.region.words =
    omega (arith, ap (λ (m : MetadataState). length m.memory.region.words) c.self.view_is, long, count_of_words c.self.inside.front.items, c.self.invariant.front, c.self.invariant.front_whole, c.requires.aligned, c.if-at-len.false, c.len.ensures) in
    stored_or_before c.args.self.now.memory.region.words (c.args.at / 8) c.args.value i x inside (is ∙ ap (λ (R : Region). get_or R.words i 0) (returns-clause-stored c))
