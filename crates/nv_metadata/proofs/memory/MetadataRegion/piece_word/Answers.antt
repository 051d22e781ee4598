use Rattle.std.proofs.Common.{◌≡◌, ◌<◌, ◌≤◌, ◌+◌, ◌*◌, ◌/◌, ◌%◌, ℕ, List, [], length, map, vec_items, get_or, drop, sym, ap, ◌∙◌, arith}
use Rattle.std.proofs.lemmas.List.{get_or-map, length-map}
use Rattle.byteorder.specs.Endian.{little_number}
use Rattle.nv_region.specs.Region.{size, word, words_of}
use Rattle.nv_region.proofs.Fronted.{count_of_words}
use Rattle.nv_metadata.specs.Memory.{MetadataState, piece_of}
use Rattle.nv_metadata.specs.Places.{nowhere}
use Rattle.nv_metadata.specs.declared.places.Place.{Place}
use Rattle.nv_metadata.proofs.Pieces.{piece_length, piece_number}
use Rattle.nv_metadata.proofs.Held.{size_shown, word_none, word_some}
use Rattle.nv_metadata.proofs.memory.MetadataRegion.piece_word.Goals as goal

pub at-place-requires : goal.at-place-requires
at-place-requires c = omega (arith, c.requires.within, ap (λ (m : MetadataState). size m.memory.region) c.self.view_is, size_shown (words_of c.self.inside.front.items) c.self.inside.blocks (piece_of c.self.inside.places (map vec_items c.self.inside.parts.items)) c.self.invariant.front, c.self.invariant.places)

pub returns-then-offset-place : goal.returns-then-offset-place
returns-then-offset-place c =
    let is : c.at-place.result ≡ get_or c.self.inside.places (c.args.at / 4096) nowhere = c.at-place.ensures in
    let placed = c.self.invariant.placed (c.args.at / 4096) in
    let behind : 8 * length (words_of c.self.inside.front.items) ≤ c.args.at = omega (arith, c.requires.behind, ap (λ (m : MetadataState). m.memory.front) c.self.view_is, count_of_words c.self.inside.front.items) in
    let within : c.args.at + 8 ≤ 4096 * c.self.inside.blocks = omega (arith, c.requires.within, ap (λ (m : MetadataState). size m.memory.region) c.self.view_is, size_shown (words_of c.self.inside.front.items) c.self.inside.blocks (piece_of c.self.inside.places (map vec_items c.self.inside.parts.items)) c.self.invariant.front) in
    let long : length (piece_of c.self.inside.places (map vec_items c.self.inside.parts.items) (c.args.at / 4096)) ≡ (get_or c.self.inside.places (c.args.at / 4096) nowhere).count = piece_length (map vec_items c.self.inside.parts.items) (get_or c.self.inside.places (c.args.at / 4096) nowhere) placed in
    sym (word_none (words_of c.self.inside.front.items) c.self.inside.blocks (piece_of c.self.inside.places (map vec_items c.self.inside.parts.items)) c.args.at c.requires.aligned behind within (omega (arith, long, ap (λ (q : Place). q.count) is, c.if-offset-place.true)))
    ∙ ap (λ (m : MetadataState). word m.memory.region c.args.at) c.self.view_is

pub index-requires : goal.index-requires
index-requires c =
    let is : c.at-place.result ≡ get_or c.self.inside.places (c.args.at / 4096) nowhere = c.at-place.ensures in
    let placed = c.self.invariant.placed (c.args.at / 4096) in
    let n = placed.among in
    omega (arith, ap (λ (q : Place). q.part) is, n, length-map c.self.inside.parts.items vec_items)

pub word_at-requires : goal.word_at-requires
word_at-requires c =
    let is : c.at-place.result ≡ get_or c.self.inside.places (c.args.at / 4096) nowhere = c.at-place.ensures in
    let placed = c.self.invariant.placed (c.args.at / 4096) in
    let among : c.at-place.result.part < length c.self.inside.parts.items = (let n = placed.among in omega (arith, ap (λ (q : Place). q.part) is, n, length-map c.self.inside.parts.items vec_items)) in
    let bytes : get_or (map vec_items c.self.inside.parts.items) (get_or c.self.inside.places (c.args.at / 4096) nowhere).part [] ≡ c.index.result.now.items =
    ap (λ (q : Place). get_or (map vec_items c.self.inside.parts.items) q.part []) (sym is) ∙ get_or-map vec_items c.self.inside.parts.items c.at-place.result.part c.index.result.now [] among ∙ sym (ap vec_items c.index.ensures) in
    let there = placed.inside in
    let whole = placed.whole in
    omega (arith, ap length (c.deref.ensures.value ∙ sym bytes), ap (λ (q : Place). q.count) is, ap (λ (q : Place). q.start) is, there, whole, c.requires.aligned, c.if-offset-place.false)

pub returns : goal.returns
returns c =
    let is : c.at-place.result ≡ get_or c.self.inside.places (c.args.at / 4096) nowhere = c.at-place.ensures in
    let placed = c.self.invariant.placed (c.args.at / 4096) in
    let among : c.at-place.result.part < length c.self.inside.parts.items = (let n = placed.among in omega (arith, ap (λ (q : Place). q.part) is, n, length-map c.self.inside.parts.items vec_items)) in
    let bytes : get_or (map vec_items c.self.inside.parts.items) (get_or c.self.inside.places (c.args.at / 4096) nowhere).part [] ≡ c.index.result.now.items =
    ap (λ (q : Place). get_or (map vec_items c.self.inside.parts.items) q.part []) (sym is) ∙ get_or-map vec_items c.self.inside.parts.items c.at-place.result.part c.index.result.now [] among ∙ sym (ap vec_items c.index.ensures) in
    let behind : 8 * length (words_of c.self.inside.front.items) ≤ c.args.at = omega (arith, c.requires.behind, ap (λ (m : MetadataState). m.memory.front) c.self.view_is, count_of_words c.self.inside.front.items) in
    let within : c.args.at + 8 ≤ 4096 * c.self.inside.blocks = omega (arith, c.requires.within, ap (λ (m : MetadataState). size m.memory.region) c.self.view_is, size_shown (words_of c.self.inside.front.items) c.self.inside.blocks (piece_of c.self.inside.places (map vec_items c.self.inside.parts.items)) c.self.invariant.front) in
    let long : length (piece_of c.self.inside.places (map vec_items c.self.inside.parts.items) (c.args.at / 4096)) ≡ (get_or c.self.inside.places (c.args.at / 4096) nowhere).count = piece_length (map vec_items c.self.inside.parts.items) (get_or c.self.inside.places (c.args.at / 4096) nowhere) placed in
    let whole = placed.whole in
    let some : c.args.at % 4096 < (get_or c.self.inside.places (c.args.at / 4096) nowhere).count = omega (arith, ap (λ (q : Place). q.count) is, c.if-offset-place.false) in
    c.word_at.ensures ∙ ap (λ (l : List ℕ). little_number 8 (drop (c.at-place.result.start + c.args.at % 4096) l)) (c.deref.ensures.value ∙ sym bytes)
    ∙ ap (λ (q : Place). little_number 8 (drop (q.start + c.args.at % 4096) (get_or (map vec_items c.self.inside.parts.items) (get_or c.self.inside.places (c.args.at / 4096) nowhere).part []))) is
    ∙ piece_number (map vec_items c.self.inside.parts.items) (get_or c.self.inside.places (c.args.at / 4096) nowhere) (c.args.at % 4096) placed (omega (arith, some, whole, c.requires.aligned))
    ∙ sym (word_some (words_of c.self.inside.front.items) c.self.inside.blocks (piece_of c.self.inside.places (map vec_items c.self.inside.parts.items)) c.args.at c.requires.aligned behind within (omega (arith, some, long)))
    ∙ ap (λ (m : MetadataState). word m.memory.region c.args.at) c.self.view_is
