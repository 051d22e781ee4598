use Rattle.std.proofs.Common.{◌≡◌, ◌<◌, ◌≤◌, ◌*◌, ℕ, List, [], length, map, vec_items, get_or, set, sym, ap, ◌∙◌, subst, arith}
use Rattle.std.proofs.lemmas.List.{length-map}
use Rattle.nv_region.specs.Region.{size, words_of}
use Rattle.nv_metadata.specs.Memory.{MetadataState, piece_of, held}
use Rattle.nv_metadata.specs.Holding.{BeginsWith}
use Rattle.nv_metadata.proofs.Pieces.{grown, place_behind}
use Rattle.nv_metadata.proofs.Held.{size_shown}
use Rattle.nv_metadata.proofs.Together.{seen}
use Rattle.nv_metadata.proofs.OneMore.{on_err, first_part, parts_grown, parts_kept, news, begins, held_here, held_elsewhere, same_grown}
use Rattle.nv_metadata.proofs.memory.MetadataRegion.hold_piece.Goals as goal

pub put-requires : goal.put-requires
put-requires c = omega (arith, c.requires.within, ap (λ (m : MetadataState). size m.memory.region) c.self.view_is, size_shown (words_of c.self.inside.front.items) c.self.inside.blocks (piece_of c.self.inside.places (map vec_items c.self.inside.parts.items)) c.self.invariant.front, c.self.invariant.places)

pub returns-clause-begins : goal.returns-clause-begins
returns-clause-begins c =
    let some : 0 < length c.self.inside.parts.items = (let placed = c.self.invariant.placed 0 in let n = placed.among in omega (arith, n, length-map c.self.inside.parts.items vec_items)) in
    let some_parts : 0 < length (map vec_items c.self.inside.parts.items) = omega (arith, some, length-map c.self.inside.parts.items vec_items) in
    let inside : c.args.block < c.self.inside.blocks = omega (arith, c.requires.within, ap (λ (m : MetadataState). size m.memory.region) c.self.view_is, size_shown (words_of c.self.inside.front.items) c.self.inside.blocks (piece_of c.self.inside.places (map vec_items c.self.inside.parts.items)) c.self.invariant.front) in
    let behind : length c.self.inside.front.items ≤ 4096 * c.args.block = omega (arith, c.requires.behind, ap (λ (m : MetadataState). m.memory.front) c.self.view_is) in
    let first = first_part c.self.inside.parts.items c.index_mut.result.now c.extend_from_slice.new.self some c.index_mut.ensures.value in
    let same : c.index.result.now.items ≡ c.index_mut.result.now.items = sym (first_part c.self.inside.parts.items c.index.result.now c.extend_from_slice.new.self some c.index.ensures) ∙ first in
    let start : c.in_ok-start.start ≡ length (get_or (map vec_items c.self.inside.parts.items) 0 []) = omega (arith, c.in_ok-start.ensures, c.len.ensures, ap length same, ap length first, c.index.result.now.ok) in
    let parts : map vec_items (set c.self.inside.parts.items 0 c.extend_from_slice.new.self) ≡ grown (map vec_items c.self.inside.parts.items) c.args.piece.now some_parts = parts_grown c.self.inside.parts.items c.index_mut.result.now c.extend_from_slice.new.self some c.index_mut.ensures.value c.args.piece.now some_parts c.in_ok-extend_from_slice.ensures.items in
    let place : record { part = 0; start = c.in_ok-start.start; count = c.in_ok-count.count; known = c.in_ok-known.known } ≡ place_behind (map vec_items c.self.inside.parts.items) c.args.piece.now some_parts c.args.known =
    (λ i. record { part = 0; start = start i; count = c.in_ok-count.ensures i; known = c.in_ok-known.ensures i }) in
    let new : seen c.self.inside.front.items c.self.inside.blocks c.self.inside.burnt c.put.new.self (map vec_items (set c.self.inside.parts.items 0 c.extend_from_slice.new.self)) ≡ seen c.self.inside.front.items c.self.inside.blocks c.self.inside.burnt (news c.self.inside.front.items c.self.inside.blocks c.self.inside.burnt c.self.inside.places (map vec_items c.self.inside.parts.items) c.args.piece.now c.args.block c.args.known c.self.invariant.front some_parts c.self.invariant.placed c.self.invariant.places inside behind) (grown (map vec_items c.self.inside.parts.items) c.args.piece.now some_parts) = (λ i. seen c.self.inside.front.items c.self.inside.blocks c.self.inside.burnt ((c.in_ok-put.ensures.put ∙ ap (set c.self.inside.places c.args.block) place) i) (parts i)) in
    subst (λ (n : MetadataState). BeginsWith c.args.self.now.memory.region c.args.block c.args.piece.now n.memory.region) (sym new)
    (subst (λ (m : MetadataState). BeginsWith m.memory.region c.args.block c.args.piece.now (seen c.self.inside.front.items c.self.inside.blocks c.self.inside.burnt (news c.self.inside.front.items c.self.inside.blocks c.self.inside.burnt c.self.inside.places (map vec_items c.self.inside.parts.items) c.args.piece.now c.args.block c.args.known c.self.invariant.front some_parts c.self.invariant.placed c.self.invariant.places inside behind) (grown (map vec_items c.self.inside.parts.items) c.args.piece.now some_parts)).memory.region) c.self.view_is (begins c.self.inside.front.items c.self.inside.blocks c.self.inside.burnt c.self.inside.places (map vec_items c.self.inside.parts.items) c.args.piece.now c.args.block c.args.known c.self.invariant.front some_parts c.self.invariant.placed c.self.invariant.places inside behind))

pub returns-clause-held : goal.returns-clause-held
returns-clause-held c =
    let some : 0 < length c.self.inside.parts.items = (let placed = c.self.invariant.placed 0 in let n = placed.among in omega (arith, n, length-map c.self.inside.parts.items vec_items)) in
    let some_parts : 0 < length (map vec_items c.self.inside.parts.items) = omega (arith, some, length-map c.self.inside.parts.items vec_items) in
    let inside : c.args.block < c.self.inside.blocks = omega (arith, c.requires.within, ap (λ (m : MetadataState). size m.memory.region) c.self.view_is, size_shown (words_of c.self.inside.front.items) c.self.inside.blocks (piece_of c.self.inside.places (map vec_items c.self.inside.parts.items)) c.self.invariant.front) in
    let behind : length c.self.inside.front.items ≤ 4096 * c.args.block = omega (arith, c.requires.behind, ap (λ (m : MetadataState). m.memory.front) c.self.view_is) in
    let first = first_part c.self.inside.parts.items c.index_mut.result.now c.extend_from_slice.new.self some c.index_mut.ensures.value in
    let same : c.index.result.now.items ≡ c.index_mut.result.now.items = sym (first_part c.self.inside.parts.items c.index.result.now c.extend_from_slice.new.self some c.index.ensures) ∙ first in
    let start : c.in_ok-start.start ≡ length (get_or (map vec_items c.self.inside.parts.items) 0 []) = omega (arith, c.in_ok-start.ensures, c.len.ensures, ap length same, ap length first, c.index.result.now.ok) in
    let parts : map vec_items (set c.self.inside.parts.items 0 c.extend_from_slice.new.self) ≡ grown (map vec_items c.self.inside.parts.items) c.args.piece.now some_parts = parts_grown c.self.inside.parts.items c.index_mut.result.now c.extend_from_slice.new.self some c.index_mut.ensures.value c.args.piece.now some_parts c.in_ok-extend_from_slice.ensures.items in
    let place : record { part = 0; start = c.in_ok-start.start; count = c.in_ok-count.count; known = c.in_ok-known.known } ≡ place_behind (map vec_items c.self.inside.parts.items) c.args.piece.now some_parts c.args.known =
    (λ i. record { part = 0; start = start i; count = c.in_ok-count.ensures i; known = c.in_ok-known.ensures i }) in
    let new : seen c.self.inside.front.items c.self.inside.blocks c.self.inside.burnt c.put.new.self (map vec_items (set c.self.inside.parts.items 0 c.extend_from_slice.new.self)) ≡ seen c.self.inside.front.items c.self.inside.blocks c.self.inside.burnt (news c.self.inside.front.items c.self.inside.blocks c.self.inside.burnt c.self.inside.places (map vec_items c.self.inside.parts.items) c.args.piece.now c.args.block c.args.known c.self.invariant.front some_parts c.self.invariant.placed c.self.invariant.places inside behind) (grown (map vec_items c.self.inside.parts.items) c.args.piece.now some_parts) = (λ i. seen c.self.inside.front.items c.self.inside.blocks c.self.inside.burnt ((c.in_ok-put.ensures.put ∙ ap (set c.self.inside.places c.args.block) place) i) (parts i)) in (
      ap (λ (n : MetadataState). held n c.args.block) new ∙ held_here c.self.inside.front.items c.self.inside.blocks c.self.inside.burnt c.self.inside.places (map vec_items c.self.inside.parts.items) c.args.piece.now c.args.block c.args.known c.self.invariant.front some_parts c.self.invariant.placed c.self.invariant.places inside behind,
      λ b other. ap (λ (n : MetadataState). held n b) new ∙ held_elsewhere c.self.inside.front.items c.self.inside.blocks c.self.inside.burnt c.self.inside.places (map vec_items c.self.inside.parts.items) c.args.piece.now c.args.block c.args.known c.self.invariant.front some_parts c.self.invariant.placed c.self.invariant.places inside behind b other ∙ ap (λ (m : MetadataState). held m b) c.self.view_is,
    )

pub returns-in_err-extend_from_slice-clause-refused : goal.returns-in_err-extend_from_slice-clause-refused
returns-in_err-extend_from_slice-clause-refused c =
    let some : 0 < length c.self.inside.parts.items = (let placed = c.self.invariant.placed 0 in let n = placed.among in omega (arith, n, length-map c.self.inside.parts.items vec_items)) in
    let some_parts : 0 < length (map vec_items c.self.inside.parts.items) = omega (arith, some, length-map c.self.inside.parts.items vec_items) in
    let kept = parts_kept c.self.inside.parts.items c.index_mut.result.now c.extend_from_slice.new.self some c.index_mut.ensures.value c.in_err-extend_from_slice.ensures.items in
    on_err _ (ap (λ (l : List (List ℕ)). seen c.self.inside.front.items c.self.inside.blocks c.self.inside.burnt c.self.inside.places l) kept ∙ c.self.view_is)

pub returns-in_err-put-clause-refused : goal.returns-in_err-put-clause-refused
returns-in_err-put-clause-refused c =
    let some : 0 < length c.self.inside.parts.items = (let placed = c.self.invariant.placed 0 in let n = placed.among in omega (arith, n, length-map c.self.inside.parts.items vec_items)) in
    let some_parts : 0 < length (map vec_items c.self.inside.parts.items) = omega (arith, some, length-map c.self.inside.parts.items vec_items) in
    let inside : c.args.block < c.self.inside.blocks = omega (arith, c.requires.within, ap (λ (m : MetadataState). size m.memory.region) c.self.view_is, size_shown (words_of c.self.inside.front.items) c.self.inside.blocks (piece_of c.self.inside.places (map vec_items c.self.inside.parts.items)) c.self.invariant.front) in
    let behind : length c.self.inside.front.items ≤ 4096 * c.args.block = omega (arith, c.requires.behind, ap (λ (m : MetadataState). m.memory.front) c.self.view_is) in
    let parts : map vec_items (set c.self.inside.parts.items 0 c.extend_from_slice.new.self) ≡ grown (map vec_items c.self.inside.parts.items) c.args.piece.now some_parts = parts_grown c.self.inside.parts.items c.index_mut.result.now c.extend_from_slice.new.self some c.index_mut.ensures.value c.args.piece.now some_parts c.in_ok-extend_from_slice.ensures.items in
    on_err _ ((λ i. seen c.self.inside.front.items c.self.inside.blocks c.self.inside.burnt (c.in_err-put.ensures.refused i) (parts i))
    ∙ same_grown c.self.inside.front.items c.self.inside.blocks c.self.inside.burnt c.self.inside.places (map vec_items c.self.inside.parts.items) c.args.piece.now c.args.block c.args.known c.self.invariant.front some_parts c.self.invariant.placed c.self.invariant.places inside behind
    ∙ c.self.view_is)
