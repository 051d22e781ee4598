use Rattle.std.proofs.Common.{◌≡◌, ◌≤◌, ◌*◌, ◌++◌, ℕ, List, length, map, vec_items, get_or, sym, ap, ◌∙◌, subst, arith}
use Rattle.std.proofs.lemmas.List.{length-map, map-append}
use Rattle.nv_region.specs.Region.{size, words_of}
use Rattle.nv_journal.specs.Undone.{SameBefore}
use Rattle.nv_metadata.specs.Memory.{MetadataState, piece_of, IsPlaced}
use Rattle.nv_metadata.specs.Places.{nowhere, taken}
use Rattle.nv_metadata.specs.Parts.{IsJoined}
use Rattle.nv_metadata.proofs.Held.{size_shown}
use Rattle.nv_metadata.proofs.Taken.{all_placed}
use Rattle.nv_metadata.proofs.OneMore.{on_err}
use Rattle.nv_metadata.proofs.Together.{seen, same_before, joined_places, same_with_parts}
use Rattle.nv_metadata.proofs.memory.MetadataRegion.join.Goals as goal

pub take_more-requires-clause-as_many : goal.take_more-requires-clause-as_many
take_more-requires-clause-as_many c =
    let blocks : c.other.inside.blocks ≡ c.self.inside.blocks = omega (arith, c.requires.as_long, ap (λ (m : MetadataState). size m.memory.region) c.self.view_is, size_shown (words_of c.self.inside.front.items) c.self.inside.blocks (piece_of c.self.inside.places (map vec_items c.self.inside.parts.items)) c.self.invariant.front, ap (λ (m : MetadataState). size m.memory.region) c.other.view_is, size_shown (words_of c.other.inside.front.items) c.other.inside.blocks (piece_of c.other.inside.places (map vec_items c.other.inside.parts.items)) c.other.invariant.front) in
    omega (arith, c.self.invariant.places, c.other.invariant.places, blocks)

pub take_more-requires-clause-from : goal.take_more-requires-clause-from
take_more-requires-clause-from c = omega (arith, c.self.invariant.places, c.requires.within, ap (λ (m : MetadataState). size m.memory.region) c.self.view_is, size_shown (words_of c.self.inside.front.items) c.self.inside.blocks (piece_of c.self.inside.places (map vec_items c.self.inside.parts.items)) c.self.invariant.front)

pub invariant_of-self-2 : goal.invariant_of-self-2
invariant_of-self-2 c =
    let parts : map vec_items c.append.new.self.items ≡ (map vec_items c.self.inside.parts.items) ++ (map vec_items c.other.inside.parts.items) = ap (map vec_items) c.in_ok-append.ensures.items ∙ map-append vec_items c.self.inside.parts.items c.other.inside.parts.items in
    let before : c.in_ok-before.before ≡ length (map vec_items c.self.inside.parts.items) = omega (arith, c.in_ok-before.ensures, c.len.ensures, length-map c.self.inside.parts.items vec_items, c.self.inside.parts.ok) in
    let are : (b : ℕ) → get_or c.take_more.new.self b nowhere ≡ taken c.args.from (length (map vec_items c.self.inside.parts.items)) b (get_or c.self.inside.places b nowhere) (get_or c.other.inside.places b nowhere) =
    (λ b. c.in_ok-take_more.ensures.taken b ∙ (λ i. taken c.args.from (before i) b (get_or c.self.inside.places b nowhere) (get_or c.other.inside.places b nowhere))) in
    record {
      front = c.self.invariant.front;
      front_whole = c.self.invariant.front_whole;
      blocks = c.self.invariant.blocks;
      places = c.take_more.ensures.as_many ∙ c.self.invariant.places;
      placed = λ b. subst (λ (l : List (List ℕ)). IsPlaced l (get_or c.take_more.new.self b nowhere)) (sym parts)
          (all_placed c.self.inside.places c.other.inside.places c.take_more.new.self (map vec_items c.self.inside.parts.items) (map vec_items c.other.inside.parts.items) c.args.from c.self.invariant.placed c.other.invariant.placed are b);
    }

pub returns-clause-joined : goal.returns-clause-joined
returns-clause-joined c to =
    let blocks : c.other.inside.blocks ≡ c.self.inside.blocks = omega (arith, c.requires.as_long, ap (λ (m : MetadataState). size m.memory.region) c.self.view_is, size_shown (words_of c.self.inside.front.items) c.self.inside.blocks (piece_of c.self.inside.places (map vec_items c.self.inside.parts.items)) c.self.invariant.front, ap (λ (m : MetadataState). size m.memory.region) c.other.view_is, size_shown (words_of c.other.inside.front.items) c.other.inside.blocks (piece_of c.other.inside.places (map vec_items c.other.inside.parts.items)) c.other.invariant.front) in
    let parts : map vec_items c.append.new.self.items ≡ (map vec_items c.self.inside.parts.items) ++ (map vec_items c.other.inside.parts.items) = ap (map vec_items) c.in_ok-append.ensures.items ∙ map-append vec_items c.self.inside.parts.items c.other.inside.parts.items in
    let before : c.in_ok-before.before ≡ length (map vec_items c.self.inside.parts.items) = omega (arith, c.in_ok-before.ensures, c.len.ensures, length-map c.self.inside.parts.items vec_items, c.self.inside.parts.ok) in
    let are : (b : ℕ) → get_or c.take_more.new.self b nowhere ≡ taken c.args.from (length (map vec_items c.self.inside.parts.items)) b (get_or c.self.inside.places b nowhere) (get_or c.other.inside.places b nowhere) =
    (λ b. c.in_ok-take_more.ensures.taken b ∙ (λ i. taken c.args.from (before i) b (get_or c.self.inside.places b nowhere) (get_or c.other.inside.places b nowhere))) in
    let other_few : length (words_of c.other.inside.front.items) ≤ 512 * c.self.inside.blocks = (let few = c.other.invariant.front in omega (arith, few, blocks)) in
    let behind : length c.self.inside.front.items ≤ 4096 * c.args.from = omega (arith, c.requires.behind.0, ap (λ (m : MetadataState). m.memory.front) c.self.view_is) in
    let there : length c.other.inside.front.items ≤ 4096 * c.args.from = omega (arith, c.requires.behind.1, ap (λ (m : MetadataState). m.memory.front) c.other.view_is) in
    let other : seen c.other.inside.front.items c.self.inside.blocks c.other.inside.burnt c.other.inside.places (map vec_items c.other.inside.parts.items) ≡ c.args.other = ap (λ (n : ℕ). seen c.other.inside.front.items n c.other.inside.burnt c.other.inside.places (map vec_items c.other.inside.parts.items)) (sym blocks) ∙ c.other.view_is in
    let new : seen c.self.inside.front.items c.self.inside.blocks c.self.inside.burnt c.take_more.new.self (map vec_items c.append.new.self.items) ≡ seen c.self.inside.front.items c.self.inside.blocks c.self.inside.burnt c.take_more.new.self ((map vec_items c.self.inside.parts.items) ++ (map vec_items c.other.inside.parts.items)) = (λ i. seen c.self.inside.front.items c.self.inside.blocks c.self.inside.burnt c.take_more.new.self (parts i)) in
    subst (λ (n : MetadataState). IsJoined c.args.from to c.args.self.now c.args.other n) (sym new)
    (subst (λ (o : MetadataState). IsJoined c.args.from to c.args.self.now o (seen c.self.inside.front.items c.self.inside.blocks c.self.inside.burnt c.take_more.new.self ((map vec_items c.self.inside.parts.items) ++ (map vec_items c.other.inside.parts.items)))) other
    (subst (λ (m : MetadataState). IsJoined c.args.from to m (seen c.other.inside.front.items c.self.inside.blocks c.other.inside.burnt c.other.inside.places (map vec_items c.other.inside.parts.items)) (seen c.self.inside.front.items c.self.inside.blocks c.self.inside.burnt c.take_more.new.self ((map vec_items c.self.inside.parts.items) ++ (map vec_items c.other.inside.parts.items)))) c.self.view_is
    (joined_places c.self.inside.front.items c.other.inside.front.items c.self.inside.blocks c.self.inside.burnt c.other.inside.burnt c.self.inside.places c.other.inside.places c.take_more.new.self (map vec_items c.self.inside.parts.items) (map vec_items c.other.inside.parts.items) c.args.from c.self.invariant.front other_few behind there c.self.invariant.placed c.other.invariant.placed are to)))

pub returns-clause-before : goal.returns-clause-before
returns-clause-before c =
    let blocks : c.other.inside.blocks ≡ c.self.inside.blocks = omega (arith, c.requires.as_long, ap (λ (m : MetadataState). size m.memory.region) c.self.view_is, size_shown (words_of c.self.inside.front.items) c.self.inside.blocks (piece_of c.self.inside.places (map vec_items c.self.inside.parts.items)) c.self.invariant.front, ap (λ (m : MetadataState). size m.memory.region) c.other.view_is, size_shown (words_of c.other.inside.front.items) c.other.inside.blocks (piece_of c.other.inside.places (map vec_items c.other.inside.parts.items)) c.other.invariant.front) in
    let parts : map vec_items c.append.new.self.items ≡ (map vec_items c.self.inside.parts.items) ++ (map vec_items c.other.inside.parts.items) = ap (map vec_items) c.in_ok-append.ensures.items ∙ map-append vec_items c.self.inside.parts.items c.other.inside.parts.items in
    let before : c.in_ok-before.before ≡ length (map vec_items c.self.inside.parts.items) = omega (arith, c.in_ok-before.ensures, c.len.ensures, length-map c.self.inside.parts.items vec_items, c.self.inside.parts.ok) in
    let are : (b : ℕ) → get_or c.take_more.new.self b nowhere ≡ taken c.args.from (length (map vec_items c.self.inside.parts.items)) b (get_or c.self.inside.places b nowhere) (get_or c.other.inside.places b nowhere) =
    (λ b. c.in_ok-take_more.ensures.taken b ∙ (λ i. taken c.args.from (before i) b (get_or c.self.inside.places b nowhere) (get_or c.other.inside.places b nowhere))) in
    let other_few : length (words_of c.other.inside.front.items) ≤ 512 * c.self.inside.blocks = (let few = c.other.invariant.front in omega (arith, few, blocks)) in
    let behind : length c.self.inside.front.items ≤ 4096 * c.args.from = omega (arith, c.requires.behind.0, ap (λ (m : MetadataState). m.memory.front) c.self.view_is) in
    let there : length c.other.inside.front.items ≤ 4096 * c.args.from = omega (arith, c.requires.behind.1, ap (λ (m : MetadataState). m.memory.front) c.other.view_is) in
    let other : seen c.other.inside.front.items c.self.inside.blocks c.other.inside.burnt c.other.inside.places (map vec_items c.other.inside.parts.items) ≡ c.args.other = ap (λ (n : ℕ). seen c.other.inside.front.items n c.other.inside.burnt c.other.inside.places (map vec_items c.other.inside.parts.items)) (sym blocks) ∙ c.other.view_is in
    let new : seen c.self.inside.front.items c.self.inside.blocks c.self.inside.burnt c.take_more.new.self (map vec_items c.append.new.self.items) ≡ seen c.self.inside.front.items c.self.inside.blocks c.self.inside.burnt c.take_more.new.self ((map vec_items c.self.inside.parts.items) ++ (map vec_items c.other.inside.parts.items)) = (λ i. seen c.self.inside.front.items c.self.inside.blocks c.self.inside.burnt c.take_more.new.self (parts i)) in
    subst (λ (n : MetadataState). SameBefore (4096 * c.args.from) c.args.self.now.memory.region n.memory.region) (sym new)
    (subst (λ (m : MetadataState). SameBefore (4096 * c.args.from) m.memory.region (seen c.self.inside.front.items c.self.inside.blocks c.self.inside.burnt c.take_more.new.self ((map vec_items c.self.inside.parts.items) ++ (map vec_items c.other.inside.parts.items))).memory.region) c.self.view_is
    (same_before c.self.inside.front.items c.other.inside.front.items c.self.inside.blocks c.self.inside.burnt c.other.inside.burnt c.self.inside.places c.other.inside.places c.take_more.new.self (map vec_items c.self.inside.parts.items) (map vec_items c.other.inside.parts.items) c.args.from c.self.invariant.front other_few behind there c.self.invariant.placed c.other.invariant.placed are))

pub returns-in_err-take_more-clause-refused : goal.returns-in_err-take_more-clause-refused
returns-in_err-take_more-clause-refused c =
    let parts : map vec_items c.append.new.self.items ≡ (map vec_items c.self.inside.parts.items) ++ (map vec_items c.other.inside.parts.items) = ap (map vec_items) c.in_ok-append.ensures.items ∙ map-append vec_items c.self.inside.parts.items c.other.inside.parts.items in
    on_err _ ((λ i. seen c.self.inside.front.items c.self.inside.blocks c.self.inside.burnt (c.in_err-take_more.ensures.refused i) (parts i))
    ∙ same_with_parts c.self.inside.front.items c.self.inside.blocks c.self.inside.burnt c.self.inside.places (map vec_items c.self.inside.parts.items) (map vec_items c.other.inside.parts.items) c.self.invariant.placed
    ∙ c.self.view_is)
