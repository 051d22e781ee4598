-- A memory with one piece more: it stands behind the bytes of the first part, and the table has its place.
use Rattle.std.proofs.Common.{Result, Ok, Err, ◌≡◌, ◌≢◌, inl, inr, ◌*◌, ◌/◌, ◌%◌, ◌<◌, ◌≤◌, ℕ, Bool, List, [], ◌++◌, length, map, get_or, set, drop, sym, ap, ◌∙◌, subst, arith, get_or-set_same, get_or-set_other, vec_items}
use Rattle.std.proofs.Math.Seq.{map-set_same}
use Rattle.std.proofs.lemmas.Bool.{cases_eq}
use Rattle.std.proofs.lemmas.List.{get_or-map, map-set}
use Rattle.std.specs.declared.vec.Vec.{Vec}
use Rattle.std.specs.Result.{OnErr}
use Rattle.byteorder.specs.Endian.{little_number}
use Rattle.nv_region.specs.Region.{words_of}
use Rattle.nv_region.proofs.Fronted.{count_of_words}
use Rattle.nv_metadata.specs.Memory.{held, piece_at, piece_of, IsPlaced}
use Rattle.nv_metadata.specs.Places.{nowhere}
use Rattle.nv_metadata.specs.Holding.{BeginsWith}
use Rattle.nv_metadata.specs.declared.places.Place.{Place}
use Rattle.nv_metadata.proofs.Pieces.{grown, grows, as_many_grown, place_behind, piece_comes, placed_behind, piece_stays, placed_stays}
use Rattle.nv_metadata.proofs.Held.{word_some, word_none, same_word}
use Rattle.nv_metadata.proofs.Together.{known, seen, held_at, seen_stays}

-- what holds in any case holds behind an error
pub on_err : {X E P : Type 0} (r : Result X E) → P → OnErr r P
on_err (Ok x) p = tt
on_err (Err e) p = p

module _ {A : Type 0} (parts : List (Vec ℕ A)) (first v : Vec ℕ A) (some : 0 < length parts) (is : first ≡ get_or parts 0 first) where
  -- the bytes of the first part
  pub first_part : get_or (map vec_items parts) 0 [] ≡ first.items
  first_part = get_or-map vec_items parts 0 first [] some ∙ ap (λ (x : Vec ℕ A). x.items) (sym is)

  -- with more behind them
  pub parts_grown : (piece : List ℕ) (long : 0 < length (map vec_items parts)) → v.items ≡ first.items ++ piece → map vec_items (set parts 0 v) ≡ grown (map vec_items parts) piece long
  parts_grown piece long more = map-set vec_items parts 0 v ∙ ap (set (map vec_items parts) 0) (more ∙ ap (λ (l : List ℕ). l ++ piece) (sym first_part))

  -- and as they were
  pub parts_kept : v.items ≡ first.items → map vec_items (set parts 0 v) ≡ map vec_items parts
  parts_kept same = map-set_same vec_items parts 0 v first (same ∙ ap (λ (x : Vec ℕ A). x.items) is)

module _ (front : List ℕ) (blocks : ℕ) (burnt : Bool) (places : List Place) (parts : List (List ℕ)) (piece : List ℕ) (block many : ℕ) (few : length (words_of front) ≤ 512 * blocks) (some : 0 < length parts)
    (placed : (b : ℕ) → IsPlaced parts (get_or places b nowhere)) (as_many : length places ≡ blocks) (inside : block < blocks) (behind : length front ≤ 4096 * block) where
  abbrev pub news : List Place
  news = set places block (place_behind parts piece some many)

  place_here : get_or news block nowhere ≡ place_behind parts piece some many
  place_here = get_or-set_same places block (place_behind parts piece some many) nowhere (omega (arith, inside, as_many))

  place_elsewhere : (b : ℕ) → b ≢ block → get_or news b nowhere ≡ get_or places b nowhere
  place_elsewhere b other = get_or-set_other places block b (place_behind parts piece some many) nowhere other

  piece_here : piece_of news (grown parts piece some) block ≡ piece
  piece_here = ap (piece_at (grown parts piece some)) place_here ∙ piece_comes parts piece some many

  piece_elsewhere : (b : ℕ) → b ≢ block → piece_of news (grown parts piece some) b ≡ piece_of places parts b
  piece_elsewhere b other =
      let p = get_or places b nowhere in
      let more = grows parts piece some p.part in
      ap (piece_at (grown parts piece some)) (place_elsewhere b other) ∙ piece_stays parts (grown parts piece some) p more.0 (placed b) more.1

  pub begins : BeginsWith (seen front blocks burnt places parts).memory.region block piece (seen front blocks burnt news (grown parts piece some)).memory.region
  begins = record {
    piece = λ at aligned is within.
        let long = ap (λ (b : ℕ). length (piece_of news (grown parts piece some) b)) is in let here = ap length piece_here in
        word_some (words_of front) blocks (piece_of news (grown parts piece some)) at aligned (omega (arith, behind, is, count_of_words front)) (omega (arith, inside, is, aligned)) (omega (arith, long, here, within))
        ∙ ap (λ (l : List ℕ). little_number 8 (drop (at % 4096) l)) (ap (piece_of news (grown parts piece some)) is ∙ piece_here);
    zeros = λ at aligned is past.
        let long = ap (λ (b : ℕ). length (piece_of news (grown parts piece some) b)) is in let here = ap length piece_here in
        word_none (words_of front) blocks (piece_of news (grown parts piece some)) at aligned (omega (arith, behind, is, count_of_words front)) (omega (arith, inside, is, aligned)) (omega (arith, long, here, past));
    others = λ at aligned other. same_word (words_of front) blocks (piece_of news (grown parts piece some)) (piece_of places parts) few at (piece_elsewhere (at / 4096) other);
  }

  pub held_here : held (seen front blocks burnt news (grown parts piece some)) block ≡ many
  held_here = held_at front blocks burnt news (grown parts piece some) block ∙ ap known place_here

  pub held_elsewhere : (b : ℕ) → b ≢ block → held (seen front blocks burnt news (grown parts piece some)) b ≡ held (seen front blocks burnt places parts) b
  held_elsewhere b other = held_at front blocks burnt news (grown parts piece some) b ∙ ap known (place_elsewhere b other) ∙ sym (held_at front blocks burnt places parts b)

  pub all_placed : length piece % 8 ≡ 0 → (b : ℕ) → IsPlaced (grown parts piece some) (get_or news b nowhere)
  all_placed whole b = elim (cases_eq b block) [
    | inl is ↦ subst (IsPlaced (grown parts piece some)) (sym (ap (λ (n : ℕ). get_or news n nowhere) is ∙ place_here)) (placed_behind parts piece some many whole)
    | inr other ↦ (
        let p = get_or places b nowhere in
        let more = grows parts piece some p.part in
        subst (IsPlaced (grown parts piece some)) (sym (place_elsewhere b other)) (placed_stays parts (grown parts piece some) p more.0 (placed b) more.1 (let n = as_many_grown parts piece some in omega (arith, n))))
  ]

  -- Where the block isn't given its place, all is as before.
  pub same_grown : seen front blocks burnt places (grown parts piece some) ≡ seen front blocks burnt places parts
  same_grown = seen_stays front blocks burnt places parts (grown parts piece some) (λ b. (
      let p = get_or places b nowhere in
      let more = grows parts piece some p.part in
      piece_stays parts (grown parts piece some) p more.0 (placed b) more.1))

  pub placed_grown : (b : ℕ) → IsPlaced (grown parts piece some) (get_or places b nowhere)
  placed_grown b =
      let p = get_or places b nowhere in
      let more = grows parts piece some p.part in
      placed_stays parts (grown parts piece some) p more.0 (placed b) more.1 (let n = as_many_grown parts piece some in omega (arith, n))
