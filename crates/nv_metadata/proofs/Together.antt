-- Two memories that are put together: the table of one takes places of the other, whose parts stand behind its own.
use Rattle.std.proofs.Common.{◌≡◌, ◌⊎◌, inl, inr, ◌*◌, ◌/◌, ◌≤◌, ℕ, Bool, List, [], ◌++◌, length, map, get_or, refl, sym, ap, ◌∙◌, arith, length-append}
use Rattle.std.proofs.Math.ListN.{get_or-map}
use Rattle.std.proofs.lemmas.Bool.{cases_lt}
use Rattle.nv_region.specs.Region.{words_of}
use Rattle.nv_region.proofs.Fronted.{count_of_words}
use Rattle.nv_journal.specs.Undone.{SameBefore}
use Rattle.nv_metadata.specs.Memory.{MetadataState, held, piece_of, IsPlaced}
use Rattle.nv_metadata.specs.Places.{nowhere, taken}
use Rattle.nv_metadata.specs.Parts.{IsJoined}
use Rattle.nv_metadata.specs.declared.places.Place.{Place}
use Rattle.nv_metadata.proofs.Held.{shown, words_shown, same_word, same_behind}
use Rattle.nv_metadata.proofs.Joined.{SameWords, joined_by}
use Rattle.nv_metadata.proofs.Pieces.{part_stays, piece_stays, placed_stays}
use Rattle.nv_metadata.proofs.Taken.{early_place, less_place, more_place, kept_piece, taken_piece}

-- how many bytes are held by a place
abbrev pub known : Place → ℕ
known p = p.known

-- what contracts see of a memory
abbrev pub seen : List ℕ → ℕ → Bool → List Place → List (List ℕ) → MetadataState
seen front blocks burnt places parts = record {
  memory = record { region = shown (words_of front) blocks (piece_of places parts); front = length front; burnt = burnt };
  counts = map known places;
}

pub held_at : (front : List ℕ) (blocks : ℕ) (burnt : Bool) (places : List Place) (parts : List (List ℕ)) (b : ℕ) → held (seen front blocks burnt places parts) b ≡ (get_or places b nowhere).known
held_at front blocks burnt places parts b = get_or-map known places b nowhere

-- Where each block has the bytes that it had, the same is seen.
pub seen_stays : (front : List ℕ) (blocks : ℕ) (burnt : Bool) (places : List Place) (parts more : List (List ℕ)) → ((b : ℕ) → piece_of places more b ≡ piece_of places parts b) → seen front blocks burnt places more ≡ seen front blocks burnt places parts
seen_stays front blocks burnt places parts more same = (λ i. record { memory = record { region = shown (words_of front) blocks (λ b. same b i); front = length front; burnt = burnt }; counts = map known places })

-- Parts that no place names yet change nothing.
module _ (front : List ℕ) (blocks : ℕ) (burnt : Bool) (places : List Place) (parts more : List (List ℕ)) (placed : (b : ℕ) → IsPlaced parts (get_or places b nowhere)) where
  pub same_with_parts : seen front blocks burnt places (parts ++ more) ≡ seen front blocks burnt places parts
  same_with_parts = seen_stays front blocks burnt places parts (parts ++ more) (λ b. piece_stays parts (parts ++ more) (get_or places b nowhere) [] (placed b) (part_stays parts more (get_or places b nowhere) (placed b)))

  pub placed_with_parts : (b : ℕ) → IsPlaced (parts ++ more) (get_or places b nowhere)
  placed_with_parts b = placed_stays parts (parts ++ more) (get_or places b nowhere) [] (placed b) (part_stays parts more (get_or places b nowhere) (placed b)) (let l = length-append parts more in omega (arith, l))

module _ (front other_front : List ℕ) (blocks : ℕ) (burnt other_burnt : Bool) (places others news : List Place) (parts more : List (List ℕ)) (from : ℕ) (few : length (words_of front) ≤ 512 * blocks) (other_few : length (words_of other_front) ≤ 512 * blocks)
    (behind : length front ≤ 4096 * from) (other_behind : length other_front ≤ 4096 * from) (placed : (b : ℕ) → IsPlaced parts (get_or places b nowhere)) (there : (b : ℕ) → IsPlaced more (get_or others b nowhere))
    (are : (b : ℕ) → get_or news b nowhere ≡ taken from (length parts) b (get_or places b nowhere) (get_or others b nowhere)) where
  abbrev old : MetadataState
  old = seen front blocks burnt places parts

  abbrev other : MetadataState
  other = seen other_front blocks other_burnt others more

  abbrev new : MetadataState
  new = seen front blocks burnt news (parts ++ more)

  held_kept : (b : ℕ) → get_or news b nowhere ≡ get_or places b nowhere → held new b ≡ held old b
  held_kept b same = held_at front blocks burnt news (parts ++ more) b ∙ ap known same ∙ sym (held_at front blocks burnt places parts b)

  pub same_before : SameBefore (4096 * from) old.memory.region new.memory.region
  same_before at aligned low =
      same_word (words_of front) blocks (piece_of news (parts ++ more)) (piece_of places parts) few at
      (kept_piece places others news parts more from placed there are (at / 4096) (early_place places others news parts more from placed there are (at / 4096) (omega (arith, low))))

  each : (b : ℕ) → from ≤ b → ((held new b ≡ held old b) × (held other b ≤ held old b) × SameWords b old.memory.region new.memory.region) ⊎ ((held new b ≡ held other b) × (held old b ≤ held other b) × SameWords b other.memory.region new.memory.region)
  each b late =
      let mine = held_at front blocks burnt places parts b in
      let theirs = held_at other_front blocks other_burnt others more b in
      elim (cases_lt (get_or places b nowhere).known (get_or others b nowhere).known) [
        | inl many ↦ (
            let takes = more_place places others news parts more from placed there are b late many in
            inr (
              held_at front blocks burnt news (parts ++ more) b ∙ ap known takes ∙ sym theirs,
              omega (arith, many, mine, theirs),
              λ at aligned is. same_behind (words_of front) (words_of other_front) blocks (piece_of news (parts ++ more)) (piece_of others more) few other_few at
                  (omega (arith, behind, late, is, count_of_words front)) (omega (arith, other_behind, late, is, count_of_words other_front))
                  (ap (piece_of news (parts ++ more)) is ∙ taken_piece places others news parts more from placed there are b takes ∙ sym (ap (piece_of others more) is)),
            ))
        | inr less ↦ (
            let keeps = less_place places others news parts more from placed there are b late less in
            inl (
              held_kept b keeps,
              omega (arith, less, mine, theirs),
              λ at aligned is. same_word (words_of front) blocks (piece_of news (parts ++ more)) (piece_of places parts) few at
                  (ap (piece_of news (parts ++ more)) is ∙ kept_piece places others news parts more from placed there are b keeps ∙ sym (ap (piece_of places parts) is)),
            ))
      ]

  as_long : length new.memory.region.words ≡ length old.memory.region.words
  as_long = words_shown (words_of front) blocks (piece_of news (parts ++ more)) few ∙ sym (words_shown (words_of front) blocks (piece_of places parts) few)

  pub joined_places : (to : ℕ) → IsJoined from to old other new
  joined_places to = joined_by from to old other new refl behind other_behind as_long refl same_before (λ b early. held_kept b (early_place places others news parts more from placed there are b early)) each
