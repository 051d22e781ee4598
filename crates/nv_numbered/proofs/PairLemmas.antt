-- How a new value and a removal keep places and numbers paired.
use Rattle.std.proofs.Common.{◌≡◌, ◌≢◌, ℕ, ◌+◌, ◌-◌, ◌<◌, List, [], ◌∷◌, ◌++◌, length, get_or, set, replicate, refl, sym, ap, ◌∙◌, inl, inr, arith, length-set}
use Rattle.std.proofs.lemmas.Bool.{cases_eq}
use Rattle.std.proofs.lemmas.List.{get_or-set_other, get_or_past, get_or_push, get_or_append_left, get_or-replicate, length_push, length-replicate}
use Rattle.std.proofs.lemmas.Grind.{get_or-set_at}
use Rattle.nv_numbered.specs.Chunked.{IsSwapRemoved}
use Rattle.nv_numbered.specs.Table.{IsPaired}

pub IsSwapRemoved-from_lens : {X : Type 0} (old new : List X) (j old_len new_len : ℕ) → old_len ≡ length old → new_len ≡ length new → new_len + 1 ≡ old_len → ((d : X) → j + 1 < old_len → get_or new j d ≡ get_or old (old_len - 1) d) × ((k : ℕ) (d : X) → k ≢ j → k + 1 < old_len → get_or new k d ≡ get_or old k d) → IsSwapRemoved old new j
IsSwapRemoved-from_lens old new j old_len new_len old_is new_is shorter by_index =
    record {
      shorter = omega arith;
      moved = λ d early. by_index.0 d (omega arith) ∙ ap (λ n. get_or old (n - 1) d) old_is;
      others = λ k d differs early. by_index.1 k d differs (omega arith);
    }

-- n has no place any more, and m, if it is another, has that of index j
pub record IsUnplaced (old new : List ℕ) (n m j : ℕ) : Type 0 where
  pub as_long : length new ≡ length old
  pub gone : get_or new n 0 ≡ 0
  pub taken : (number : ℕ) → number ≢ n → number ≡ m → get_or new number 0 ≡ j + 1
  pub kept : (number : ℕ) → number ≢ n → number ≢ m → get_or new number 0 ≡ get_or old number 0

pub IsUnplaced-set : (places : List ℕ) (n m j place : ℕ) → place ≡ j + 1 → n < length places → m < length places → IsUnplaced places (set (set places m place) n 0) n m j
IsUnplaced-set places n m j place is n_inside m_inside =
    record {
      as_long = length-set (set places m place) n 0 ∙ length-set places m place;
      gone = get_or-set_at (set places m place) n n 0 0 refl (omega (arith, length-set places m place));
      taken = λ number not_n same.
          get_or-set_other (set places m place) n number 0 0 not_n ∙ get_or-set_at places m number place 0 same m_inside ∙ is;
      kept = λ number not_n not_m.
          get_or-set_other (set places m place) n number 0 0 not_n ∙ get_or-set_other places m number place 0 not_m;
    }

-- a place that leads to an index is one of the places
pub place_within : (places : List ℕ) (number index : ℕ) → get_or places number 0 ≡ index + 1 → number < length places
place_within places number index place = grind (arith, get_or_past)

-- before the first value no place leads anywhere
pub no_place : (limit number : ℕ) → get_or {A = ℕ} (replicate limit 0) number 0 ≡ 0
no_place limit number = grind (arith, get_or-replicate {A = ℕ} limit number 0 0, get_or_past {X = ℕ} (replicate limit 0) number 0, length-replicate {A = ℕ} limit 0)

pub IsPaired-empty : (limit : ℕ) → IsPaired (replicate limit 0) []
IsPaired-empty limit =
    record {
      numbered = λ number index place. absurd (omega (arith, no_place limit number));
      placed = λ number index within found. absurd (omega arith);
    }

module _ (places numbers : List ℕ) (paired : IsPaired places numbers) (n : ℕ) where
  -- a number without a place gets the one behind the last
  pub IsPaired-insert : n < length places → get_or places n 0 ≡ 0 → IsPaired (set places n (length numbers + 1)) (numbers ++ n ∷ [])
  IsPaired-insert inside vacant = record { numbered = numbered; placed = placed }
    where
      longer : length (numbers ++ n ∷ []) ≡ length numbers + 1
      longer = length_push numbers n

      numbered : (number index : ℕ) → get_or (set places n (length numbers + 1)) number 0 ≡ index + 1 → (index < length (numbers ++ n ∷ [])) × (get_or (numbers ++ n ∷ []) index 0 ≡ number)
      numbered number index place =
          elim (cases_eq number n) [
            | inl same ↦
                let here = get_or-set_at places n number (length numbers + 1) 0 same inside in
                let at_end : length numbers ≡ index = omega arith in
                (omega (arith, longer), get_or_push numbers n 0 index at_end ∙ sym same)
            | inr differs ↦
                let old = paired.numbered number index (sym (get_or-set_other places n number (length numbers + 1) 0 differs) ∙ place) in
                (omega (arith, longer, old.0), get_or_append_left numbers (n ∷ []) 0 index old.0 ∙ old.1)
          ]

      placed : (number index : ℕ) → index < length (numbers ++ n ∷ []) → get_or (numbers ++ n ∷ []) index 0 ≡ number → get_or (set places n (length numbers + 1)) number 0 ≡ index + 1
      placed number index within found =
          elim (cases_eq (length numbers) index) [
            | inl at_end ↦
                let same : number ≡ n = sym found ∙ get_or_push numbers n 0 index at_end in
                get_or-set_at places n number (length numbers + 1) 0 same inside ∙ ap (λ k. k + 1) at_end
            | inr differs ↦
                let before : index < length numbers = omega (arith, longer) in
                let old = paired.placed number index before (sym (get_or_append_left numbers (n ∷ []) 0 index before) ∙ found) in
                let other : number ≢ n = λ same. omega (arith, ap (λ k. get_or places k 0) same) in
                get_or-set_other places n number (length numbers + 1) 0 other ∙ old
          ]

  module _ (j m : ℕ) (place : get_or places n 0 ≡ j + 1) (last : get_or numbers (length numbers - 1) 0 ≡ m) where
    -- the last number's place leads to the end
    pub last_place : get_or places m 0 ≡ length numbers
    last_place =
        let within = (paired.numbered n j place).0 in
        let found = paired.placed m (length numbers - 1) (omega arith) last in
        omega arith

    pub last_within : m < length places
    last_within =
        let within = (paired.numbered n j place).0 in
        place_within places m (length numbers - 1) (omega (arith, last_place))

    -- where the last number is another than n, index j lies before the end
    pub before_last : m ≢ n → j + 1 < length numbers
    before_last differs =
        let mine = paired.numbered n j place in
        let apart : j + 1 ≢ length numbers = λ same.
        let at_end : length numbers - 1 ≡ j = omega arith in
        differs (sym last ∙ ap (λ k. get_or numbers k 0) at_end ∙ mine.1) in
        omega (arith, mine.0)

    -- a number that is neither has its index before the end, and another than j
    pub other_index : (number index : ℕ) → number ≢ n → number ≢ m → get_or places number 0 ≡ index + 1 → (index ≢ j) × (index + 1 < length numbers)
    other_index number index not_n not_m found =
        let old = paired.numbered number index found in
        let not_last : index ≢ length numbers - 1 = λ e. not_m (sym old.1 ∙ ap (λ k. get_or numbers k 0) e ∙ last) in (
          λ e. not_n (sym old.1 ∙ ap (λ k. get_or numbers k 0) e ∙ (paired.numbered n j place).1),
          omega (arith, old.0),
        )

    -- the last number takes the place of n, which has none from then on
    pub IsPaired-remove : (left rest : List ℕ) → IsUnplaced places left n m j → IsSwapRemoved numbers rest j → IsPaired left rest
    IsPaired-remove left rest unplaced swapped = record { numbered = numbered; placed = placed }
      where
        numbered : (number index : ℕ) → get_or left number 0 ≡ index + 1 → (index < length rest) × (get_or rest index 0 ≡ number)
        numbered number index found =
            elim (cases_eq number n) [
              | inl same ↦ absurd (omega (arith, unplaced.gone, ap (λ k. get_or left k 0) same))
              | inr not_n ↦ elim (cases_eq number m) [
                | inl same ↦
                    let early = before_last (λ e. not_n (same ∙ e)) in
                    let index_is : index ≡ j = omega (arith, unplaced.taken number not_n same) in
                    (omega (arith, swapped.shorter), ap (λ k. get_or rest k 0) index_is ∙ swapped.moved 0 early ∙ last ∙ sym same)
                | inr not_m ↦
                    let place_is = sym (unplaced.kept number not_n not_m) ∙ found in
                    let apart = other_index number index not_n not_m place_is in
                    (omega (arith, swapped.shorter, apart.1), swapped.others index 0 apart.0 apart.1 ∙ (paired.numbered number index place_is).1)
              ]
            ]

        placed : (number index : ℕ) → index < length rest → get_or rest index 0 ≡ number → get_or left number 0 ≡ index + 1
        placed number index within found =
            let early : index + 1 < length numbers = omega (arith, swapped.shorter) in
            elim (cases_eq index j) [
              | inl same ↦
                  let before : j + 1 < length numbers = omega arith in
                  let number_is : number ≡ m = sym found ∙ ap (λ k. get_or rest k 0) same ∙ swapped.moved 0 before ∙ last in
                  let not_n : number ≢ n = λ e. omega (arith, last_place, ap (λ k. get_or places k 0) (sym number_is ∙ e)) in
                  unplaced.taken number not_n number_is ∙ ap (λ k. k + 1) (sym same)
              | inr differs ↦
                  let old = paired.placed number index (omega arith) (sym (swapped.others index 0 differs early) ∙ found) in
                  let not_n : number ≢ n = λ e. omega (arith, ap (λ k. get_or places k 0) e) in
                  let not_m : number ≢ m = λ e. omega (arith, last_place, ap (λ k. get_or places k 0) e) in
                  unplaced.kept number not_n not_m ∙ old
            ]
