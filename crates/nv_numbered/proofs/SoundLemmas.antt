-- A table stays sound as values come, are written and go.
use Rattle.std.proofs.Common.{◌≡◌, ◌≢◌, ℕ, zero, suc, ◌+◌, ◌-◌, ◌^◌, ◌<◌, ◌≤◌, List, [], ◌∷◌, ◌++◌, length, get_or, set, replicate, Option, Some, None, is_some, IsSome, cond, count_by, refl, sym, ap, subst, ◌∙◌, inl, inr, arith, length-set, true≢false}
use Rattle.std.proofs.lemmas.List.{length-map, length_push, length-replicate, get_or_read}
use Rattle.std.proofs.lemmas.List.Sums.{sum_by-set, sum_by-cons, count_by-le-length}
use Rattle.std.proofs.lemmas.Option.{slice_get-get_or}
use Rattle.nv_numbered.specs.Table.{slot_of, slots_of, IsSound}
use Rattle.nv_numbered.specs.Chunked.{IsSwapRemoved}
use Rattle.nv_numbered.proofs.PairLemmas.{IsUnplaced, IsUnplaced-set, last_within, place_within, IsPaired-empty, IsPaired-insert, IsPaired-remove}
use Rattle.nv_numbered.proofs.SlotLemmas.{slot_at_none, slot_at_index, place_cases, slots_of-insert, slots_of-write, slots_of-remove}

-- there is a slot for each place
pub length-slots_of : {T : Type 0} (places : List ℕ) (values : List T) → length (slots_of places values) ≡ length places
length-slots_of places values = length-map places (slot_of values)

-- how many values a slot has
abbrev in_slot : {T : Type 0} → Option T → ℕ
in_slot slot = cond (is_some slot) 1 0

none_counted : (T : Type 0) (limit : ℕ) → count_by is_some (slots_of {T = T} (replicate limit 0) []) ≡ 0
none_counted T zero = refl
none_counted T (suc limit) =
    omega (arith, none_counted T limit, sum_by-cons (in_slot {T = T}) None (slots_of (replicate limit 0) []))

module _ {T : Type 0} where
  -- one more or one less value is counted where a slot is written
  count-set : (slots : List (Option T)) (n : ℕ) (slot : Option T) → n < length slots → count_by is_some (set slots n slot) + in_slot (get_or slots n None) ≡ count_by is_some slots + in_slot slot
  count-set slots n slot inside = sum_by-set in_slot slots n slot None inside

  pub IsSound-empty : (limit : ℕ) → limit < 2 ^ 32 → IsSound {T = T} (replicate limit 0) [] []
  IsSound-empty limit few =
      record {
        paired = IsPaired-empty limit;
        as_many = refl;
        counted = none_counted T limit;
        few = omega (arith, length-replicate {A = ℕ} limit 0);
      }

  module _ (places numbers : List ℕ) (values : List T) (sound : IsSound places numbers values) (n : ℕ) where
    -- a number with a place has the value there
    pub index_of_value : IsSome (get_or (slots_of places values) n None) → (index : ℕ) × (get_or places n 0 ≡ index + 1)
    index_of_value present =
        elim (place_cases (get_or places n 0)) [
          | inl vacant ↦ absurd (true≢false (sym (subst IsSome (slot_at_none places values n vacant) present)))
          | inr found ↦ found
        ]

    -- a number without a value has no place
    pub vacant_place : T → get_or (slots_of places values) n None ≡ None → get_or places n 0 ≡ 0
    vacant_place x none =
        elim (place_cases (get_or places n 0)) [
          | inl vacant ↦ vacant
          | inr found ↦
              let within : found.0 < length values = omega (arith, (sound.paired.numbered n found.0 found.1).0, sound.as_many) in
              let some = sym (slot_at_index places values n found.0 found.1 ∙ slice_get-get_or values found.0 x within) in
              cc
        ]

    -- each place that isn't 0 leads to a value
    pub leads_to_value : get_or places n 0 ≢ 0 → get_or places n 0 ≤ length values
    leads_to_value some =
        elim (place_cases (get_or places n 0)) [
          | inl vacant ↦ absurd (some vacant)
          | inr found ↦ omega (arith, (sound.paired.numbered n found.0 found.1).0, sound.as_many, found.1)
        ]

    -- where a number has no value, there are fewer values than numbers
    pub one_is_free : T → n < length places → get_or (slots_of places values) n None ≡ None → length values < length places
    one_is_free x inside none =
        let slots = slots_of places values in
        let as_long = length-slots_of places values in
        let counted = count-set slots n (Some x) (omega arith) in
        let was : in_slot (get_or slots n None) ≡ 0 = ap in_slot none in
        let most = count_by-le-length is_some (set slots n (Some x)) in
        omega (arith, length-set slots n (Some x), sound.counted)

    pub IsSound-insert : (x : T) → n < length places → get_or (slots_of places values) n None ≡ None → IsSound (set places n (length numbers + 1)) (numbers ++ n ∷ []) (values ++ x ∷ [])
    IsSound-insert x inside none =
        let slots = slots_of places values in
        let as_long = length-slots_of places values in
        let counted = count-set slots n (Some x) (omega arith) in
        let was : in_slot (get_or slots n None) ≡ 0 = ap in_slot none in
        let written = slots_of-insert places numbers values sound.paired sound.as_many n x inside in
        record {
          paired = IsPaired-insert places numbers sound.paired n inside (vacant_place x none);
          as_many = omega (arith, length_push values x, length_push numbers n, sound.as_many);
          counted = ap (count_by is_some) written ∙ omega (arith, length_push values x, sound.counted);
          few = omega (arith, length-set places n (length numbers + 1), sound.few);
        }

    -- the index of a number's value, where its place was read
    pub index_read : (place : ℕ) → IsSome (get_or (slots_of places values) n None) → place ≡ get_or places n 0 → get_or places n 0 ≡ place - 1 + 1
    index_read place present read = let found = index_of_value present in omega (arith, found.1, read)

    -- the place that was read leads to the index before it
    pub before_place : (place : ℕ) → place ≡ get_or places n 0 → place ≢ 0 → get_or places n 0 ≡ place - 1 + 1
    before_place place read some = omega arith

    module _ (j : ℕ) (place : get_or places n 0 ≡ j + 1) where
      pub index_inside : j < length values
      index_inside = omega (arith, (sound.paired.numbered n j place).0, sound.as_many)

      -- the number of the last value, where it was read
      pub last_read : (len m : ℕ) → len ≡ length numbers → m ≡ get_or numbers (len - 1) m → get_or numbers (length numbers - 1) 0 ≡ m
      last_read len m len_is read =
          let at_end : m ≡ get_or numbers (length numbers - 1) m = read ∙ ap (λ k. get_or numbers (k - 1) m) len_is in
          sym (get_or_read numbers (length numbers - 1) m (omega (arith, (sound.paired.numbered n j place).0)) at_end 0)

      -- the places that a removal leaves
      pub unplaced : (p m : ℕ) → p ≡ j + 1 → get_or numbers (length numbers - 1) 0 ≡ m → IsUnplaced places (set (set places m p) n 0) n m j
      unplaced p m is last =
          IsUnplaced-set places n m j p is (place_within places n j place) (last_within places numbers sound.paired n j m place last)

    module _ (j : ℕ) (place : get_or places n 0 ≡ j + 1) (x : T) where
      was_counted : in_slot (get_or (slots_of places values) n None) ≡ 1
      was_counted =
          ap in_slot (slot_at_index places values n j place ∙ slice_get-get_or values j x (index_inside j place))

      pub IsSound-write : IsSound places numbers (set values j x)
      IsSound-write =
          let slots = slots_of places values in
          let as_long = length-slots_of places values in
          let counted = count-set slots n (Some x) (omega (arith, place_within places n j place)) in
          let written = slots_of-write places numbers values sound.paired sound.as_many n j place x in
          record {
            paired = sound.paired;
            as_many = length-set values j x ∙ sound.as_many;
            counted = ap (count_by is_some) written ∙ omega (arith, was_counted, length-set values j x, sound.counted);
            few = sound.few;
          }

      pub IsSound-remove : (m : ℕ) → get_or numbers (length numbers - 1) 0 ≡ m → (left others : List ℕ) (rest : List T) → IsUnplaced places left n m j → IsSwapRemoved numbers others j → IsSwapRemoved values rest j → IsSound left others rest
      IsSound-remove m last left others rest unplaced renumbered swapped =
          let slots = slots_of places values in
          let as_long = length-slots_of places values in
          let counted = count-set slots n None (omega (arith, place_within places n j place)) in
          let written = slots_of-remove places numbers values sound.paired sound.as_many n j place m last left rest unplaced swapped x in
          record {
            paired = IsPaired-remove places numbers sound.paired n j m place last left others unplaced renumbered;
            as_many = omega (arith, renumbered.shorter, swapped.shorter, sound.as_many);
            counted = ap (count_by is_some) written ∙ omega (arith, was_counted, swapped.shorter, sound.counted);
            few = omega (arith, unplaced.as_long, sound.few);
          }
