-- A table is made of values and their numbers, place by place.
use Rattle.std.proofs.Common.{◌≡◌, ◌↔◌, ℕ, ◌+◌, ◌<◌, List, [], ◌∷◌, ◌++◌, length, take, get_or, set, slice_get, Some, None, sym, ap, ◌∙◌, inl, inr, arith}
use Rattle.std.proofs.lemmas.List.{take_more, length-take-le, get_or-take}
use Rattle.std.proofs.lemmas.Option.{slice_get_cases, slice_get_within}
use Rattle.nv_numbered.specs.Values.{AreNumbersBelow}
use Rattle.nv_numbered.specs.Table.{slots_of, IsSound}
use Rattle.nv_numbered.proofs.SlotLemmas.{slot_at_none, slot_at_index, place_cases}
use Rattle.nv_numbered.proofs.SoundLemmas.{one_is_free, IsSound-insert}

module _ {T : Type 0} where
  -- a number has a value just where both stand at one place
  pub value_by_place : (places numbers : List ℕ) (values : List T) → IsSound places numbers values → (number : ℕ) (value : T) → (get_or (slots_of places values) number None ≡ Some value) ↔ ((k : ℕ) × (get_or numbers k 0 ≡ number) × (slice_get values k ≡ Some value))
  value_by_place places numbers values sound number value = (
    λ has. elim (place_cases (get_or places number 0)) [
      | inl vacant ↦ let none = slot_at_none places values number vacant in absurd (cc)
      | inr found ↦ (
        found.0,
        (sound.paired.numbered number found.0 found.1).1,
        sym (slot_at_index places values number found.0 found.1) ∙ has,
      )
    ],
    λ stands.
        let within = slice_get_within values stands.0 value stands.2 in
        let place = sound.paired.placed number stands.0 (omega (arith, within, sound.as_many)) stands.1 in
        slot_at_index places values number stands.0 place ∙ stands.2,
  )

  module _ (places numbers : List ℕ) (values : List T) (limit n : ℕ) (many : length values ≡ length numbers) (given : AreNumbersBelow limit numbers) (long : length places ≡ limit) (inside : n < length numbers) (sound : IsSound places (take n numbers) (take n values)) where
    -- the next number has no place yet
    pub vacant_next : get_or places (get_or numbers n 0) 0 ≡ 0
    vacant_next = elim (place_cases (get_or places (get_or numbers n 0) 0)) [
      | inl vacant ↦ vacant
      | inr found ↦
          let at = sound.paired.numbered (get_or numbers n 0) found.0 found.1 in
          let early : found.0 < n = omega (arith, at.0, length-take-le n numbers (omega (arith, inside))) in
          absurd (given.once found.0 n early inside (sym (get_or-take n numbers found.0 0 early) ∙ at.1))
    ]

    next_value : (x : T) × (get_or values n x ≡ x)
    next_value = elim (slice_get_cases values n).1 [
      | inl there ↦ (there.0, there.3)
      | inr past ↦ absurd (omega (arith, past.0, many, inside))
    ]

    -- there is a free number for it
    pub few_before : n < limit
    few_before =
        let x = next_value.0 in
        let free = one_is_free places (take n numbers) (take n values) sound (get_or numbers n 0) x (omega (arith, given.below n inside, long)) (slot_at_none places (take n values) (get_or numbers n 0) vacant_next) in
        omega (arith, free, long, length-take-le n values (omega (arith, inside, many)))

    -- the next value gets its place
    pub IsSound-next : IsSound (set places (get_or numbers n 0) (n + 1)) (take (n + 1) numbers) (take (n + 1) values)
    IsSound-next =
        let number = get_or numbers n 0 in
        let x = next_value in
        let made = IsSound-insert places (take n numbers) (take n values) sound number x.0 (omega (arith, given.below n inside, long)) (slot_at_none places (take n values) number vacant_next) in
        let count : length (take n numbers) ≡ n = length-take-le n numbers (omega (arith, inside)) in
        let more_numbers : take (n + 1) numbers ≡ take n numbers ++ number ∷ [] = take_more numbers n 0 inside in
        let more_values : take (n + 1) values ≡ take n values ++ x.0 ∷ [] = take_more values n x.0 (omega (arith, inside, many)) ∙ ap (λ (y : T). take n values ++ y ∷ []) x.1 in
        rw (more_numbers, more_values) (rw count at made)
