-- What the places stand for, as values come, are written and go.
use Rattle.std.proofs.Common.{◌≡◌, ◌≢◌, ◌⊎◌, ℕ, zero, suc, ◌+◌, ◌-◌, ◌<◌, List, [], ◌∷◌, ◌++◌, length, get_or, set, Option, Some, None, slice_get, refl, sym, ap, ◌∙◌, inl, inr, arith, length-set, add-one}
use Rattle.std.proofs.lemmas.Bool.{cases_eq}
use Rattle.std.proofs.lemmas.List.{ext_get_or, length-map, set-get_or, get_or-set_other, get_or_push, get_or_append_left, length_push}
use Rattle.std.proofs.Math.ListN.{get_or-map as get_or-map_default}
use Rattle.std.proofs.lemmas.Grind.{get_or-set_at}
use Rattle.std.proofs.lemmas.Option.{slice_get-get_or}
use Rattle.nv_numbered.specs.Table.{IsPaired, slot_of, slots_of}
use Rattle.nv_numbered.specs.Chunked.{IsSwapRemoved}
use Rattle.nv_numbered.proofs.PairLemmas.{IsUnplaced, place_within, last_place, before_last, other_index}

-- a list that differs from another in one element alone
set_from_others : {X : Type 0} (old new : List X) (n : ℕ) (x d : X) → length new ≡ length old → n < length old → get_or new n d ≡ x → ((k : ℕ) → k ≢ n → get_or new k d ≡ get_or old k d) → new ≡ set old n x
set_from_others old new n x d as_long inside here others =
    ext_get_or d new (set old n x) (as_long ∙ sym (length-set old n x)) (λ k within.
    elim (cases_eq k n) [
      | inl same ↦ ap (λ i. get_or new i d) same ∙ here ∙ sym (get_or-set_at old n k x d same inside)
      | inr differs ↦ others k differs ∙ sym (get_or-set_other old n k x d differs)
    ])

-- a place is 0 or leads to an index
pub place_cases : (place : ℕ) → (place ≡ 0) ⊎ ((index : ℕ) × (place ≡ index + 1))
place_cases zero = inl refl
place_cases (suc index) = inr (index, sym (add-one index))

module _ {T : Type 0} where
  -- nothing is lost where a number without a value is emptied
  pub set_none : (slots : List (Option T)) (n : ℕ) → get_or slots n None ≡ None → slots ≡ set slots n None
  set_none slots n none = sym (ap (set slots n) (sym none) ∙ set-get_or slots n None)

  -- a number has what its place stands for
  pub slot_at : (places : List ℕ) (values : List T) (number : ℕ) → get_or (slots_of places values) number None ≡ slot_of values (get_or places number 0)
  slot_at places values number = get_or-map_default (slot_of values) places number 0

  pub slot_at_none : (places : List ℕ) (values : List T) (number : ℕ) → get_or places number 0 ≡ 0 → get_or (slots_of places values) number None ≡ None
  slot_at_none places values number vacant = slot_at places values number ∙ ap (slot_of values) vacant

  pub slot_at_index : (places : List ℕ) (values : List T) (number index : ℕ) → get_or places number 0 ≡ index + 1 → get_or (slots_of places values) number None ≡ slice_get values index
  slot_at_index places values number index place =
      slot_at places values number ∙ ap (slot_of values) (place ∙ add-one index)

  -- a place that isn't 0 leads to the value before it
  pub slot_at_place : (places : List ℕ) (values : List T) (number place : ℕ) (value : T) → place ≡ get_or places number 0 → get_or places number 0 ≢ 0 → slice_get values (place - 1) ≡ Some value → get_or (slots_of places values) number None ≡ Some value
  slot_at_place places values number place value read some has =
      slot_at_index places values number (place - 1) (omega (arith, read, some)) ∙ has

  -- where the places lead to the same values as before, the number has what it had
  slot_kept : (places left : List ℕ) (values rest : List T) (number : ℕ) → get_or left number 0 ≡ get_or places number 0 → ((index : ℕ) → get_or places number 0 ≡ index + 1 → slice_get rest index ≡ slice_get values index) → get_or (slots_of left rest) number None ≡ get_or (slots_of places values) number None
  slot_kept places left values rest number same agree =
      elim (place_cases (get_or places number 0)) [
        | inl vacant ↦ slot_at_none left rest number (same ∙ vacant) ∙ sym (slot_at_none places values number vacant)
        | inr found ↦ slot_at_index left rest number found.0 (same ∙ found.1) ∙ agree found.0 found.1 ∙ sym (slot_at_index places values number found.0 found.1)
      ]

  -- lists that agree at an index that both have
  slice_get_same : (old new : List T) (i j : ℕ) (d : T) → i < length old → j < length new → get_or new j d ≡ get_or old i d → slice_get new j ≡ slice_get old i
  slice_get_same old new i j d in_old in_new same =
      slice_get-get_or new j d in_new ∙ ap Some same ∙ sym (slice_get-get_or old i d in_old)

  module _ (places numbers : List ℕ) (values : List T) (paired : IsPaired places numbers) (as_many : length values ≡ length numbers) (n : ℕ) where
    -- an index that a place leads to has a value
    index_within : (number index : ℕ) → get_or places number 0 ≡ index + 1 → index < length values
    index_within number index place = omega (arith, (paired.numbered number index place).0)

    pub slots_of-insert : (x : T) → n < length places → slots_of (set places n (length numbers + 1)) (values ++ x ∷ []) ≡ set (slots_of places values) n (Some x)
    slots_of-insert x inside =
        set_from_others (slots_of places values) _ n (Some x) None
        (length-map (set places n (length numbers + 1)) _ ∙ length-set places n _ ∙ sym (length-map places _))
        (omega (arith, length-map places (slot_of values)))
        (slot_at_index _ (values ++ x ∷ []) n (length numbers) (get_or-set_at places n n (length numbers + 1) 0 refl inside)
        ∙ slice_get-get_or (values ++ x ∷ []) (length numbers) x (omega (arith, length_push values x))
        ∙ ap Some (get_or_push values x x (length numbers) as_many))
        (λ k differs. slot_kept places _ values _ k (get_or-set_other places n k _ 0 differs) (λ index place.
        let within = index_within k index place in
        slice_get_same values (values ++ x ∷ []) index index x within (omega (arith, length_push values x)) (get_or_append_left values (x ∷ []) x index within)))

    module _ (j : ℕ) (place : get_or places n 0 ≡ j + 1) where
      pub slots_of-write : (x : T) → slots_of places (set values j x) ≡ set (slots_of places values) n (Some x)
      slots_of-write x =
          let inside = place_within places n j place in
          let within = index_within n j place in
          set_from_others (slots_of places values) _ n (Some x) None
          (length-map places _ ∙ sym (length-map places _))
          (omega (arith, length-map places (slot_of values)))
          (slot_at_index places (set values j x) n j place
          ∙ slice_get-get_or (set values j x) j x (omega (arith, length-set values j x))
          ∙ ap Some (get_or-set_at values j j x x refl within))
          (λ k differs. slot_kept places places values _ k refl (λ index found.
          let not_j : index ≢ j = λ e. differs (sym (paired.numbered k index found).1 ∙ ap (λ i. get_or numbers i 0) e ∙ (paired.numbered n j place).1) in
          slice_get_same values (set values j x) index index x (index_within k index found) (omega (arith, index_within k index found, length-set values j x)) (get_or-set_other values j index x x not_j)))

      pub slots_of-remove : (m : ℕ) → get_or numbers (length numbers - 1) 0 ≡ m → (left : List ℕ) (rest : List T) → IsUnplaced places left n m j → IsSwapRemoved values rest j → T → slots_of left rest ≡ set (slots_of places values) n None
      slots_of-remove m last left rest unplaced swapped x =
          let inside = place_within places n j place in
          let end = last_place places numbers paired n j m place last in
          let mine = index_within n j place in
          set_from_others (slots_of places values) _ n None None
          (length-map left _ ∙ unplaced.as_long ∙ sym (length-map places _))
          (omega (arith, length-map places (slot_of values)))
          (slot_at_none left rest n unplaced.gone)
          (λ k not_n. elim (cases_eq k m) [
            | inl same ↦
                let early : j + 1 < length values = omega (arith, before_last places numbers paired n j m place last (λ e. not_n (same ∙ e))) in
                let at_end : get_or places k 0 ≡ length values - 1 + 1 = omega (arith, ap (λ i. get_or places i 0) same) in
                slot_at_index left rest k j (unplaced.taken k not_n same)
                ∙ slice_get_same values rest (length values - 1) j x (omega arith) (omega (arith, swapped.shorter)) (swapped.moved x early)
                ∙ sym (slot_at_index places values k (length values - 1) at_end)
            | inr not_m ↦ slot_kept places left values rest k (unplaced.kept k not_n not_m) (λ index found.
                let apart = other_index places numbers paired n j m place last k index not_n not_m found in
                let early : index + 1 < length values = omega (arith, apart.1) in
                slice_get_same values rest index index x (omega arith) (omega (arith, swapped.shorter)) (swapped.others index x apart.0 early))
          ])
