-- How a `Numbered` lays out its values. No public clause cites this module.
use Rattle.std.specs.Prelude.{◌≡◌, ◌≢◌, ◌≤◌, ℕ, zero, suc, ◌+◌, ◌<◌, ◌^◌, List, map, length, Option, None, is_some, count_by, slice_get, slice_index}

-- a number's place and the number at an index lead to each other
pub record IsPaired (places numbers : List ℕ) : Type 0 where
  pub numbered : (number index : ℕ) → slice_index places number ≡ index + 1
      → (index < length numbers) × (slice_index numbers index ≡ number)
  pub placed : (number index : ℕ) → index < length numbers → slice_index numbers index ≡ number
      → slice_index places number ≡ index + 1

module _ {T : Type 0} where
  -- what a place stands for: 0 for no value, and any other for the value at the index before it
  abbrev pub slot_of : List T → ℕ → Option T
  slot_of values zero = None
  slot_of values (suc index) = slice_get values index

  -- what the places stand for
  abbrev pub slots_of : List ℕ → List T → List (Option T)
  slots_of places values = map (slot_of values) places

  -- each place that isn't 0 leads to a value, and a word can count the numbers
  pub record LeadToValues (places : List ℕ) (values : List T) : Type 0 where
    pub leads : (number : ℕ) → slice_index places number ≢ 0 → slice_index places number ≤ length values
    pub few : length places < 2 ^ 32

  -- each value has its number and each number with a value its place, and places fit their words
  pub record IsSound (places numbers : List ℕ) (values : List T) : Type 0 where
    pub paired : IsPaired places numbers
    pub as_many : length values ≡ length numbers
    pub counted : count_by is_some (slots_of places values) ≡ length values
    pub few : length places < 2 ^ 32
