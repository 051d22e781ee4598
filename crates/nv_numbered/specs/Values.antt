-- What a contract sees of a `Numbered`.
use Rattle.std.specs.Prelude.{◌≢◌, ℕ, ◌+◌, ◌<◌, List, [], ◌∷◌, length, Option, Some, None, slice_index, slice_index_or, slice_set, refl}
use Rattle.std.specs.Coded.{Coded, code_by, coded×, coded_ℕ, coded_list, coded_option}

-- the value or nothing of each number, from 0 on, and how many more values take no memory
pub record Values (T : Type 0) : Type 0 where
  pub slots : List (Option T)
  pub room : ℕ

-- values are stored as the pair of their slots and the room
abbrev pub values_code : {T : Type 0} → Coded T → Coded (Values T)
values_code {T} code =
    code_by
    (List (Option T) × ℕ)
    (coded× (coded_list (coded_option code)) coded_ℕ)
    (λ v. (v.slots, v.room))
    (λ p. record { slots = p.0; room = p.1 })
    (λ _. refl)

-- numbers below a limit, none of which stands twice
pub record AreNumbersBelow (limit : ℕ) (numbers : List ℕ) : Type 0 where
  pub below : (k : ℕ) → k < length numbers → slice_index numbers k < limit
  pub once : (j k : ℕ) → j < k → k < length numbers → slice_index numbers j ≢ slice_index numbers k

module _ {T : Type 0} where
  -- the numbers below it may have a value
  abbrev pub limit_of : Values T → ℕ
  limit_of v = length v.slots

  -- the value of a number, if it has one
  abbrev pub value_at : Values T → ℕ → Option T
  value_at v number = slice_index_or v.slots number None

  -- the values after a write through `get_mut`: the number has the written one, and each other keeps its own
  abbrev pub with_value : Values T → ℕ → T → Values T
  with_value v number value = record v { slots = slice_set v.slots number (Some value) }

  -- the values in these slots, each with its number, where the first slot is that of `first`
  abbrev pub entries_from : ℕ → List (Option T) → List (ℕ × T)
  entries_from first [] = []
  entries_from first (None ∷ rest) = entries_from (first + 1) rest
  entries_from first (Some value ∷ rest) = (first, value) ∷ entries_from (first + 1) rest

  -- the values with their numbers, rising by number
  abbrev pub entries : Values T → List (ℕ × T)
  entries v = entries_from 0 v.slots
