-- What a contract sees of `Chunks`.
use Rattle.std.specs.Prelude.{◌≡◌, ◌≢◌, ℕ, ◌+◌, ◌-◌, ◌*◌, ◌/◌, ◌<◌, List, ◌++◌, length, take, drop, slice_index_or, slice_set, refl}
use Rattle.std.specs.Coded.{Coded, code_by, coded×, coded_ℕ, coded_list}

-- the values in order, and how many more take no memory
pub record Chunked (T : Type 0) : Type 0 where
  pub items : List T
  pub room : ℕ

-- they are stored as the pair of both
abbrev pub chunked_code : {T : Type 0} → Coded T → Coded (Chunked T)
chunked_code {T} code =
    code_by (List T × ℕ) (coded× (coded_list code) coded_ℕ) (λ v. (v.items, v.room)) (λ p. record { items = p.0; room = p.1 }) (λ _. refl)

-- the values after a write through `at_mut`
abbrev pub with_value_at : {T : Type 0} → Chunked T → ℕ → T → Chunked T
with_value_at v place value = record v { items = slice_set v.items place value }

-- the other list's full chunks of 256 values, then these values, then the rest of the other list
abbrev pub by_chunks : {T : Type 0} → List T → List T → List T
by_chunks mine other = take (256 * (length other / 256)) other ++ (mine ++ drop (256 * (length other / 256)) other)

-- what `swap_remove` of the element at j leaves: the last one comes there
pub record IsSwapRemoved {X : Type 0} (old new : List X) (j : ℕ) : Type 0 where
  pub shorter : length new + 1 ≡ length old
  pub moved : (d : X) → j + 1 < length old → slice_index_or new j d ≡ slice_index_or old (length old - 1) d
  pub others : (k : ℕ) (d : X) → k ≢ j → k + 1 < length old → slice_index_or new k d ≡ slice_index_or old k d
