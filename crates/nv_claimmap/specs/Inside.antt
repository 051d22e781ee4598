-- What the fields of a claim map and of a seat keep.
use Rattle.std.specs.Prelude.{◌≡◌, ℕ, ◌+◌, ◌*◌, ◌%◌, ◌^◌, ◌<◌, ◌≤◌, [], true, false, map}
use Rattle.std.specs.List.{All}
use Rattle.std.specs.Vec.{vec_capacity}
use Rattle.atomic_table.specs.Seated.{TableId}
use Rattle.nv_blockset.specs.BlockSet.{words_for}
use Rattle.nv_claimcore.specs.declared.view.Sizes.{Sizes}
use Rattle.nv_claimcore.specs.Claims.{past, Settled}
use Rattle.nv_claimcore.specs.Finished.{pair_of}
use Rattle.nv_claimmap.specs.declared.map.ClaimMap.TheInside as Map
use Rattle.nv_claimmap.specs.declared.seat.ClaimSeat.TheInside as Seat

-- The table has the cursor, the two sets and the idle words, and no slot. All numbers that can be drawn fit a word, and
-- there is room for both sets.
pub record IsMap (m : Map.Inside) : Type 0 where
  pub key : m.table.shared.key ≡ m.sizes
  pub table_words : m.table.shared.table_id.words ≡ 2 * m.words + 31
  pub slots : m.table.shared.table_id.slots ≡ 0
  pub words : m.words ≡ words_for m.sizes.blocks
  pub numbers : m.sizes.tickets + m.sizes.workers < 2 ^ 64
  pub first_empty : m.first.items ≡ []
  pub first_room : m.words ≤ vec_capacity m.first
  pub second_empty : m.second.items ≡ []
  pub second_room : m.words ≤ vec_capacity m.second

-- The seat has ended just where it holds a number past the end of the tickets. All its claims are settled, and the list
-- of claims is that of its records.
pub record IsSeat (s : Seat.Inside) : Type 0 where
  pub slots : s.seat.me.1 ≡ []
  pub seats : 0 < s.seat.me.0.seats
  pub going : s.ended ≡ false → past s.sizes.tickets s.seat.me.0.numbers ≡ 0
  pub ended : s.ended ≡ true → 0 < past s.sizes.tickets s.seat.me.0.numbers
  pub settled : All Settled s.seat.me.0.records
  pub claims : s.claims.items ≡ map pair_of s.seat.me.0.records

-- the table of a map whose sets have so many words
abbrev pub HasSets : TableId → Sizes → ℕ → Type 0
HasSets t z words = (t.words ≡ 2 * words + 31) × (words ≡ words_for z.blocks) × (words < 2 ^ 60)

-- a run of blocks of the map that lies within one word
abbrev pub InWord : ℕ → ℕ → ℕ → Type 0
InWord start count blocks = (start % 64 + count ≤ 64) × (start + count ≤ blocks)
