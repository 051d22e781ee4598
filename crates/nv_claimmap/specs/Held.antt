-- What a claim map and a seat of it show.
use Rattle.std.specs.Prelude.{◌≡◌, ◌<◌, ◌≤◌, ℕ, zero, suc, List, [], ◌∷◌, ◌++◌}
use Rattle.atomic_table.specs.Seated.{TableId}
use Rattle.nv_claimcore.specs.Claims.{above, nothing, times}
use Rattle.nv_claimcore.specs.declared.view.Sizes.{Sizes}
use Rattle.nv_claimcore.specs.declared.view.View.{View}

-- Which map it is, and how many blocks, tickets and workers it has. Two maps differ in their tables.
pub record MapId : Type 0 where
  pub table : TableId
  pub sizes : Sizes

-- A seat: the map that it is of, its number, and what it has drawn and claimed.
pub record Held : Type 0 where
  pub map : MapId
  pub number : ℕ
  pub view : View

-- A ticket that a seat can still be given: it is none of the seat's numbers, which are all below it.
pub record IsNewTicket (tickets : ℕ) (v : View) (t : ℕ) : Type 0 where
  pub below : t < tickets
  pub unseen : times t v.numbers ≡ 0
  pub rises : above v.numbers ≤ t

-- the map of this table, with these sizes
abbrev pub map_id : TableId → Sizes → MapId
map_id t z = record { table = t; sizes = z }

-- the seat of this map with this number and view
abbrev pub held : MapId → ℕ → View → Held
held m k v = record { map = m; number = k; view = v }

-- n seats of the map, numbered from 0, that have drawn and claimed nothing
abbrev pub fresh : MapId → ℕ → List Held
fresh m zero = []
fresh m (suc k) = fresh m k ++ held m k (nothing 1) ∷ []
