-- A region over plain words, as its contracts see it.
use Rattle.std.specs.Prelude.{◌≡◌, ℕ, ◌≤◌, ◌<◌, ◌^◌, Bool, List, [], true, false, length, get_or}
use Rattle.nv_region.specs.Region.{Region}
use Rattle.nv_region.specs.Fuses.{FuseState}

-- a word may be left only as it reads: a store is there at once
abbrev pub as_it_reads : Region → ℕ → ℕ → Type 0
as_it_reads R i x = x ≡ get_or R.words i 0

-- it has no fuse
abbrev pub never_burns : FuseState
never_burns = record { has_burnt = false; is_steady = true; is_open = λ limit. true }

-- the region that has these words, and no byte behind them
abbrev pub region_over : List ℕ → Region
region_over words = record { words = words; rest = [] }

-- the region of lent words, or of its own
abbrev pub words_in : Bool → List ℕ → List ℕ → List ℕ
words_in true lent own = lent
words_in false lent own = own

-- the region that is kept so, with the bytes behind the last word
abbrev pub region_in : Bool → List ℕ → List ℕ → List ℕ → Region
region_in is_lent lent own rest = record { words = words_in is_lent lent own; rest = rest }

-- it can be as long as a region can be at all
pub record IsShort (R : Region) : Type 0 where
  pub words : length R.words ≤ 2 ^ 27
  pub rest : length R.rest < 8
