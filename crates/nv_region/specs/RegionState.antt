-- A region in memory, as its contracts see it.
use Rattle.std.specs.Prelude.{◌≡◌, ◌⊎◌, ℕ, zero, suc, Bool, true, false, ◌&&◌, ◌||◌, not, if◌then◌else◌, ◌+◌, ◌*◌, ◌-◌, ◌==◌, List, get_or}
use Rattle.nv_region.specs.Region.{Region, put}
use Rattle.nv_region.specs.Fuses.{FuseState, not_burnt}
use Rattle.nv_region.specs.declared.memory.Fuse.{Fuse}
use Rattle.nv_region.specs.declared.memory.Fuse.TheVariants.{Off, After, At}

-- the region as it reads, its words at the last fence, and when it stops
pub record RegionState : Type 0 where
  pub region : Region
  -- the words at the last fence
  pub fenced : List ℕ
  pub fuse : Fuse
  pub burnt : Bool

-- each word is left as at the last fence or as last stored
abbrev pub fenced_or_last : RegionState → ℕ → ℕ → Type 0
fenced_or_last m i x = (x ≡ get_or m.region.words i 0) ⊎ (x ≡ get_or m.fenced i 0)

-- the fuse burns at a store to this address
abbrev pub burns_at_store : Fuse → ℕ → Bool
burns_at_store Off at = false
burns_at_store (After n) at = n == 0
burns_at_store (At a) at = a == at

-- the fuse burns at a fence
abbrev pub burns_at_fence : Fuse → Bool
burns_at_fence (After n) = n == 0
burns_at_fence Off = false
burns_at_fence (At a) = false

-- the fuse after a store or a fence that passed
abbrev pub one_passed : Fuse → Fuse
one_passed (After n) = After (n - 1)
one_passed Off = Off
one_passed (At a) = At a

-- the state after a store: a fuse that has burnt, or burns at it, refuses it
abbrev pub after_store : RegionState → ℕ → ℕ → RegionState
after_store m at value = if m.burnt || burns_at_store m.fuse at then record m { burnt = true } else record m { region = put m.region at value; fuse = one_passed m.fuse }

-- the state after the first so many of the words were stored in turn from this address on
abbrev pub after_stores : RegionState → ℕ → List ℕ → ℕ → RegionState
after_stores m at words zero = m
after_stores m at words (suc n) = after_store (after_stores m at words n) (at + 8 * n) (get_or words n 0)

-- no fuse is set
abbrev pub is_off : Fuse → Bool
is_off Off = true
is_off (After n) = false
is_off (At a) = false

-- no store and no fence burns it
abbrev pub is_steady : RegionState → Bool
is_steady m = is_off m.fuse && not m.burnt

-- what became of its fuse: it is open either everywhere or nowhere
abbrev pub fuse_state : RegionState → FuseState
fuse_state m = record { has_burnt = m.burnt; is_steady = is_steady m; is_open = λ limit. is_steady m }

-- a memory without a fuse hasn't burnt
pub steady_unburnt : (m : RegionState) → is_steady m ≡ true → m.burnt ≡ false
steady_unburnt m = not_burnt (is_off m.fuse) m.burnt
