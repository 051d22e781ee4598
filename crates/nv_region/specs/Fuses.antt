-- What becomes of a memory's fuse: once it has burnt, nothing is stored any more.
use Rattle.std.specs.Prelude.{◌≡◌, Bool, true, false, ◌&&◌, not, refl, IsTrue, ℕ}
use Rattle.std.proofs.Common.{sym}

-- whether it has burnt, and whether it still can
pub record FuseState : Type 0 where
  pub has_burnt : Bool
  -- no store and no fence burns it
  pub is_steady : Bool
  -- no store that ends at or before this byte address burns it, and no fence does
  pub is_open : ℕ → Bool

-- a fuse that has burnt stays burnt
abbrev pub StaysBurnt : Bool → Bool → Type 0
StaysBurnt old new = IsTrue old → IsTrue new

-- a memory on which no fuse is set stays so
abbrev pub StaysSteady : Bool → Bool → Type 0
StaysSteady old new = IsTrue old → IsTrue new

-- a memory that is open up to an address stays so
abbrev pub StaysOpen : ℕ → (ℕ → Bool) → (ℕ → Bool) → Type 0
StaysOpen limit old new = IsTrue (old limit) → IsTrue (new limit)

-- What has burnt stays burnt, and a memory without a fuse stays so. A memory that is open up to an address behind
-- all that is stored stays open up to it; behind says which addresses these are.
pub record KeepsFuse (behind : ℕ → Type 0) (old new : FuseState) : Type 0 where
  pub burnt : StaysBurnt old.has_burnt new.has_burnt
  pub steady : StaysSteady old.is_steady new.is_steady
  pub stays_open : (limit : ℕ) → behind limit → StaysOpen limit old.is_open new.is_open

-- a memory that takes stores, by a test of its own and because it hasn't burnt, hasn't burnt
pub not_burnt : (takes burnt : Bool) → (takes && not burnt) ≡ true → burnt ≡ false
not_burnt true true h = sym h
not_burnt false true h = sym h
not_burnt true false h = refl
not_burnt false false h = refl
