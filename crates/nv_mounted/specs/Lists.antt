-- Free lists from which blocks were taken several times.
use Rattle.std.specs.Prelude.{◌≡◌, ◌⊎◌, ℕ, List, [], ◌∷◌}
use Rattle.nv_super.specs.declared.owners.Run.{Run}
use Rattle.nv_alloc.specs.FreeValue.{FreeLists}
use Rattle.nv_alloc.specs.FreeLists.{IsSound, Leave}
use Rattle.nv_alloc.specs.Taking.{HasBlock}

-- what one call of `take` leaves
pub record IsTake (old : FreeLists) (runs : List Run) (new : FreeLists) : Type 0 where
  pub sound : IsSound new
  pub sup : new.sup ≡ old.sup
  pub blocks : ℕ
  pub leave : Leave old blocks runs new

-- what several calls leave that gave these runs, one after another
abbrev pub TakeAll : FreeLists → List (List Run) → FreeLists → Type 0
TakeAll old [] new = old ≡ new
TakeAll old (runs ∷ takes) new = (next : FreeLists) × IsTake old runs next × TakeAll next takes new

-- one of them gave the block
abbrev pub WasTaken : List (List Run) → ℕ → Type 0
WasTaken [] b = ⊥
WasTaken (runs ∷ takes) b = HasBlock runs b ⊎ WasTaken takes b
