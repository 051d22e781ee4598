-- For callers: what a run of calls leaves, none of which is `upgrade`.
use Rattle.std.proofs.Common.{◌≡◌, ◌∙◌, ◌+◌, inl, inr, false, List, Result, Ok, Err, ap}
use Rattle.nv_region.specs.Region.{Region}
use Rattle.nv_region.specs.Fuses.{FuseState}
use Rattle.nv_calls.specs.Mount.{Mount}
use Rattle.nv_history.specs.declared.calls.Call.{Call}
use Rattle.nv_history.specs.declared.runs.Halted.{Halted}
use Rattle.nv_history.specs.Keeping.{AreBegun, KeepsRun}
use Rattle.nv_history.specs.Making.{ChainsGrow, grow_tables, has_upgrade}
use Rattle.nv_history.proofs.MadeTrees.{front_fixed, front_stays, super_stays}

-- The superblock stays. Chains only grow, and none does where none of these calls lets a table grow.
pub record LeavesTables {P : Type 0} (old new : Mount P) (calls : List Call) : Type 0 where
  pub sup : new.sup ≡ old.sup
  pub chains : ChainsGrow old.layout new.layout
  pub stays : grow_tables old.sup calls ≡ false → new.layout.chains ≡ old.layout.chains

module _ {P T : Type 0} (region : P → Region) (fuse : P → FuseState) (calls : List Call) (old new : Mount P) where
  -- By the calls that were begun.
  pub leaves_begun : (result : Result T Halted) (begun : List Call) → AreBegun calls result begun → has_upgrade calls ≡ false → KeepsRun region fuse calls old new result → LeavesTables old new begun
  leaves_begun (Ok done) begun are none kept = record { sup = kept.sup ∙ super_stays old.sup calls none; chains = kept.chains; stays = kept.stays begun are }
  leaves_begun (Err halted) begun are none kept = record { sup = kept.sup ∙ front_stays old.sup calls halted.made none; chains = kept.chains; stays = kept.stays begun are }

  -- By all: where none lets a table grow, none that was begun does.
  all_fixed : (result : Result T Halted) (begun : List Call) → AreBegun calls result begun → grow_tables old.sup calls ≡ false → grow_tables old.sup begun ≡ false
  all_fixed (Ok done) begun are fixed = ap (grow_tables old.sup) are ∙ fixed
  all_fixed (Err halted) begun (inl (stop, are)) fixed = ap (grow_tables old.sup) are ∙ front_fixed old.sup calls (halted.made + 1) fixed
  all_fixed (Err halted) begun (inr (runs, are)) fixed = ap (grow_tables old.sup) are ∙ front_fixed old.sup calls halted.made fixed

  pub leaves_tables : (result : Result T Halted) (begun : List Call) → AreBegun calls result begun → has_upgrade calls ≡ false → KeepsRun region fuse calls old new result → LeavesTables old new calls
  leaves_tables result begun are none kept =
      let left = leaves_begun result begun are none kept in
      record { sup = left.sup; chains = left.chains; stays = λ fixed. left.stays (all_fixed result begun are fixed) }
