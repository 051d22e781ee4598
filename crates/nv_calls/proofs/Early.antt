-- What an early reply owes, and a good one.
use Rattle.std.proofs.Common.{◌≡◌, ℕ, Bool, true, false, IsTrue, sym, ◌∙◌, Result, Ok, Err}
use Rattle.nv_region.specs.Fuses.{FuseState, KeepsFuse}
use Rattle.nv_tree.specs.declared.refusal.Refusal.{Refusal}
use Rattle.nv_tree.specs.declared.refusal.Refusal.TheVariants.{Stopped}

-- an early one has done nothing to the fuse
pub same_fuse : (behind : ℕ → Type 0) (fuse : FuseState) → KeepsFuse behind fuse fuse
same_fuse behind fuse = record { burnt = λ on. on; steady = λ on. on; stays_open = λ limit past on. on }

-- what was done was not stopped
pub good_reply : {A : Type 0} {C : Type 0} (stops : Bool) (a : A) → stops ≡ false → (IsTrue stops → (◌≡◌ {A = Result A Refusal} (Ok a) (Err Stopped)) × C) × (◌≡◌ {A = Result A Refusal} (Ok a) (Err Stopped) → IsTrue stops)
good_reply stops a runs = ((λ on. absurd (let clash : true ≡ false = sym on ∙ runs in cc)), (λ is. absurd (cc)))
