-- What every call that writes keeps of a mounted file system, whatever comes of it.
use Rattle.std.specs.Prelude.{◌≡◌, ℕ, ◌≤◌, false, List, Result, Err, IsTrue, IfErr, OnOk}
use Rattle.nv_region.specs.Region.{Region, size}
use Rattle.nv_region.specs.Stops.{Choices, NothingPending}
use Rattle.nv_region.specs.Fuses.{FuseState, KeepsFuse}
use Rattle.nv_tree.specs.Path.{IsPath}
use Rattle.nv_tree.specs.declared.refusal.Refusal.{Refusal}
use Rattle.nv_tree.specs.declared.refusal.Refusal.TheVariants.{Stopped}
use Rattle.nv_calls.specs.Mount.{Mount}
use Rattle.nv_calls.specs.Same.{KeepsMount, SameMount}

-- A mount that was stopped before answers so and stays as it was, as does what was mounted with faults. Each refusal but a stop leaves
-- all as it was. The mount is stopped just where the call answers so, and the fuse has burnt then. What the call keeps of a mount it
-- has kept, and how long the region is. A fuse that has burnt stays so, as does a memory that is open up to the region's end.
pub record KeepsCallBy {P T : Type 0} (Kept : Mount P → Mount P → Type 0) (region : P → Region) (fuse : P → FuseState) (old new : Mount P) (result : Result T Refusal) : Type 0 where
  pub stopped_before : IsTrue old.stopped → (result ≡ Err Stopped) × (new ≡ old)
  pub unchanged : IfErr result (λ e. (e ≡ Stopped → ⊥) → SameMount old new)
  pub stopped : old.stopped ≡ false → (IsTrue new.stopped → (result ≡ Err Stopped) × IsTrue (fuse new.memory).has_burnt) × (result ≡ Err Stopped → IsTrue new.stopped)
  pub keeps : Kept old new
  pub length : size (region new.memory) ≡ size (region old.memory)
  pub keeps_fuse : KeepsFuse (λ limit. size (region old.memory) ≤ limit) (fuse old.memory) (fuse new.memory)
  pub read_only : IsTrue old.read_only → SameMount old new

-- The same of a call that changes neither the superblock and the tables, nor the faults, nor whether the mount is read-only.
abbrev pub KeepsCall : {P T : Type 0} → (P → Region) → (P → FuseState) → Mount P → Mount P → Result T Refusal → Type 0
KeepsCall region fuse old new result = KeepsCallBy KeepsMount region fuse old new result

-- the text is no path
abbrev pub IsNoPath : List ℕ → Type 0
IsNoPath text = (names : List (List ℕ)) → IsPath text names → ⊥

-- one of the two texts is no path
abbrev pub AreNoPaths : List ℕ → List ℕ → Type 0
AreNoPaths old new = (names others : List (List ℕ)) → IsPath old names → IsPath new others → ⊥

-- The same, and where a text is no path, all stays as it was.
pub record KeepsPathCallBy {P T : Type 0} (Kept : Mount P → Mount P → Type 0) (region : P → Region) (fuse : P → FuseState) (no_path : Type 0) (old new : Mount P)
    (result : Result T Refusal) : Type 0 where
  pub call : KeepsCallBy Kept region fuse old new result
  pub open call use *
  pub bad_text : no_path → SameMount old new

-- The same, and where the call is done, nothing is pending.
pub record SettlesCallBy {P T : Type 0} (Kept : Mount P → Mount P → Type 0) (region : P → Region) (may_hold : P → Choices) (fuse : P → FuseState) (no_path : Type 0)
    (old new : Mount P) (result : Result T Refusal) : Type 0 where
  pub of_path : KeepsPathCallBy Kept region fuse no_path old new result
  pub open of_path use *
  pub settled : OnOk result (NothingPending (region new.memory) (may_hold new.memory))

-- What a call by the number of an inode keeps, and where it is done, nothing is pending.
pub record SettlesInodeCallBy {P T : Type 0} (Kept : Mount P → Mount P → Type 0) (region : P → Region) (may_hold : P → Choices) (fuse : P → FuseState) (old new : Mount P)
    (result : Result T Refusal) : Type 0 where
  pub call : KeepsCallBy Kept region fuse old new result
  pub open call use *
  pub settled : OnOk result (NothingPending (region new.memory) (may_hold new.memory))

-- The same of a call by paths that keeps the tables.
abbrev pub KeepsPathCall : {P T : Type 0} → (P → Region) → (P → FuseState) → Type 0 → Mount P → Mount P → Result T Refusal → Type 0
KeepsPathCall region fuse no_path old new result = KeepsPathCallBy KeepsMount region fuse no_path old new result

-- The same, and where the call is done, nothing is pending.
abbrev pub SettlesCall : {P T : Type 0} → (P → Region) → (P → Choices) → (P → FuseState) → Type 0 → Mount P → Mount P → Result T Refusal → Type 0
SettlesCall region may_hold fuse no_path old new result = SettlesCallBy KeepsMount region may_hold fuse no_path old new result
