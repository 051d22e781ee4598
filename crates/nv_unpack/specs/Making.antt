-- What steps make of a tree, one after the other, or which one is refused.
use Rattle.std.specs.Prelude.{◌≡◌, ◌≢◌, ◌⊎◌, ℕ, ◌<◌, List, [], ◌∷◌, ◌++◌, length, map}
use Rattle.nv_region.specs.Region.{size}
use Rattle.nv_region.specs.RegionState.{RegionState}
use Rattle.nv_super.specs.declared.superblock.Super.{Super}
use Rattle.nv_tree.specs.Tree.{Tree}
use Rattle.nv_tree.specs.declared.refusal.Refusal.{Refusal as CallRefusal}
use Rattle.nv_tree.specs.declared.refusal.Refusal.TheVariants as refusals
use Rattle.nv_calls.specs.Mount.{Mount}
use Rattle.nv_script.specs.Cleaning.{CanClean}
use Rattle.nv_history.specs.Making.{AreMade, ChainsGrow}
use Rattle.nv_history.specs.Halting.{HaltsAt}
use Rattle.nv_history.specs.declared.calls.Call.{Call}
use Rattle.nv_history.specs.declared.runs.Halted.{Halted}
use Rattle.nv_changes.specs.Calls.{IsThere}
use Rattle.nv_untar.specs.declared.item.Item.{Item}
use Rattle.nv_untar.specs.Items.{item_of}
use Rattle.nv_unpack.specs.declared.maker.Maker.{Maker}
use Rattle.nv_unpack.specs.declared.step.Step.{Step}
use Rattle.nv_unpack.specs.declared.step.Step.TheVariants.{Make, SetAttributes}
use Rattle.nv_unpack.specs.declared.halt.Halt.{Halt}
use Rattle.nv_unpack.specs.declared.halt.Halt.TheVariants as halts
use Rattle.nv_unpack.specs.Calls.{AreCallsAt}
use Rattle.nv_unpack.specs.Places.{place}
use Rattle.nv_history.specs.Said.{said}
use Rattle.nv_unpack.specs.Steps.{item_in}
use Rattle.nv_unpack.specs.Turns.{IsInodeMaker, IsMaker}
use Rattle.nv_unpack.specs.Ways.{IsDirectoryCall, IsWayCall, MakesWay}

-- The way to the place of a step is made, in front of it, where its item is.
abbrev pub MakesWayOf : Super → Maker → List ℕ → Step → Tree → Tree → Type 0
MakesWayOf s maker text (Make item) t u = MakesWay s maker item.time text (length text) t u
MakesWayOf s maker text (SetAttributes item) t u = t ≡ u

-- The calls of a step of its own, all in the name of one CPU: where nothing is at its place, of one that may make an inode.
pub record AreOwnCalls (s : Super) (maker : Maker) (text old : List ℕ) (step : Step) (t : Tree) (calls : List Call) : Type 0 where
  pub cpu : ℕ
  pub may : (IsThere t text × IsMaker maker s cpu) ⊎ IsInodeMaker maker s t cpu
  pub are : AreCallsAt t text old cpu step (map said calls)

-- A step whose item goes to this place makes the second tree of the first: the way to it, and then what its own calls make.
pub record IsStepAt (s : Super) (maker : Maker) (text old : List ℕ) (step : Step) (t u : Tree) : Type 0 where
  pub tree : Tree
  pub way : MakesWayOf s maker text step t tree
  pub calls : List Call
  pub are : AreOwnCalls s maker text old step tree calls
  pub made : AreMade s calls tree u

-- The same of a step below a base.
abbrev pub IsStep : Super → List ℕ → Maker → Step → Tree → Tree → Type 0
IsStep s base maker step t u = IsStepAt s maker (place base (item_of (item_in step)).path) (place base (item_of (item_in step)).link) step t u

-- The second tree is what steps make of the first, one after the other.
pub data AreSteps (s : Super) (base : List ℕ) (maker : Maker) : List Step → Tree → Tree → Type 0 where
  none : (t : Tree) → AreSteps s base maker [] t t
  more : (step : Step) (steps : List Step) (t v u : Tree) → IsStep s base maker step t v → AreSteps s base maker steps v u → AreSteps s base maker (step ∷ steps) t u

-- a call for a directory on the way to the place of a step, once those in front of it have made the second tree
abbrev pub IsOnWay : Super → Maker → List ℕ → Step → Tree → Tree → List Call → Type 0
IsOnWay s maker text (Make item) t v calls = (k : ℕ) × (k < length text) × MakesWay s maker item.time text k t v × IsWayCall s maker item.time text k v calls
IsOnWay s maker text (SetAttributes item) t v calls = ⊥

-- One of these calls is refused, of what is mounted then: by its first test that holds, or for want of memory.
pub record RefusesCalls (s : Super) (t : Tree) (calls : List Call) (left : Mount RegionState) (refusal : CallRefusal) : Type 0 where
  pub halted : Halted
  pub halts : HaltsAt s t calls halted left.memory.region left
  pub is : halted.refusal ≡ refusal
  pub no_stop : refusal ≢ refusals.Stopped

-- A call of a step is refused, for a directory on the way or one of its own, by what those in front of it have made of what is
-- mounted: by its first test that holds, since neither a stop nor want of memory comes.
pub record RefusesStepAt (s : Super) (maker : Maker) (text old : List ℕ) (step : Step) (t : Tree) (left : Mount RegionState) (refusal : CallRefusal) : Type 0 where
  pub tree : Tree
  pub calls : List Call
  pub next : IsOnWay s maker text step t tree calls ⊎ (MakesWayOf s maker text step t tree × AreOwnCalls s maker text old step tree calls)
  pub refuses : RefusesCalls s tree calls left refusal
  pub no_memory : refusal ≢ refusals.Memory

-- The same of a step below a base.
abbrev pub RefusesStep : Super → List ℕ → Maker → Step → Tree → Mount RegionState → CallRefusal → Type 0
RefusesStep s base maker step t left refusal = RefusesStepAt s maker (place base (item_of (item_in step)).path) (place base (item_of (item_in step)).link) step t left refusal

-- The steps in front of that of this item are made, and a call of it is refused.
pub record RefusesSteps (s : Super) (base : List ℕ) (maker : Maker) (steps : List Step) (t : Tree) (left : Mount RegionState) (item : Item) (refusal : CallRefusal) : Type 0 where
  pub before : List Step
  pub step : Step
  pub behind : List Step
  pub whole : steps ≡ before ++ step ∷ behind
  pub of : item_in step ≡ item
  pub tree : Tree
  pub made : AreSteps s base maker before t tree
  pub refuses : RefusesStep s base maker step tree left refusal

-- ---- within

-- What steps keep of what is mounted, whether they are made or not. Chains only grow, and none does in version 1.
pub record GoesOn (old new : Mount RegionState) : Type 0 where
  pub can : CanClean new
  pub sup : new.sup ≡ old.sup
  pub chains : ChainsGrow old.layout new.layout
  pub stays : old.sup.version ≡ 1 → new.layout.chains ≡ old.layout.chains
  pub faults : new.faults ≡ old.faults
  pub as_long : size new.memory.region ≡ size old.memory.region

-- the step is refused so, and the refusal is its item's, or memory is wanting
abbrev pub HaltsStep : Super → List ℕ → Maker → Step → Tree → Mount RegionState → Halt → Type 0
HaltsStep s base maker step t left halts.Memory = Unit {0}
HaltsStep s base maker step t left (halts.At item refusal) = (item_in step ≡ item) × RefusesStep s base maker step t left refusal

-- the same of several
abbrev pub HaltsSteps : Super → List ℕ → Maker → List Step → Tree → Mount RegionState → Halt → Type 0
HaltsSteps s base maker steps t left halts.Memory = Unit {0}
HaltsSteps s base maker steps t left (halts.At item refusal) = RefusesSteps s base maker steps t left item refusal

-- a call for a directory at a path is refused
abbrev pub RefusesDirectory : Super → Maker → List ℕ → ℕ → Tree → Mount RegionState → CallRefusal → Type 0
RefusesDirectory s maker path time t left refusal = (calls : List Call) × IsDirectoryCall s maker path time t calls × RefusesCalls s t calls left refusal

-- one for the directory above a place that ends there
abbrev pub RefusesAbove : Super → Maker → ℕ → List ℕ → ℕ → Tree → Mount RegionState → CallRefusal → Type 0
RefusesAbove s maker time text k t left refusal = (calls : List Call) × IsWayCall s maker time text k t calls × RefusesCalls s t calls left refusal

-- one for a directory on the way, once those in front of it are made
abbrev pub RefusesWay : Super → Maker → ℕ → List ℕ → Tree → Mount RegionState → CallRefusal → Type 0
RefusesWay s maker time text t left refusal = (k : ℕ) × (k < length text) × (v : Tree) × MakesWay s maker time text k t v × RefusesAbove s maker time text k v left refusal

-- the same of a step
abbrev pub RefusesWayOf : Super → Maker → List ℕ → Step → Tree → Mount RegionState → CallRefusal → Type 0
RefusesWayOf s maker text (Make item) t left refusal = RefusesWay s maker item.time text t left refusal
RefusesWayOf s maker text (SetAttributes item) t left refusal = ⊥

-- the calls of a step of its own make the second tree of the first
abbrev pub MakesOwn : Super → Maker → List ℕ → List ℕ → Step → Tree → Tree → Type 0
MakesOwn s maker text old step t u = (calls : List Call) × AreOwnCalls s maker text old step t calls × AreMade s calls t u

-- one of them is refused
abbrev pub RefusesOwn : Super → Maker → List ℕ → List ℕ → Step → Tree → Mount RegionState → CallRefusal → Type 0
RefusesOwn s maker text old step t left refusal = (calls : List Call) × AreOwnCalls s maker text old step t calls × RefusesCalls s t calls left refusal

-- the same, or memory is wanting
abbrev pub HaltsOwn : Super → Maker → List ℕ → List ℕ → Step → Tree → Mount RegionState → Halt → Type 0
HaltsOwn s maker text old step t left halts.Memory = Unit {0}
HaltsOwn s maker text old step t left (halts.At item refusal) = (item_in step ≡ item) × RefusesOwn s maker text old step t left refusal × (refusal ≢ refusals.Memory)

-- an item's step is halted for this refusal
abbrev pub IsHaltOf : Item → CallRefusal → Halt → Type 0
IsHaltOf item refusal halts.Memory = refusal ≡ refusals.Memory
IsHaltOf item refusal (halts.At of told) = (of ≡ item) × (told ≡ refusal) × (refusal ≢ refusals.Memory)
