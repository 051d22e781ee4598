-- What the file calls that write ask of a mounted region, and what they leave of it: the tree that the call makes, and nothing wrong.
use Rattle.std.specs.Prelude.{◌≡◌, ℕ, Bool, false, ⊤, List, [], Option, Some, None}
use Rattle.nv_region.specs.Region.{Region, size}
use Rattle.nv_journal.specs.Undo.{undone}
use Rattle.nv_super.specs.Layout.{Layout}
use Rattle.nv_mounted.specs.Mounted.{outcome_layout}
use Rattle.nv_outcome.specs.Outcome.{Outcome, IsOutcome}
use Rattle.nv_tree.specs.Path.{Says}
use Rattle.nv_tree.specs.Tree.{Tree, SameTree}
use Rattle.nv_tree.specs.Refusals.{Path, Tests}
use Rattle.nv_calls.specs.Effects.{Logs, Makes}
use Rattle.nv_calls.specs.Mount.{Mount, has_faults}
use Rattle.nv_paths.specs.Seen.{tree_of}
use Rattle.nv_paths.specs.Spots.{new_number}
use Rattle.nv_calls.specs.Same.{GrowsWhereFull, IsLaidFor}
use Rattle.nv_calls.specs.Stopped.{LeavesCall, LeavesGrowing}
use Rattle.nv_history.specs.Asking.{WriteAsked, attributes_asked, clean_asked, create_asked, link_asked, removal_asked, rename_asked, size_asked, unlink_asked}

-- A call by its tests: those of a path, where this region is mounted so.
abbrev pub Asks : Type 1
Asks = Region → Mount ⊤ → Path → Tests → Type 0

-- ---- what is asked

-- An outcome as what contracts see of a mounted file system, without its memory: read-only or not, not stopped, and
-- with no room to give blocks back.
abbrev pub mounted_as : Outcome → Bool → Mount ⊤
mounted_as o read_only = record {
  memory = tt;
  sup = o.sup;
  layout = outcome_layout o;
  rows = o.rows;
  free = record { sup = o.sup; pools = o.free; room = 0 };
  faults = o.faults;
  read_only = read_only;
  stopped = false;
}

-- What a call is asked by a path: the outcomes of the mounted region, which the mount shows, and of the one that there is,
-- what the path says, and the call's tests. The mounted region is the one that came to the last recovery, or, once a call
-- that writes was done, the one that this call left. Where it has faults, what is mounted is read-only.
pub record Asked (asks : Asks) (R S : Region) (path : List ℕ) : Type 0 where
  pub shown : Outcome
  pub of_shown : IsOutcome R shown
  pub here : Outcome
  pub of_here : IsOutcome S here
  pub path_is : Path
  pub says : Says path path_is
  pub tests : Tests
  pub are : asks S (mounted_as here (has_faults shown.faults)) path_is tests

-- the mounted file system that it is asked of
abbrev pub seen_in : {asks : Asks} {R S : Region} {path : List ℕ} → Asked asks R S path → Mount ⊤
seen_in a = mounted_as a.here (has_faults a.shown.faults)

-- `create` and `mkdir`
abbrev pub asks_create : ℕ → Asks
asks_create cpu S m p tests = tests ≡ create_asked S m cpu p

-- `write`
abbrev pub asks_write : ℕ → ℕ → ℕ → ℕ → Asks
asks_write cpu offset bytes time S m p tests = WriteAsked S m cpu offset bytes time p tests

-- `size`
abbrev pub asks_size : ℕ → ℕ → Asks
asks_size cpu bytes S m p tests = tests ≡ size_asked S m cpu bytes p

-- `attr`
abbrev pub asks_attributes : ℕ → Asks
asks_attributes cpu S m p tests = tests ≡ attributes_asked S m cpu p

-- `link`, by what the new path says too
abbrev pub asks_link : ℕ → Path → Asks
asks_link cpu q S m p tests = tests ≡ link_asked S m cpu p q

-- `unlink`
abbrev pub asks_unlink : ℕ → Asks
asks_unlink cpu S m p tests = tests ≡ unlink_asked S m cpu p

-- `rmdir`
abbrev pub asks_remove : ℕ → Asks
asks_remove cpu S m p tests = tests ≡ removal_asked S m cpu p

-- `rename`, by what the new path says too
abbrev pub asks_rename : ℕ → Path → Asks
asks_rename cpu q S m p tests = tests ≡ rename_asked S m cpu p q

-- `clean`
abbrev pub asks_clean : Asks
asks_clean S m p tests = tests ≡ clean_asked S m p

-- ---- what is made

-- The tables that a call leaves, by the CPU whose table may grow, if it lets one grow: else they are as before. It grows just where the
-- number of the new inode had no slot.
abbrev pub LeavesTables : Option ℕ → Mount ⊤ → Layout → Type 0
LeavesTables None m l = l ≡ m.layout
LeavesTables (Some cpu) m l = GrowsWhereFull m cpu l × IsLaidFor m.layout cpu (new_number m.layout m.rows cpu) l

-- A region that is as long and its own undone region, whose outcome has the same superblock, such tables and no fault, and shows this tree.
pub record LeavesTreeBy (Laid : Layout → Type 0) (S T : Region) (m : Mount ⊤) (t : Tree) : Type 0 where
  pub as_long : size T ≡ size S
  pub after : Outcome
  pub shown : IsOutcome T after
  pub own : undone after.sup T ≡ T
  pub sup : after.sup ≡ m.sup
  pub layout : Laid (outcome_layout after)
  pub faultless : after.faults ≡ []
  pub tree : SameTree (tree_of T after.rows) t

-- the same with the tables of before
abbrev pub LeavesTree : Region → Region → Mount ⊤ → Tree → Type 0
LeavesTree S T m t = LeavesTreeBy (λ l. l ≡ m.layout) S T m t

-- What recovery finds in a region that a stop within a call has left, by the CPU whose table may grow, if it lets one grow.
abbrev pub LeavesStopped : Option ℕ → Makes ⊤ → Logs ⊤ → Region → Mount ⊤ → List (List ℕ) → Region → Type 0
LeavesStopped None makes logs R m names left = LeavesCall makes logs R m names left
LeavesStopped (Some cpu) makes logs R m names left = LeavesGrowing cpu makes logs R m names left
