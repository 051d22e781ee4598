-- What a call makes of a mounted file system and leaves of its logs, by the names of its paths: a row for each call.
use Rattle.std.specs.Prelude.{◌≡◌, ℕ, false, length, List, [], Option, Some, None, Result, Ok, Err, IfErr, IfOk, OnOk}
use Rattle.nv_region.specs.Region.{Region}
use Rattle.nv_region.specs.Fuses.{FuseState}
use Rattle.nv_region.specs.Stops.{Choices, LeavesOnly}
use Rattle.nv_super.specs.declared.kind.Kind.TheVariants.{File, Directory}
use Rattle.nv_inode.specs.Upgraded.{IsUpgraded}
use Rattle.nv_mounted.specs.Held.{Held, Store}
use Rattle.nv_mounted.specs.Mounted.{ShowsSound}
use Rattle.nv_tree.specs.Path.{IsPath}
use Rattle.nv_tree.specs.Tree.{Node, SameTree}
use Rattle.nv_tree.specs.Refusals.{Tests, first_refusal, IsRefusedBy}
use Rattle.nv_tree.specs.declared.refusal.Refusal.{Refusal}
use Rattle.nv_paths.specs.Seen.{LeadsTo, tree_of}
use Rattle.nv_calls.specs.CleanCall.{ShowsCleaned}
use Rattle.nv_calls.specs.Effects.{Logs, LogsBytes, LogsUnlink, Makes, logs_attributes, logs_inode, logs_link, logs_page_less, logs_removal, logs_rename, logs_size}
use Rattle.nv_calls.specs.Effects.{makes_attributes, makes_bytes, makes_inode, makes_link, makes_no_change, makes_removal, makes_rename, makes_size, makes_unlink}
use Rattle.nv_calls.specs.Mount.{Mount, shown}
use Rattle.nv_calls.specs.Same.{SameMount}
use Rattle.nv_calls.specs.Stopped.{LeavesCall, LeavesGrowing}
use Rattle.nv_calls.specs.Upgrading.{LeavesUpgrade}
use Rattle.nv_history.specs.declared.calls.Answer.{Answer}
use Rattle.nv_history.specs.declared.calls.Answer.TheVariants.{Done, Cleaned}
use Rattle.nv_history.specs.Asking.{AreTestsOf}
use Rattle.nv_history.specs.Keeping.{KeepsCalled}
use Rattle.nv_history.specs.Said.{Said, Create, MakeDirectory, Write, SetSize, SetAttributes, Link, Unlink, RemoveDirectory, Rename, Clean, Upgrade}

-- ---- names

-- a call by one path has these names, and no others
abbrev pub IsOnePath : List ℕ → List (List ℕ) → List (List ℕ) → Type 0
IsOnePath text names others = IsPath text names × (others ≡ [])

-- a call by two paths has the names of both
abbrev pub AreTwoPaths : List ℕ → List ℕ → List (List ℕ) → List (List ℕ) → Type 0
AreTwoPaths old new names others = IsPath old names × IsPath new others

-- the names of a call's paths
abbrev pub AreNames : Said → List (List ℕ) → List (List ℕ) → Type 0
AreNames (Create cpu path mode time) names others = IsOnePath path names others
AreNames (MakeDirectory cpu path mode time) names others = IsOnePath path names others
AreNames (Write cpu path offset bytes time) names others = IsOnePath path names others
AreNames (SetSize cpu path size time) names others = IsOnePath path names others
AreNames (SetAttributes cpu path mode owner group time) names others = IsOnePath path names others
AreNames (Link cpu old new time) names others = AreTwoPaths old new names others
AreNames (Unlink cpu path time) names others = IsOnePath path names others
AreNames (RemoveDirectory cpu path time) names others = IsOnePath path names others
AreNames (Rename cpu old new time) names others = AreTwoPaths old new names others
AreNames (Clean path) names others = IsOnePath path names others
AreNames Upgrade names others = (names ≡ []) × (others ≡ [])

-- ---- the tree

-- what a call makes, by the names of its second path
abbrev pub call_makes : {P : Type 0} → Said → List (List ℕ) → Makes P
call_makes (Create cpu path mode time) others = makes_inode File cpu mode time
call_makes (MakeDirectory cpu path mode time) others = makes_inode Directory cpu mode time
call_makes (Write cpu path offset bytes time) others = makes_bytes offset bytes time
call_makes (SetSize cpu path size time) others = makes_size size time
call_makes (SetAttributes cpu path mode owner group time) others = makes_attributes mode owner group time
call_makes (Link cpu old new time) others = makes_link time (Some others)
call_makes (Unlink cpu path time) others = makes_unlink time
call_makes (RemoveDirectory cpu path time) others = makes_removal time
call_makes (Rename cpu old new time) others = makes_rename time (Some others)
call_makes (Clean path) others = makes_no_change
call_makes Upgrade others = makes_no_change

-- ---- the logs

-- `clean`: by what the region shows, the answer is the first page that the inode's log can do without, which went, or that the
-- log needs each of its pages. Nothing else has changed.
pub record FindsPage {P : Type 0} (found : Option ℕ) (S : Region) (m : Mount P) (names : List (List ℕ)) (T : Region) : Type 0 where
  pub inode : ℕ
  pub node : Node
  pub held : Store
  pub log : Held
  pub leads : LeadsTo (tree_of S m.rows) names inode node
  pub sound : ShowsSound S m.layout held
  pub is : held inode ≡ Some log
  pub went : ShowsCleaned S T m.layout held inode log found

-- the same where only that something is shown is known
abbrev pub finds_page : {P : Type 0} → Option ℕ → Logs P
finds_page found S m names T = ∥ (FindsPage found S m names T) ∥₁

-- What a call that answers so leaves of the logs, by the names of its second path. Only `clean` answers a page.
abbrev pub call_logs : {P : Type 0} → Said → List (List ℕ) → Answer → Logs P
call_logs (Create cpu path mode time) others answer S m names T = (answer ≡ Done) × logs_inode File cpu mode time S m names T
call_logs (MakeDirectory cpu path mode time) others answer S m names T = (answer ≡ Done) × logs_inode Directory cpu mode time S m names T
call_logs (Write cpu path offset bytes time) others answer S m names T = (answer ≡ Done) × LogsBytes cpu offset (length bytes) time S m names T
call_logs (SetSize cpu path size time) others answer S m names T = (answer ≡ Done) × logs_size cpu size time S m names T
call_logs (SetAttributes cpu path mode owner group time) others answer S m names T = (answer ≡ Done) × logs_attributes cpu mode owner group time S m names T
call_logs (Link cpu old new time) others answer S m names T = (answer ≡ Done) × logs_link cpu time (Some others) S m names T
call_logs (Unlink cpu path time) others answer S m names T = (answer ≡ Done) × LogsUnlink cpu time S m names T
call_logs (RemoveDirectory cpu path time) others answer S m names T = (answer ≡ Done) × logs_removal cpu time S m names T
call_logs (Rename cpu old new time) others answer S m names T = (answer ≡ Done) × logs_rename cpu time (Some others) S m names T
call_logs (Clean path) others answer S m names T = (page : Option ℕ) × (answer ≡ Cleaned page) × finds_page page S m names T
call_logs Upgrade others answer S m names T = (answer ≡ Done) × IsUpgraded S m.sup.cpus T

-- What recovery finds in a region that a stop within a call has left, by the names of its second path: what was mounted, or what the
-- call makes of it. Where the call makes an inode, the table of its CPU may have grown.
abbrev pub call_stops : {P : Type 0} → Said → List (List ℕ) → Logs P
call_stops (Create cpu path mode time) others = LeavesGrowing cpu (makes_inode File cpu mode time) (logs_inode File cpu mode time)
call_stops (MakeDirectory cpu path mode time) others = LeavesGrowing cpu (makes_inode Directory cpu mode time) (logs_inode Directory cpu mode time)
call_stops (Write cpu path offset bytes time) others = LeavesCall (makes_bytes offset bytes time) (LogsBytes cpu offset (length bytes) time)
call_stops (SetSize cpu path size time) others = LeavesCall (makes_size size time) (logs_size cpu size time)
call_stops (SetAttributes cpu path mode owner group time) others = LeavesCall (makes_attributes mode owner group time) (logs_attributes cpu mode owner group time)
call_stops (Link cpu old new time) others = LeavesCall (makes_link time (Some others)) (logs_link cpu time (Some others))
call_stops (Unlink cpu path time) others = LeavesCall (makes_unlink time) (LogsUnlink cpu time)
call_stops (RemoveDirectory cpu path time) others = LeavesCall (makes_removal time) (logs_removal cpu time)
call_stops (Rename cpu old new time) others = LeavesCall (makes_rename time (Some others)) (logs_rename cpu time (Some others))
call_stops (Clean path) others = LeavesCall makes_no_change logs_page_less
call_stops Upgrade others = λ S m names. LeavesUpgrade S m

-- ---- a call

-- What comes of a call: where it is made no test refuses it, and the tree and the logs are those that it leaves. Where it is refused,
-- it is by the first test that holds, by a stop, or for want of memory where that comes last. Where a text is no path, all stays as it
-- was. Whatever a stop leaves, recovery finds without faults what was mounted or what the call makes.
pub record Called {P : Type 0} (region : P → Region) (may_hold : P → Choices) (fuse : P → FuseState) (call : Said) (old new : Mount P) (result : Result Answer Refusal) : Type 0 where
  pub allowed : (tests : Tests) → AreTestsOf (region old.memory) old call tests → OnOk result (first_refusal tests ≡ None)
  pub refused : old.stopped ≡ false → (tests : Tests) → AreTestsOf (region old.memory) old call tests → IfErr result (IsRefusedBy (first_refusal tests))
  pub changed : (names others : List (List ℕ)) → AreNames call names others → OnOk result (SameTree (shown region new) (call_makes call others (region old.memory) old names))
  pub logged : (names others : List (List ℕ)) → AreNames call names others → IfOk result (λ answer. call_logs call others answer (region old.memory) old names (region new.memory))
  pub kept : KeepsCalled region fuse call old new result
  pub bad_text : ((names others : List (List ℕ)) → AreNames call names others → ⊥) → SameMount old new
  pub any_stop : (names others : List (List ℕ)) → AreNames call names others → old.stopped ≡ false → old.read_only ≡ false
      → LeavesOnly (region new.memory) (may_hold new.memory) (call_stops call others (region old.memory) old names)

-- ---- within

-- a call's answer, by what its method answers where it is made
abbrev pub answered_by : {A : Type 0} → (A → Answer) → Result A Refusal → Result Answer Refusal
answered_by answer (Ok a) = Ok (answer a)
answered_by answer (Err e) = Err e
