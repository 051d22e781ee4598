-- What each call leaves of the logs where it is made, for all that is held, by what its contract says of it.
use Rattle.std.proofs.Common.{◌≡◌, ◌≢◌, ℕ, ◌+◌, ◌-◌, ◌<◌, ◌≤◌, List, Some, Result, Ok, Err, IfOk, OnOk, refl, ap}
use Rattle.nv_region.specs.Region.{Region}
use Rattle.nv_super.specs.declared.kind.Kind.{Kind}
use Rattle.nv_scan.specs.State.{block_of}
use Rattle.nv_mounted.specs.Held.{Held, Store, good_in}
use Rattle.nv_mounted.specs.Mounted.{ShowsSound}
use Rattle.nv_entry.specs.declared.entry.Operation.TheVariants.{Add, Remove}
use Rattle.nv_tree.specs.Path.{last_name}
use Rattle.nv_tree.specs.Tree.{Node, walk}
use Rattle.nv_tree.specs.declared.refusal.Refusal.{Refusal}
use Rattle.nv_steps.specs.Attributes.{attributes}
use Rattle.nv_steps.specs.Moves.{move_entries}
use Rattle.nv_steps.specs.NameEntries.{links_entries, name_entries}
use Rattle.nv_steps.specs.Writes.{plan_of}
use Rattle.nv_calls.specs.Effects.{LogsBytes, LogsUnlink, logs_attributes, logs_inode, logs_link, logs_removal, logs_rename, logs_size}
use Rattle.nv_calls.specs.GrownLogs.{ShowsGrownLog}
use Rattle.nv_calls.specs.LinkCalls.{ShowsBothGrew}
use Rattle.nv_calls.specs.Mount.{Mount}
use Rattle.nv_calls.specs.NameCalls.{ShowsCreated}
use Rattle.nv_calls.specs.RemoveCalls.{ShowsRemoved}
use Rattle.nv_calls.specs.SizeCall.{ShowsResizedLog}
use Rattle.nv_calls.specs.WriteCall.{ShowsLogWrite}
use Rattle.nv_paths.specs.Seen.{LeadsTo, tree_of}
use Rattle.nv_paths.specs.Spots.{new_number}
use Rattle.nv_history.specs.declared.calls.Answer.{Answer}
use Rattle.nv_history.specs.declared.calls.Answer.TheVariants.{Done}

-- a call that tells nothing but that it is made
pub done_logged : (answer : Result (Unit {0}) Refusal) (Logged : Type 0) → OnOk answer Logged → IfOk answer (λ done. (◌≡◌ {A = Answer} Done Done) × Logged)
done_logged (Ok done) Logged logged = (refl, logged)
done_logged (Err e) Logged logged = tt

module _ {P : Type 0} (S T : Region) (m : Mount P) (names : List (List ℕ)) where
  pub inode_logged : (kind : Kind) (cpu mode time : ℕ) (answer : Result (Unit {0}) Refusal)
      → ((d j : ℕ) (held : Store) (h : Held) → walk (tree_of S m.rows) 1 names ≡ Ok d → new_number m.layout m.rows cpu ≡ Some j → ShowsSound S m.layout held → held d ≡ Some h → OnOk answer (ShowsCreated T m.layout m.free.pools cpu held kind mode time j d h (last_name names)))
      → OnOk answer (logs_inode kind cpu mode time S m names T)
  inode_logged kind cpu mode time (Ok done) log = log
  inode_logged kind cpu mode time (Err e) log = tt

  pub size_logged : (cpu bytes time : ℕ) (answer : Result (Unit {0}) Refusal)
      → ((i : ℕ) (node : Node) (held : Store) (h : Held) → LeadsTo (tree_of S m.rows) names i node → ShowsSound S m.layout held → held i ≡ Some h → OnOk answer (ShowsResizedLog T m.layout m.free.pools cpu held i h node bytes time))
      → OnOk answer (logs_size cpu bytes time S m names T)
  size_logged cpu bytes time (Ok done) log = log
  size_logged cpu bytes time (Err e) log = tt

  pub attributes_logged : (cpu mode owner group time : ℕ) (answer : Result (Unit {0}) Refusal)
      → ((i : ℕ) (node : Node) (held : Store) (h : Held) → LeadsTo (tree_of S m.rows) names i node → ShowsSound S m.layout held → held i ≡ Some h → OnOk answer (ShowsGrownLog T m.layout m.free.pools cpu held i h (attributes node.size mode owner group time)))
      → OnOk answer (logs_attributes cpu mode owner group time S m names T)
  attributes_logged cpu mode owner group time (Ok done) log = log
  attributes_logged cpu mode owner group time (Err e) log = tt

  pub linked_logged : (cpu time : ℕ) (others : List (List ℕ)) (answer : Result (Unit {0}) Refusal)
      → ((i d : ℕ) (node : Node) (held : Store) (f h : Held) → LeadsTo (tree_of S m.rows) names i node → walk (tree_of S m.rows) 1 others ≡ Ok d → ShowsSound S m.layout held → held i ≡ Some f → held d ≡ Some h
      → OnOk answer (ShowsBothGrew T m.layout m.free.pools cpu held i f (links_entries (node.links + 1) time) d h (name_entries Add i (last_name others) time)))
      → OnOk answer (logs_link cpu time (Some others) S m names T)
  linked_logged cpu time others (Ok done) log = log
  linked_logged cpu time others (Err e) log = tt

  pub unlink_logged : (cpu time : ℕ) (answer : Result (Unit {0}) Refusal)
      → ((i d : ℕ) (node : Node) (held : Store) (h f : Held) → LeadsTo (tree_of S m.rows) names i node → walk (tree_of S m.rows) 1 names ≡ Ok d → ShowsSound S m.layout held → held d ≡ Some h → held i ≡ Some f → 1 < node.links
      → OnOk answer (ShowsBothGrew T m.layout m.free.pools cpu held d h (name_entries Remove i (last_name names) time) i f (links_entries (node.links - 1) time)))
      → ((i d : ℕ) (node : Node) (held : Store) (h : Held) → LeadsTo (tree_of S m.rows) names i node → walk (tree_of S m.rows) 1 names ≡ Ok d → ShowsSound S m.layout held → held d ≡ Some h → node.links ≤ 1
      → OnOk answer (ShowsRemoved T m.layout m.free.pools cpu held d h (name_entries Remove i (last_name names) time) i))
      → OnOk answer (LogsUnlink cpu time S m names T)
  unlink_logged cpu time (Ok done) more last = record { more = more; last = last }
  unlink_logged cpu time (Err e) more last = tt

  pub removal_logged : (cpu time : ℕ) (answer : Result (Unit {0}) Refusal)
      → ((i d : ℕ) (node : Node) (held : Store) (h : Held) → LeadsTo (tree_of S m.rows) names i node → walk (tree_of S m.rows) 1 names ≡ Ok d → ShowsSound S m.layout held → held d ≡ Some h
      → OnOk answer (ShowsRemoved T m.layout m.free.pools cpu held d h (name_entries Remove i (last_name names) time) i))
      → OnOk answer (logs_removal cpu time S m names T)
  removal_logged cpu time (Ok done) log = log
  removal_logged cpu time (Err e) log = tt

  pub moved_logged : (cpu time : ℕ) (others : List (List ℕ)) (answer : Result (Unit {0}) Refusal)
      → ((i d e : ℕ) (node : Node) (held : Store) (h k : Held) → LeadsTo (tree_of S m.rows) names i node → walk (tree_of S m.rows) 1 names ≡ Ok d → walk (tree_of S m.rows) 1 others ≡ Ok e → d ≢ e → ShowsSound S m.layout held → held d ≡ Some h → held e ≡ Some k
      → OnOk answer (ShowsBothGrew T m.layout m.free.pools cpu held d h (name_entries Remove i (last_name names) time) e k (name_entries Add i (last_name others) time)))
      → ((i d : ℕ) (node : Node) (held : Store) (h : Held) → LeadsTo (tree_of S m.rows) names i node → walk (tree_of S m.rows) 1 names ≡ Ok d → walk (tree_of S m.rows) 1 others ≡ Ok d → ShowsSound S m.layout held → held d ≡ Some h
      → OnOk answer (ShowsGrownLog T m.layout m.free.pools cpu held d h (move_entries i (last_name names) (last_name others) time)))
      → OnOk answer (logs_rename cpu time (Some others) S m names T)
  moved_logged cpu time others (Ok done) across within = record { across = across; within = within }
  moved_logged cpu time others (Err e) across within = tt

-- A write, which stores nothing where there are no bytes.
pub bytes_logged : {P : Type 0} (region : P → Region) (m n : Mount P) (names : List (List ℕ)) (cpu offset bytes time : ℕ) (answer : Result (Unit {0}) Refusal)
    → ((i : ℕ) (node : Node) (held : Store) (h : Held) → LeadsTo (tree_of (region m.memory) m.rows) names i node → ShowsSound (region m.memory) m.layout held → held i ≡ Some h → 0 < bytes
    → OnOk answer (ShowsLogWrite (region n.memory) m cpu held i h (plan_of (block_of (good_in m.layout h)) node.size offset bytes time)))
    → (bytes ≡ 0 → OnOk answer (n ≡ m)) → OnOk answer (LogsBytes cpu offset bytes time (region m.memory) m names (region n.memory))
bytes_logged region m n names cpu offset bytes time (Err e) log nothing = tt
bytes_logged {P} region m n names cpu offset bytes time (Ok done) log nothing = record { some = log; none = λ zero. ap (λ (k : Mount P). region k.memory) (nothing zero) }
