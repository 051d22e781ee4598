-- Where each call that changes names stores, and in which order, by the region as it reads behind the call, also where it was stopped.
use Rattle.std.specs.Prelude.{◌≡◌, ◌≢◌, ℕ, ◌+◌, ◌<◌, ◌≤◌, List, Some, None, Result, Ok, OnOk}
use Rattle.nv_region.specs.Region.{Region}
use Rattle.nv_entry.specs.declared.entry.Operation.TheVariants.{Remove}
use Rattle.nv_mounted.specs.Held.{Held, Store}
use Rattle.nv_mounted.specs.Mounted.{ShowsSound}
use Rattle.nv_tree.specs.Path.{IsPath, last_name}
use Rattle.nv_tree.specs.Tree.{Node, found, walk}
use Rattle.nv_tree.specs.declared.refusal.Refusal.{Refusal}
use Rattle.nv_paths.specs.Seen.{LeadsTo}
use Rattle.nv_paths.specs.Spots.{new_number}
use Rattle.nv_steps.specs.Fronts.{SameFrontBut}
use Rattle.nv_steps.specs.InOrder.{tail_address}
use Rattle.nv_steps.specs.NameEntries.{links_entries, name_entries}
use Rattle.nv_steps.specs.Stores.{StoresIn, one_less, one_log, two_logs}
use Rattle.nv_steps.specs.Takes.{take_entries}
use Rattle.nv_calls.specs.Growing.{create_places}
use Rattle.nv_calls.specs.InOrder.{ShowsTailFirst, ShowsValidFirst}
use Rattle.nv_calls.specs.Mount.{Mount, shown}
use Rattle.nv_calls.specs.ReplaceBlocks.{is_named_twice}
use Rattle.nv_calls.specs.ReplaceLogs.{TakesPlace, has_others}
use Rattle.nv_calls.specs.ReplaceStores.{ShowsHandsInOrder, last_word, replace_places}
use Rattle.nv_steps.specs.Slots.{slot_in}

-- In each of these the superblock and all journals but that of the CPU are as they were, and every word outside some places is as it was.

-- `create` and `mkdir` store the new inode's valid word first. Where its number has no slot, the table grows before that.
pub record CreateStores {P T : Type 0} (region : P → Region) (old new : Mount P) (cpu : ℕ) (text : List ℕ) (result : Result T Refusal) : Type 0 where
  pub journals : OnOk result (SameFrontBut old.sup.cpus cpu (region old.memory) (region new.memory))
  pub wrote : (names : List (List ℕ)) (d j : ℕ) (held : Store) → IsPath text names → walk (shown region old) 1 names ≡ Ok d → new_number old.layout old.rows cpu ≡ Some j
      → ShowsSound (region old.memory) old.layout held → StoresIn old.layout held (create_places old.layout cpu j d) (region old.memory) (region new.memory)
  pub in_order : (names : List (List ℕ)) (d j : ℕ) → IsPath text names → walk (shown region old) 1 names ≡ Ok d → new_number old.layout old.rows cpu ≡ Some j
      → ShowsValidFirst (region old.memory) (region new.memory) new.layout j d

-- `link` stores the file's tail first.
pub record LinkStores {P T : Type 0} (region : P → Region) (old new : Mount P) (cpu : ℕ) (text other : List ℕ) (time : ℕ) (result : Result T Refusal) : Type 0 where
  pub journals : OnOk result (SameFrontBut old.sup.cpus cpu (region old.memory) (region new.memory))
  pub wrote : (names others : List (List ℕ)) (i d : ℕ) (node : Node) (held : Store) → IsPath text names → IsPath other others → LeadsTo (shown region old) names i node
      → walk (shown region old) 1 others ≡ Ok d → ShowsSound (region old.memory) old.layout held → StoresIn old.layout held (two_logs old.layout cpu i d) (region old.memory) (region new.memory)
  pub in_order : (names others : List (List ℕ)) (i d : ℕ) (node : Node) (held : Store) (f : Held) → IsPath text names → IsPath other others → LeadsTo (shown region old) names i node
      → walk (shown region old) 1 others ≡ Ok d → ShowsSound (region old.memory) old.layout held → held i ≡ Some f
      → ShowsTailFirst (region old.memory) (region new.memory) old.layout old.free.pools cpu i f (links_entries (node.links + 1) time) (tail_address old.layout d)

-- `unlink` stores the directory's tail first: then that of the file, or the valid word where the file goes with its last name.
pub record UnlinkStores {P T : Type 0} (region : P → Region) (old new : Mount P) (cpu : ℕ) (text : List ℕ) (time : ℕ) (result : Result T Refusal) : Type 0 where
  pub journals : OnOk result (SameFrontBut old.sup.cpus cpu (region old.memory) (region new.memory))
  pub wrote : (names : List (List ℕ)) (i d : ℕ) (node : Node) (held : Store) → IsPath text names → LeadsTo (shown region old) names i node → walk (shown region old) 1 names ≡ Ok d
      → ShowsSound (region old.memory) old.layout held → 1 < node.links → StoresIn old.layout held (two_logs old.layout cpu d i) (region old.memory) (region new.memory)
  pub last_wrote : (names : List (List ℕ)) (i d : ℕ) (node : Node) (held : Store) → IsPath text names → LeadsTo (shown region old) names i node → walk (shown region old) 1 names ≡ Ok d
      → ShowsSound (region old.memory) old.layout held → node.links ≤ 1 → StoresIn old.layout held (one_less old.layout cpu d i) (region old.memory) (region new.memory)
  pub in_order : (names : List (List ℕ)) (i d : ℕ) (node : Node) (held : Store) (h : Held) → IsPath text names → LeadsTo (shown region old) names i node
      → walk (shown region old) 1 names ≡ Ok d → ShowsSound (region old.memory) old.layout held → held d ≡ Some h → 1 < node.links
      → ShowsTailFirst (region old.memory) (region new.memory) old.layout old.free.pools cpu d h (name_entries Remove i (last_name names) time) (tail_address old.layout i)
  pub last_in_order : (names : List (List ℕ)) (i d : ℕ) (node : Node) (held : Store) (h : Held) → IsPath text names → LeadsTo (shown region old) names i node
      → walk (shown region old) 1 names ≡ Ok d → ShowsSound (region old.memory) old.layout held → held d ≡ Some h → node.links ≤ 1
      → ShowsTailFirst (region old.memory) (region new.memory) old.layout old.free.pools cpu d h (name_entries Remove i (last_name names) time) (slot_in old.layout i)

-- `rmdir` stores the tail of the directory above first.
pub record RemoveStores {P T : Type 0} (region : P → Region) (old new : Mount P) (cpu : ℕ) (text : List ℕ) (time : ℕ) (result : Result T Refusal) : Type 0 where
  pub journals : OnOk result (SameFrontBut old.sup.cpus cpu (region old.memory) (region new.memory))
  pub wrote : (names : List (List ℕ)) (i d : ℕ) (node : Node) (held : Store) → IsPath text names → LeadsTo (shown region old) names i node → walk (shown region old) 1 names ≡ Ok d
      → ShowsSound (region old.memory) old.layout held → StoresIn old.layout held (one_less old.layout cpu d i) (region old.memory) (region new.memory)
  pub in_order : (names : List (List ℕ)) (i d : ℕ) (node : Node) (held : Store) (h : Held) → IsPath text names → LeadsTo (shown region old) names i node
      → walk (shown region old) 1 names ≡ Ok d → ShowsSound (region old.memory) old.layout held → held d ≡ Some h
      → ShowsTailFirst (region old.memory) (region new.memory) old.layout old.free.pools cpu d h (name_entries Remove i (last_name names) time) (slot_in old.layout i)

-- `rename` stores to one log within one directory. Of two directories it stores the old one's tail first.
pub record RenameStores {P T : Type 0} (region : P → Region) (old new : Mount P) (cpu : ℕ) (text other : List ℕ) (time : ℕ) (result : Result T Refusal) : Type 0 where
  pub journals : OnOk result (SameFrontBut old.sup.cpus cpu (region old.memory) (region new.memory))
  pub wrote : (names others : List (List ℕ)) (i d e : ℕ) (node : Node) (held : Store) → IsPath text names → IsPath other others → LeadsTo (shown region old) names i node
      → walk (shown region old) 1 names ≡ Ok d → walk (shown region old) 1 others ≡ Ok e → d ≢ e → ShowsSound (region old.memory) old.layout held
      → StoresIn old.layout held (two_logs old.layout cpu d e) (region old.memory) (region new.memory)
  pub within_wrote : (names others : List (List ℕ)) (d : ℕ) (held : Store) → IsPath text names → IsPath other others → walk (shown region old) 1 names ≡ Ok d
      → walk (shown region old) 1 others ≡ Ok d → ShowsSound (region old.memory) old.layout held → StoresIn old.layout held (one_log old.layout d) (region old.memory) (region new.memory)
  pub in_order : (names others : List (List ℕ)) (i d e : ℕ) (node : Node) (held : Store) (h : Held) → IsPath text names → IsPath other others → LeadsTo (shown region old) names i node
      → walk (shown region old) 1 names ≡ Ok d → walk (shown region old) 1 others ≡ Ok e → d ≢ e → ShowsSound (region old.memory) old.layout held → held d ≡ Some h
      → ShowsTailFirst (region old.memory) (region new.memory) old.layout old.free.pools cpu d h (name_entries Remove i (last_name names) time) (tail_address old.layout e)

-- `replace` stores at places by what it finds. Where the new name is free and in another directory, the old one's tail comes first.
-- Where another inode of the directory has it, the directory's tail comes first, and then a word of that inode. Where another inode
-- has it in another directory, both tails come before such a word, that of the old one first.
pub record ReplaceStores {P T : Type 0} (region : P → Region) (old new : Mount P) (cpu : ℕ) (text other : List ℕ) (time : ℕ) (result : Result T Refusal) : Type 0 where
  pub journals : OnOk result (SameFrontBut old.sup.cpus cpu (region old.memory) (region new.memory))
  pub wrote : (names others : List (List ℕ)) (i d e : ℕ) (held : Store) → IsPath text names → IsPath other others → found (shown region old) names ≡ Some i
      → walk (shown region old) 1 names ≡ Ok d → walk (shown region old) 1 others ≡ Ok e → ShowsSound (region old.memory) old.layout held
      → StoresIn old.layout held (replace_places old.layout cpu d e i (found (shown region old) others) (is_named_twice (shown region old) (Some others))) (region old.memory) (region new.memory)
  pub free_in_order : (names others : List (List ℕ)) (i d e : ℕ) (held : Store) (h : Held) → IsPath text names → IsPath other others → found (shown region old) names ≡ Some i
      → found (shown region old) others ≡ None → walk (shown region old) 1 names ≡ Ok d → walk (shown region old) 1 others ≡ Ok e → d ≢ e
      → ShowsSound (region old.memory) old.layout held → held d ≡ Some h
      → ShowsTailFirst (region old.memory) (region new.memory) old.layout old.free.pools cpu d h (name_entries Remove i (last_name names) time) (tail_address old.layout e)
  pub within_in_order : (names others : List (List ℕ)) (i j d : ℕ) (node : Node) (held : Store) (h : Held) → IsPath text names → IsPath other others
      → TakesPlace (shown region old) names others i j d d node → ShowsSound (region old.memory) old.layout held → held d ≡ Some h
      → ShowsTailFirst (region old.memory) (region new.memory) old.layout old.free.pools cpu d h (take_entries i j (last_name names) (last_name others) time) (last_word old.layout j (has_others node))
  pub in_order : (names others : List (List ℕ)) (i j d e : ℕ) (node : Node) (held : Store) (h k : Held) → IsPath text names → IsPath other others
      → TakesPlace (shown region old) names others i j d e node → d ≢ e → ShowsSound (region old.memory) old.layout held → held d ≡ Some h → held e ≡ Some k
      → ShowsHandsInOrder (region old.memory) (region new.memory) old.layout old.free.pools cpu d h e k i j (last_name names) (last_name others) time (last_word old.layout j (has_others node))
