-- What `link_inode` answers, and what it leaves.
use Rattle.std.proofs.Common.{◌≡◌, ◌≢◌, ℕ, ◌+◌, ◌%◌, ◌<◌, ◌≤◌, ◌/◌, Bool, false, List, [], ◌∷◌, ap, sym, ◌∙◌, subst, Option, Some, None, slice_get}
use Rattle.std.specs.List.{Contains}
use Rattle.std.specs.Option.{option_map_or}
use Rattle.nv_region.specs.Region.{Region}
use Rattle.nv_super.specs.declared.superblock.Super.{Super}
use Rattle.nv_super.specs.declared.faults.Fault.{Fault}
use Rattle.nv_super.specs.declared.kind.Kind.TheVariants.{File, Directory}
use Rattle.nv_super.specs.Order.{Rises}
use Rattle.nv_alloc.specs.FreeValue.{FreeLists}
use Rattle.nv_alloc.specs.Taking.{all_blocks}
use Rattle.nv_entry.specs.declared.entry.Operation.TheVariants.{Add}
use Rattle.nv_logpage.specs.Append.{needed}
use Rattle.nv_radix.specs.Pages.{block_at}
use Rattle.nv_scan.specs.declared.piece.Row.{Row}
use Rattle.nv_cross_check.specs.Cross.{row_key}
use Rattle.nv_graph.specs.Read.{row_of}
use Rattle.nv_graph.specs.Step.{IsGoodName}
use Rattle.nv_mounted.specs.Held.{Held, Store}
use Rattle.nv_mounted.specs.Bytes.{byte_in}
use Rattle.nv_mounted.specs.Mounted.{IsMounted, ShowsSound}
use Rattle.nv_tree.specs.declared.refusal.Refusal.{Refusal}
use Rattle.nv_tree.specs.Path.{IsPathName}
use Rattle.nv_tree.specs.Tree.{Node, SameTree, Tree}
use Rattle.nv_tree.specs.Calls.{edit, links_at, with_links, with_name}
use Rattle.nv_tree.specs.Refusals.{Tests, first_refusal, has_no_space, writing, IsRefusedBy}
use Rattle.nv_calls.specs.LinkCalls.{ShowsBothGrew}
use Rattle.nv_calls.specs.NamesByNumber.{entry_blocks, link_inode_blocks, link_inode_tests, linked_in}
use Rattle.nv_steps.specs.NameEntries.{links_entries, name_entries}
use Rattle.nv_steps.specs.MoreNames.{LinksAt}
use Rattle.nv_calls.specs.Mount.{IsKept, Mount}
use Rattle.nv_calls.specs.NameCalls.{row_blocks}
use Rattle.nv_paths.specs.Spots.{IsNoneNamed}
use Rattle.nv_paths.specs.Directories.{link_spot_tests}
use Rattle.nv_paths.specs.Places.{IsLinkSpot}
use Rattle.nv_paths.specs.Seen.{tree_of}
use Rattle.nv_steps.specs.Steps.{RefusesStep}
use Rattle.nv_calls.specs.World.{world_of}
use Rattle.nv_calls.proofs.BothMounted.{both_bytes, both_kept, both_logs, mounted_then}
use Rattle.nv_calls.proofs.BothTree.{both_tree}
use Rattle.nv_paths.proofs.CreateTests.{good_name}
use Rattle.nv_calls.proofs.CreatedRows.{name_absent}
use Rattle.nv_calls.proofs.CreatedTree.{named_node}
use Rattle.nv_calls.proofs.Kept.{rows_rise}
use Rattle.nv_calls.proofs.LinkedHeld.{kinds_differ, link_right}
use Rattle.nv_calls.proofs.LinkedTree.{counted_node, links_told}
use Rattle.nv_steps.proofs.NamesCounted.{as_many}
use Rattle.nv_super.proofs.Members.{stands}
use Rattle.nv_super.specs.Layout.{Layout}
use Rattle.nv_calls.proofs.RowNumbers.{row_named}
use Rattle.nv_steps.proofs.RowOf.{row_at}
use Rattle.nv_calls.proofs.Tests.{space_allows, space_refuses}

module _ {R S : Region} {s : Super} {l : Layout} {rows news : List Row} {free after : FreeLists} {faults : List Fault} {read_only stopped : Bool} (kept : IsKept R s l rows free faults read_only stopped) (runs : stopped ≡ false) (writes : read_only ≡ false)
    {cpu target place : ℕ} {name : List ℕ} {time : ℕ} (step : LinksAt R S l free after cpu rows news target place name time) (spelled : IsPathName name) (i d : ℕ) (spot : IsLinkSpot rows i d place name target) where
  abbrev file : Row
  file = step.file

  abbrev directory : Row
  directory = step.directory

  at : slice_get rows target ≡ Some file
  at = let both = step.step in both.at

  directory_at : slice_get rows place ≡ Some directory
  directory_at = let both = step.step in both.other_at

  good : IsGoodName l.sup file.inode name
  good = good_name l.sup file.inode name spelled (row_named kept runs writes file (stands rows target file at))

  file_is : file.inode ≡ i
  file_is = (spot.file file at).0

  is_file : file.kind ≡ File
  is_file = (spot.file file at).1

  few : file.numbers.links < 1000
  few = (spot.file file at).2

  is_directory : directory.kind ≡ Directory
  is_directory = (spot.directory directory directory_at).1

  is_there : directory.inode ≡ d
  is_there = (spot.directory directory directory_at).0

  absent : IsNoneNamed rows directory name
  absent = spot.absent directory directory_at

  rising : Rises row_key rows
  rising = rows_rise R s l rows free faults read_only stopped kept runs

  differ : file.inode ≢ directory.inode
  differ = kinds_differ rows target place file directory rising at directory_at is_file is_directory

  -- What is mounted, for what is held of the region of before.
  pub linked_mounted : (held : Store) (m : IsMounted R l held rows free.pools) → (then : Store) × IsMounted S l then news after.pools
  linked_mounted held m = (_, mounted_then kept runs writes step.step differ (link_right step is_file is_directory few good absent) held m)

  -- What is kept.
  pub linked_kept : (now : Bool) → IsKept S s l news after faults read_only now
  linked_kept = both_kept kept runs writes step.step differ (link_right step is_file is_directory few good absent)

  bytes : (r : Row) → Contains rows r → (x : ℕ) → byte_in S (block_at r.index (x / 4096)) x ≡ byte_in R (block_at r.index (x / 4096)) x
  bytes = both_bytes kept runs writes step.step differ (link_right step is_file is_directory few good absent)

  -- The tree is what the call makes of that of before.
  pub linked_tree : SameTree (tree_of S news) (linked_in i d name time (tree_of R rows))
  linked_tree =
      let both = step.step in
      let counted = both.is in
      let named = both.other_is in
      let changed = counted_node R S both.fresh _ (file.numbers.links + 1) time counted (as_many file.names both.first_now.names both.once.0 both.once.1 counted.names) (bytes file (stands rows target file at)) in
      let other_changed = named_node R S both.more _ name file.inode _ time named both.other_once.0 both.other_once.1 (name_absent kept runs writes directory (stands rows place directory directory_at) name absent) (bytes directory (stands rows place directory directory_at)) in
      let same = both_tree R S rows target place file both.first_now directory both.second_now rising at directory_at counted.inode named.inode differ (with_links (file.numbers.links + 1) time) (with_name name file.inode time) changed other_changed bytes in
      let made : edit directory.inode (with_name name file.inode time) (edit file.inode (with_links (file.numbers.links + 1) time) (tree_of R rows)) ≡ linked_in i d name time (tree_of R rows) =
      ap (λ (n : ℕ). edit directory.inode (with_name name file.inode time) (edit file.inode (with_links (n + 1) time) (tree_of R rows))) (sym (links_told R rows file (row_at rows target file rising at)))
      ∙ ap (λ (k : ℕ). edit directory.inode (with_name name k time) (edit k (with_links (links_at (tree_of R rows) k + 1) time) (tree_of R rows))) file_is
      ∙ ap (λ (k : ℕ). edit k (with_name name i time) (edit i (with_links (links_at (tree_of R rows) i + 1) time) (tree_of R rows))) is_there in
      subst (λ (t : Tree). SameTree (tree_of S news) t) made (subst (λ (rs : List Row). SameTree (tree_of S rs) (edit directory.inode (with_name name file.inode time) (edit file.inode (with_links (file.numbers.links + 1) time) (tree_of R rows)))) (sym both.put) same)

  -- The logs, for whatever is held of the region.
  pub linked_logs : (node : Node) (held : Store) (f h : Held) → tree_of R rows i ≡ Some node → ShowsSound R l held → held i ≡ Some f → held d ≡ Some h
      → ShowsBothGrew S l free.pools cpu held i f (links_entries (node.links + 1) time) d h (name_entries Add i name time)
  linked_logs node held f h shows sound is other_is =
      let links : file.numbers.links ≡ node.links = sym (links_told R rows file (row_at rows target file rising at)) ∙ ap (λ (k : ℕ). links_at (tree_of R rows) k) file_is ∙ ap (λ (o : Option Node). option_map_or (λ (n : Node). n.links) o 0) shows in
      let grew = both_logs kept runs writes step.step differ (link_right step is_file is_directory few good absent) held f h sound (ap held file_is ∙ is) (ap held is_there ∙ other_is) in
      subst (λ (k : ℕ). ShowsBothGrew S l free.pools cpu held k f (links_entries (node.links + 1) time) d h (name_entries Add k name time)) file_is
      (subst (λ (n : ℕ). ShowsBothGrew S l free.pools cpu held file.inode f (links_entries (n + 1) time) d h (name_entries Add file.inode name time)) links
      (subst (λ (k : ℕ). ShowsBothGrew S l free.pools cpu held file.inode f (links_entries (file.numbers.links + 1) time) k h (name_entries Add file.inode name time)) is_there grew))

-- ---- why it is refused

module _ {P : Type 0} (region : P → Region) {n m : Mount P} (same : n ≡ m) (cpu : ℕ) (passed : (tests : Tests) → first_refusal (writing (world_of m) cpu tests) ≡ first_refusal tests) (i d : ℕ) (file directory : Row)
    (is : row_of n.rows i ≡ Some file) (other_is : row_of n.rows d ≡ Some directory) (name : List ℕ) (time : ℕ) (told : (more : Tests) → first_refusal (link_spot_tests (tree_of (region n.memory) n.rows) i d name more) ≡ first_refusal more) where
  abbrev tests : Mount P → Option Refusal
  tests k = first_refusal (link_inode_tests (world_of k) (tree_of (region k.memory) k.rows) cpu i d name (link_inode_blocks k.rows i d name))

  abbrev count : ℕ
  count = needed (file.tail % 4096) (links_entries (file.numbers.links + 1) time) + needed (directory.tail % 4096) (name_entries Add file.inode name time)

  blocks_there : link_inode_blocks n.rows i d name ≡ count
  blocks_there =
      ap (λ (o : Option Row). row_blocks o (links_entries 0 0) + entry_blocks n.rows d name) is
      ∙ ap (λ (o : Option Row). needed (file.tail % 4096) (links_entries 0 0) + row_blocks o (name_entries Add 0 name 0)) other_is

  at_last : tests n ≡ first_refusal (has_no_space (world_of n) count ∷ [])
  at_last =
      let space = has_no_space (world_of n) (link_inode_blocks n.rows i d name) ∷ [] in
      let passed_here : (ts : Tests) → first_refusal (writing (world_of n) cpu ts) ≡ first_refusal ts = λ ts. subst (λ (k : Mount P). first_refusal (writing (world_of k) cpu ts) ≡ first_refusal ts) (sym same) (passed ts) in
      passed_here (link_spot_tests (tree_of (region n.memory) n.rows) i d name space) ∙ told space ∙ ap (λ (k : ℕ). first_refusal (has_no_space (world_of n) k ∷ [])) blocks_there

  -- No test refuses it where there are enough blocks.
  pub link_allowed : count ≤ all_blocks n.free.pools → tests m ≡ None
  link_allowed = space_allows same tests count at_last

  -- Where its step was refused, so is the call.
  pub link_refused : (e : Refusal) → RefusesStep e count n.free → IsRefusedBy (tests m) e
  link_refused = space_refuses same tests count at_last
