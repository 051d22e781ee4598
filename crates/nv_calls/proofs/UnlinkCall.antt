-- What `unlink_inode` answers, and what it leaves.
use Rattle.std.proofs.Common.{◌≡◌, ◌≢◌, ℕ, ◌+◌, ◌-◌, ◌%◌, ◌/◌, ◌<◌, ◌≤◌, nat_lt, inl, inr, Bool, false, cond, List, [], ◌∷◌, slice_get, ap, sym, ◌∙◌, subst, arith, Option, Some}
use Rattle.std.specs.List.{Contains}
use Rattle.std.specs.Option.{option_map, option_map_or}
use Rattle.nv_region.specs.Region.{Region}
use Rattle.nv_super.specs.declared.superblock.Super.{Super}
use Rattle.nv_super.specs.declared.faults.Fault.{Fault}
use Rattle.nv_super.specs.declared.kind.Kind.TheVariants.{File, Directory}
use Rattle.nv_super.specs.Order.{Rises}
use Rattle.nv_alloc.specs.FreeValue.{FreeLists}
use Rattle.nv_entry.specs.declared.entry.Operation.TheVariants.{Remove}
use Rattle.nv_logpage.specs.Append.{needed}
use Rattle.nv_names.specs.Names.{name_at}
use Rattle.nv_radix.specs.Pages.{block_at}
use Rattle.nv_scan.specs.declared.piece.Row.{Row}
use Rattle.nv_cross_check.specs.Cross.{row_key}
use Rattle.nv_graph.specs.Read.{row_of}
use Rattle.nv_graph.specs.Step.{IsGoodName}
use Rattle.nv_mounted.specs.Held.{Held, Store}
use Rattle.nv_mounted.specs.Bytes.{byte_in}
use Rattle.nv_mounted.specs.Mounted.{IsMounted, ShowsSound}
use Rattle.nv_tree.specs.declared.refusal.Refusal.{Refusal}
use Rattle.nv_tree.specs.Path.{IsPathName}
use Rattle.nv_tree.specs.Tree.{Node, SameTree, Tree}
use Rattle.nv_tree.specs.Calls.{edit, links_at, with_links, without_name}
use Rattle.nv_tree.specs.Refusals.{Tests, first_refusal, has_no_space, writing}
use Rattle.nv_calls.specs.LinkCalls.{ShowsBothGrew}
use Rattle.nv_calls.specs.NamesByNumber.{StandsFor, has_more_links_in, links_blocks_in, unlink_inode_blocks, unlink_inode_tests, unlinked_in}
use Rattle.nv_steps.specs.NameEntries.{links_entries, name_entries}
use Rattle.nv_calls.specs.Mount.{IsKept, Mount}
use Rattle.nv_calls.specs.NameCalls.{row_blocks}
use Rattle.nv_paths.specs.Directories.{IsNamedIn, named_in, unlink_spot_tests}
use Rattle.nv_calls.specs.RemoveCalls.{ShowsRemoved}
use Rattle.nv_paths.specs.Seen.{tree_of}
use Rattle.nv_steps.specs.Unlinks.{UnlinksAt}
use Rattle.nv_calls.specs.AtPlaces.{Releases, ReleasesAt, cut_of, release_blocks}
use Rattle.nv_calls.specs.World.{world_of}
use Rattle.nv_calls.proofs.BothMounted.{both_bytes, both_kept, both_logs, mounted_then}
use Rattle.nv_calls.proofs.BothTree.{both_tree}
use Rattle.nv_paths.proofs.CreateTests.{good_name}
use Rattle.nv_calls.proofs.Kept.{rows_rise}
use Rattle.nv_calls.proofs.LinkedHeld.{kinds_differ}
use Rattle.nv_calls.proofs.LinkedTree.{counted_node, links_told}
use Rattle.nv_steps.proofs.NamesCounted.{as_many}
use Rattle.nv_super.proofs.Members.{stands}
use Rattle.nv_super.specs.Layout.{Layout}
use Rattle.nv_calls.proofs.RemoveCall.{removal_blocks, removed_kept, removed_log, tree_is}
use Rattle.nv_calls.proofs.RemovedTree.{lost_node}
use Rattle.nv_calls.proofs.RowNumbers.{row_named}
use Rattle.nv_steps.proofs.RowOf.{row_at}
use Rattle.nv_calls.proofs.UnlinkedHeld.{unlink_right}
use Rattle.nv_calls.proofs.UnlinkedTree.{last_unlinked, more_unlinked, swapped}

-- ---- where the file has other names

module _ {R S : Region} {s : Super} {l : Layout} {rows news : List Row} {free after : FreeLists} {faults : List Fault} {read_only stopped : Bool} (kept : IsKept R s l rows free faults read_only stopped) (runs : stopped ≡ false) (writes : read_only ≡ false)
    {cpu place target : ℕ} {name : List ℕ} {time : ℕ} (step : UnlinksAt R S l free after cpu rows news place target name time) (spelled : IsPathName name) (is_file : step.file.kind ≡ File) (some : 1 < step.file.numbers.links) (d : ℕ) (spot : IsNamedIn (tree_of R rows) rows d place name target) where
  abbrev file : Row
  file = step.file

  abbrev directory : Row
  directory = step.directory

  at : slice_get rows place ≡ Some directory
  at = let both = step.step in both.at

  file_at : slice_get rows target ≡ Some file
  file_at = let both = step.step in both.other_at

  good : IsGoodName l.sup file.inode name
  good = good_name l.sup file.inode name spelled (row_named kept runs writes file (stands rows target file file_at))

  is_directory : directory.kind ≡ Directory
  is_directory = (spot.directory directory at).1

  is_there : directory.inode ≡ d
  is_there = (spot.directory directory at).0

  named : option_map (λ (x : ℕ × ℕ). x.0) (name_at directory.names name) ≡ Some file.inode
  named = spot.named directory file at file_at

  rising : Rises row_key rows
  rising = rows_rise R s l rows free faults read_only stopped kept runs

  differ : directory.inode ≢ file.inode
  differ same = kinds_differ rows target place file directory rising file_at at is_file is_directory (sym same)

  counted : links_at (tree_of R rows) file.inode ≡ file.numbers.links
  counted = links_told R rows file (row_at rows target file rising file_at)

  pub more_mounted : (held : Store) (m : IsMounted R l held rows free.pools) → (then : Store) × IsMounted S l then news after.pools
  more_mounted held m = (_, mounted_then kept runs writes step.step differ (unlink_right step is_directory is_file some good named) held m)

  more_kept : (now : Bool) → IsKept S s l news after faults read_only now
  more_kept = both_kept kept runs writes step.step differ (unlink_right step is_directory is_file some good named)

  bytes : (r : Row) → Contains rows r → (x : ℕ) → byte_in S (block_at r.index (x / 4096)) x ≡ byte_in R (block_at r.index (x / 4096)) x
  bytes = both_bytes kept runs writes step.step differ (unlink_right step is_directory is_file some good named)

  pub more_tree : SameTree (tree_of S news) (unlinked_in d name time (tree_of R rows))
  more_tree =
      let both = step.step in
      let lost = both.is in
      let counts = both.other_is in
      let changed = lost_node R S both.fresh _ name file.inode time lost both.once.0 both.once.1 named (bytes directory (stands rows place directory at)) in
      let other_changed = counted_node R S both.more _ (file.numbers.links - 1) time counts (as_many file.names both.second_now.names both.other_once.0 both.other_once.1 counts.names) (bytes file (stands rows target file file_at)) in
      let same = both_tree R S rows place target directory both.first_now file both.second_now rising at file_at lost.inode counts.inode differ (without_name name time) (with_links (file.numbers.links - 1) time) changed other_changed bytes in
      let here = subst (λ (rs : List Row). SameTree (tree_of S rs) (edit file.inode (with_links (file.numbers.links - 1) time) (edit directory.inode (without_name name time) (tree_of R rows)))) (sym both.put) same in
      subst (λ (t : Tree). SameTree (tree_of S news) t) (sym (more_unlinked d name time (tree_of R rows) file.inode directory.inode (spot.leads file file_at) is_there file.numbers.links counted some))
      (swapped (tree_of S news) (tree_of R rows) directory.inode file.inode (without_name name time) (with_links (file.numbers.links - 1) time) differ here)

  more_logs : (i : ℕ) (node : Node) (held : Store) (h f : Held) → StandsFor (tree_of R rows) d name i node → ShowsSound R l held → held d ≡ Some h → held i ≡ Some f
      → ShowsBothGrew S l free.pools cpu held d h (name_entries Remove i name time) i f (links_entries (node.links - 1) time)
  more_logs i node held h f led sound is other_is =
      let numbers : Some file.inode ≡ Some i = sym (spot.leads file file_at) ∙ led.leads in
      let one : file.inode ≡ i = cc in
      let links : file.numbers.links ≡ node.links = sym counted ∙ ap (λ (k : ℕ). links_at (tree_of R rows) k) one ∙ ap (λ (o : Option Node). option_map_or (λ (n : Node). n.links) o 0) led.shows in
      let grew = both_logs kept runs writes step.step differ (unlink_right step is_directory is_file some good named) held h f sound (ap held is_there ∙ is) (ap held one ∙ other_is) in
      subst (λ (k : ℕ). ShowsBothGrew S l free.pools cpu held d h (name_entries Remove k name time) k f (links_entries (node.links - 1) time)) one
      (subst (λ (n : ℕ). ShowsBothGrew S l free.pools cpu held d h (name_entries Remove file.inode name time) file.inode f (links_entries (n - 1) time)) links
      (subst (λ (k : ℕ). ShowsBothGrew S l free.pools cpu held k h (name_entries Remove file.inode name time) file.inode f (links_entries (file.numbers.links - 1) time)) is_there grew))

-- ---- in both cases

-- what a name's going leaves, without what was given back
pub released_at : {R S : Region} {l : Layout} {rows news : List Row} {free after : FreeLists} {cpu place target : ℕ} {name : List ℕ} {time : ℕ} → Releases R S l free after cpu rows news place target name time → ReleasesAt R S l free cpu rows news place target name time
released_at {after = after} (inl w) = inl (w.0, (after, w.1))
released_at (inr w) = inr (w.0, ((w.1).mid, cut_of w.1))

module _ {R S : Region} {s : Super} {l : Layout} {rows news : List Row} {free : FreeLists} {faults : List Fault} {read_only stopped : Bool} (kept : IsKept R s l rows free faults read_only stopped) (runs : stopped ≡ false) (writes : read_only ≡ false)
    {cpu place target : ℕ} {name : List ℕ} {time : ℕ} (done : ReleasesAt R S l free cpu rows news place target name time) (spelled : IsPathName name) (files : (row : Row) → slice_get rows target ≡ Some row → row.kind ≡ File) (d : ℕ) (spot : IsNamedIn (tree_of R rows) rows d place name target) where
  file_there : {after : FreeLists} (step : UnlinksAt R S l free after cpu rows news place target name time) → slice_get rows target ≡ Some step.file
  file_there step = let both = step.step in both.other_at

  -- how many links the file had
  links_are : (i : ℕ) (node : Node) (row : Row) → StandsFor (tree_of R rows) d name i node → slice_get rows target ≡ Some row → row.numbers.links ≡ node.links
  links_are i node row led at =
      let numbers : Some row.inode ≡ Some i = sym (spot.leads row at) ∙ led.leads in
      let one : row.inode ≡ i = cc in
      sym (links_told R rows row (row_at rows target row (rows_rise R s l rows free faults read_only stopped kept runs) at)) ∙ ap (λ (k : ℕ). links_at (tree_of R rows) k) one ∙ ap (λ (o : Option Node). option_map_or (λ (n : Node). n.links) o 0) led.shows

  -- Both logs, where it had others.
  pub unlink_logs : (i : ℕ) (node : Node) (held : Store) (h f : Held) → StandsFor (tree_of R rows) d name i node → ShowsSound R l held → held d ≡ Some h → held i ≡ Some f → 1 < node.links
      → ShowsBothGrew S l free.pools cpu held d h (name_entries Remove i name time) i f (links_entries (node.links - 1) time)
  unlink_logs i node held h f led sound is other_is some = by done where
    by : ReleasesAt R S l free cpu rows news place target name time → ShowsBothGrew S l free.pools cpu held d h (name_entries Remove i name time) i f (links_entries (node.links - 1) time)
    by (inl w) = let step = w.1.1 in more_logs kept runs writes step spelled (files step.file (file_there step)) (w.0 step.file (file_there step)) d spot i node held h f led sound is other_is
    by (inr w) = absurd (let step = w.1.1 in let few = w.0 step.gone step.gone_at in let count = links_are i node step.gone led step.gone_at in omega (arith, some, few, count))

  -- The directory's log, where it went.
  pub unlink_last : (i : ℕ) (node : Node) (held : Store) (h : Held) → StandsFor (tree_of R rows) d name i node → ShowsSound R l held → held d ≡ Some h → node.links ≤ 1 → ShowsRemoved S l free.pools cpu held d h (name_entries Remove i name time) i
  unlink_last i node held h led sound is few = by done where
    by : ReleasesAt R S l free cpu rows news place target name time → ShowsRemoved S l free.pools cpu held d h (name_entries Remove i name time) i
    by (inl w) = absurd (let step = w.1.1 in let some = w.0 step.file (file_there step) in let count = links_are i node step.file led (file_there step) in omega (arith, some, few, count))
    by (inr w) = let step = w.1.1 in removed_log kept runs writes step spelled (inr (files step.gone step.gone_at, w.0 step.gone step.gone_at)) d spot i node held h led sound is

module _ {R S : Region} {s : Super} {l : Layout} {rows news : List Row} {free after : FreeLists} {faults : List Fault} {read_only stopped : Bool} (kept : IsKept R s l rows free faults read_only stopped) (runs : stopped ≡ false) (writes : read_only ≡ false)
    {cpu place target : ℕ} {name : List ℕ} {time : ℕ} (done : Releases R S l free after cpu rows news place target name time) (spelled : IsPathName name) (files : (row : Row) → slice_get rows target ≡ Some row → row.kind ≡ File) (d : ℕ) (spot : IsNamedIn (tree_of R rows) rows d place name target) where
  rises : Rises row_key rows
  rises = rows_rise R s l rows free faults read_only stopped kept runs

  at_file : (step : UnlinksAt R S l free after cpu rows news place target name time) → slice_get rows target ≡ Some step.file
  at_file step = let both = step.step in both.other_at

  -- What is kept.
  pub unlink_kept : (now : Bool) → IsKept S s l news after faults read_only now
  unlink_kept now = by done where
    by : Releases R S l free after cpu rows news place target name time → IsKept S s l news after faults read_only now
    by (inl w) = more_kept kept runs writes w.1 spelled (files w.1.file (at_file w.1)) (w.0 w.1.file (at_file w.1)) d spot now
    by (inr w) = removed_kept kept runs writes (cut_of w.1) spelled (inr (files w.1.gone w.1.gone_at, w.0 w.1.gone w.1.gone_at)) d spot w.1.given now

  -- The tree is what the call makes of that of before.
  pub unlink_tree : SameTree (tree_of S news) (unlinked_in d name time (tree_of R rows))
  unlink_tree = by done where
    by : Releases R S l free after cpu rows news place target name time → SameTree (tree_of S news) (unlinked_in d name time (tree_of R rows))
    by (inl w) = more_tree kept runs writes w.1 spelled (files w.1.file (at_file w.1)) (w.0 w.1.file (at_file w.1)) d spot
    by (inr w) =
        let step = w.1 in
        let few = w.0 step.gone step.gone_at in
        let count = links_told R rows step.gone (row_at rows target step.gone rises step.gone_at) in
        subst (λ (t : Tree). SameTree (tree_of S news) t)
        (sym (last_unlinked d name time (tree_of R rows) step.gone.inode step.row.inode (spot.leads step.gone step.gone_at) (spot.directory step.row step.at).0 step.gone.numbers.links count few))
        (tree_is kept runs writes (cut_of step) spelled (inr (files step.gone step.gone_at, few)) d spot)

-- ---- why it is refused

-- what the logs need, by where they are
blocks_by : (rows : List Row) (R : Region) (d : ℕ) (row file : Row) (time : ℕ) (name : List ℕ) → named_in (tree_of R rows) d name ≡ Some file.inode → row_of rows file.inode ≡ Some file → row_of rows d ≡ Some row
    → unlink_inode_blocks rows (tree_of R rows) d name ≡ release_blocks row file name time
blocks_by rows R d row file time name leads is row_is =
    ap (λ (n : ℕ). n + cond (has_more_links_in (tree_of R rows) d name) (links_blocks_in rows (tree_of R rows) d name) 0) (removal_blocks rows d row name file.inode time row_is)
    ∙ ap (λ (b : Bool). needed (row.tail % 4096) (name_entries Remove file.inode name time) + cond b (links_blocks_in rows (tree_of R rows) d name) 0)
    (ap (λ (o : Option ℕ). option_map_or (λ i. nat_lt 1 (links_at (tree_of R rows) i)) o false) leads ∙ ap (λ (n : ℕ). nat_lt 1 n) (links_told R rows file is))
    ∙ ap (λ (n : ℕ). needed (row.tail % 4096) (name_entries Remove file.inode name time) + cond (nat_lt 1 file.numbers.links) n 0)
    (ap (λ (o : Option ℕ). option_map_or (λ i. row_blocks (row_of rows i) (links_entries 0 0)) o 0) leads ∙ ap (λ (o : Option Row). row_blocks o (links_entries 0 0)) is)

module _ {P : Type 0} (region : P → Region) {n m : Mount P} (same : n ≡ m) (cpu : ℕ) (passed : (tests : Tests) → first_refusal (writing (world_of m) cpu tests) ≡ first_refusal tests) (d : ℕ) (row file : Row) (is : row_of n.rows d ≡ Some row) (file_is : row_of n.rows file.inode ≡ Some file)
    (name : List ℕ) (time : ℕ) (leads : named_in (tree_of (region n.memory) n.rows) d name ≡ Some file.inode) (told : (more : Tests) → first_refusal (unlink_spot_tests (tree_of (region n.memory) n.rows) d name more) ≡ first_refusal more) where
  abbrev pub unlink_refusal : Mount P → Option Refusal
  unlink_refusal k = first_refusal (unlink_inode_tests (world_of k) (tree_of (region k.memory) k.rows) cpu d name (unlink_inode_blocks k.rows (tree_of (region k.memory) k.rows) d name))

  pub unlink_last_test : unlink_refusal n ≡ first_refusal (has_no_space (world_of n) (release_blocks row file name time) ∷ [])
  unlink_last_test =
      let tree = tree_of (region n.memory) n.rows in
      let space = has_no_space (world_of n) (unlink_inode_blocks n.rows tree d name) ∷ [] in
      let passed_here : (ts : Tests) → first_refusal (writing (world_of n) cpu ts) ≡ first_refusal ts = λ ts. subst (λ (k : Mount P). first_refusal (writing (world_of k) cpu ts) ≡ first_refusal ts) (sym same) (passed ts) in
      passed_here (unlink_spot_tests tree d name space) ∙ told space ∙ ap (λ (k : ℕ). first_refusal (has_no_space (world_of n) k ∷ [])) (blocks_by n.rows (region n.memory) d row file time name leads file_is is)
