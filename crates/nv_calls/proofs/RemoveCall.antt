-- What `rmdir_inode`, and `unlink_inode` of the last name, answer, and what they leave.
use Rattle.std.proofs.Common.{◌≡◌, ◌≢◌, ℕ, ◌%◌, ◌<◌, inl, inr, Bool, false, List, [], ◌∷◌, slice_get, ap, sym, ◌∙◌, subst, Option, Some, None}
use Rattle.std.specs.Option.{option_map}
use Rattle.nv_region.specs.Region.{Region}
use Rattle.nv_super.specs.declared.superblock.Super.{Super}
use Rattle.nv_super.specs.declared.faults.Fault.{Fault}
use Rattle.nv_super.specs.declared.kind.Kind.TheVariants.{File, Directory}
use Rattle.nv_alloc.specs.FreeValue.{FreeLists}
use Rattle.nv_entry.specs.declared.entry.Operation.TheVariants.{Add, Remove}
use Rattle.nv_logpage.specs.Append.{needed}
use Rattle.nv_names.specs.Names.{name_at}
use Rattle.nv_scan.specs.declared.piece.Row.{Row}
use Rattle.nv_graph.specs.Read.{row_of}
use Rattle.nv_graph.specs.Step.{IsGoodName}
use Rattle.nv_mounted.specs.Held.{Held, Store}
use Rattle.nv_mounted.specs.Mounted.{IsMounted, ShowsSound}
use Rattle.nv_tree.specs.declared.refusal.Refusal.{Refusal}
use Rattle.nv_tree.specs.Path.{IsPathName}
use Rattle.nv_tree.specs.Tree.{Node, SameTree, Tree}
use Rattle.nv_tree.specs.Refusals.{Tests, first_refusal, has_no_space, writing}
use Rattle.nv_calls.specs.AtPlaces.{CanGo, CutsAt}
use Rattle.nv_super.specs.declared.owners.Run.{Run}
use Rattle.nv_steps.specs.LessNames.{GivesRow}
use Rattle.nv_calls.specs.Mount.{IsKept, Mount}
use Rattle.nv_calls.specs.NameCalls.{row_blocks}
use Rattle.nv_calls.specs.NamesByNumber.{StandsFor, entry_blocks, removed_in, rmdir_inode_tests}
use Rattle.nv_steps.specs.NameEntries.{name_entries}
use Rattle.nv_paths.specs.Directories.{IsNamedIn, rmdir_spot_tests}
use Rattle.nv_steps.specs.NewNames.{CanName}
use Rattle.nv_calls.specs.RemoveCalls.{ShowsRemoved}
use Rattle.nv_paths.specs.Seen.{tree_of}
use Rattle.nv_calls.specs.World.{world_of}
use Rattle.nv_paths.proofs.CreateTests.{good_name}
use Rattle.nv_calls.proofs.Kept.{rows_rise}
use Rattle.nv_calls.proofs.NewNumbers.{can_name}
use Rattle.nv_super.proofs.Members.{stands}
use Rattle.nv_super.specs.Layout.{Layout}
use Rattle.nv_calls.proofs.RowNumbers.{row_named, row_number}
use Rattle.nv_calls.proofs.RemovedRows.{bytes_kept, kept_then, mounted_some, numbers_differ, was_removed}
use Rattle.nv_calls.proofs.RemovedTree.{lost_node, removed_there, removed_tree, tree_less}
use Rattle.nv_steps.proofs.RowOf.{row_at}

module _ {R S : Region} {s : Super} {l : Layout} {rows news : List Row} {free mid : FreeLists} {faults : List Fault} {read_only stopped : Bool} (kept : IsKept R s l rows free faults read_only stopped) (runs : stopped ≡ false) (writes : read_only ≡ false)
    {cpu place target : ℕ} {name : List ℕ} {time : ℕ} (step : CutsAt R S l free mid cpu rows news place target name time) (spelled : IsPathName name) (can_go : CanGo step.gone) (d : ℕ) (spot : IsNamedIn (tree_of R rows) rows d place name target) where
  directory : step.row.kind ≡ Directory
  directory = (spot.directory step.row step.at).1

  is_there : step.row.inode ≡ d
  is_there = (spot.directory step.row step.at).0

  good : IsGoodName l.sup step.gone.inode name
  good = good_name l.sup step.gone.inode name spelled (row_named kept runs writes step.gone (stands rows target step.gone step.gone_at))

  named : option_map (λ (x : ℕ × ℕ). x.0) (name_at step.row.names name) ≡ Some step.gone.inode
  named = spot.named step.row step.gone step.at step.gone_at

  -- What is kept.
  pub removed_kept : {after : FreeLists} → GivesRow mid step.gone after → (now : Bool) → IsKept S s l news after faults read_only now
  removed_kept given = kept_then kept runs writes step directory good named can_go given

  -- What is mounted, for what is held of the region of before.
  pub removed_mounted : (held : Store) (m : IsMounted R l held rows free.pools) → (then : Store) × (lists : List (List Run)) × IsMounted S l then news lists
  removed_mounted held m = let w = mounted_some kept runs writes step directory good named can_go held m in (_, w.0, w.1)

  -- The tree without the name and without what it stood for.
  pub tree_is : SameTree (tree_of S news) (removed_tree R rows step.row step.gone.inode time name)
  tree_is =
      let cuts = step.step in
      let lost = cuts.directory in
      let bytes = bytes_kept kept runs writes step directory good named can_go in
      subst (λ (rs : List Row). SameTree (tree_of S rs) (removed_tree R rows step.row step.gone.inode time name)) (sym step.put)
      (tree_less R S rows place target step.row step.now step.gone time name (rows_rise R s l rows free faults read_only stopped kept runs) step.at step.gone_at lost.inode (numbers_differ kept runs writes step directory good named can_go)
      (lost_node R S cuts.fresh _ name step.gone.inode time lost cuts.once cuts.once_now named (bytes step.row (stands rows place step.row step.at))) bytes)

  -- It is what `rmdir_inode` makes of that of before.
  pub rmdir_tree : SameTree (tree_of S news) (removed_in d name time (tree_of R rows))
  rmdir_tree = subst (λ (t : Tree). SameTree (tree_of S news) t) (sym (removed_there d name time (tree_of R rows) step.gone.inode step.row.inode (spot.leads step.gone step.gone_at) is_there)) tree_is

  -- The logs, for whatever is held of the region.
  pub removed_log : (i : ℕ) (node : Node) (held : Store) (h : Held) → StandsFor (tree_of R rows) d name i node → ShowsSound R l held → held d ≡ Some h → ShowsRemoved S l free.pools cpu held d h (name_entries Remove i name time) i
  removed_log i node held h led sound is =
      let numbers : Some step.gone.inode ≡ Some i = sym (spot.leads step.gone step.gone_at) ∙ led.leads in
      let one : step.gone.inode ≡ i = cc in
      subst (λ (k : ℕ). ShowsRemoved S l free.pools cpu held d h (name_entries Remove k name time) k) one
      (subst (λ (k : ℕ). ShowsRemoved S l free.pools cpu held k h (name_entries Remove step.gone.inode name time) step.gone.inode) is_there
      (was_removed kept runs writes step directory good named can_go held h sound (ap held is_there ∙ is)))

-- ---- what is owed before

-- the directory isn't what goes
other_number : (row gone : Row) (name : List ℕ) → row.kind ≡ Directory → option_map (λ (x : ℕ × ℕ). x.0) (name_at row.names name) ≡ Some gone.inode → CanGo gone → (row.inode ≡ gone.inode → row ≡ gone) → row.inode ≢ gone.inode
other_number row gone name directory named (inl w) one same =
    let none : name_at row.names name ≡ None = ap (λ (r : Row). name_at r.names name) (one same) ∙ w.1 name in
    let clash : None ≡ Some gone.inode = sym (ap (λ (o : Option (ℕ × ℕ)). option_map (λ (x : ℕ × ℕ). x.0) o) none) ∙ named in
    cc
other_number row gone name directory named (inr w) one same = let clash : Directory ≡ File = sym directory ∙ ap (λ (r : Row). r.kind) (one same) ∙ w.0 in cc

-- What is known where a name and its inode go.
pub can_cut : {R : Region} {s : Super} {l : Layout} {rows : List Row} {free : FreeLists} {faults : List Fault} {read_only stopped : Bool} → IsKept R s l rows free faults read_only stopped → stopped ≡ false → read_only ≡ false → (cpu : ℕ) → cpu < l.sup.cpus → (place target : ℕ) (name : List ℕ) (d : ℕ) → IsNamedIn (tree_of R rows) rows d place name target
    → (row gone : Row) → slice_get rows place ≡ Some row → slice_get rows target ≡ Some gone → CanGo gone → CanName R l cpu gone.inode row × (row.inode ≢ gone.inode)
can_cut {R} {s} {l} {rows} {free} {faults} {read_only} {stopped} kept runs writes cpu low place target name d spot row gone at gone_at can_go = (
  can_name kept runs writes cpu gone.inode low (row_number kept runs writes gone (stands rows target gone gone_at)) row (stands rows place row at),
  other_number row gone name (spot.directory row at).1 (spot.named row gone at gone_at) can_go (λ same. (
      let up = rows_rise R s l rows free faults read_only stopped kept runs in
      let both : Some row ≡ Some gone = sym (row_at rows place row up at) ∙ ap (row_of rows) same ∙ row_at rows target gone up gone_at in
      cc)),
)

-- ---- why it is refused

-- what the log of a name's directory needs for its removal
pub removal_blocks : (rows : List Row) (d : ℕ) (row : Row) (name : List ℕ) (j time : ℕ) → row_of rows d ≡ Some row → entry_blocks rows d name ≡ needed (row.tail % 4096) (name_entries Remove j name time)
removal_blocks rows d row name j time is = ap (λ (o : Option Row). row_blocks o (name_entries Add 0 name 0)) is

module _ {P : Type 0} (region : P → Region) {n m : Mount P} (same : n ≡ m) (cpu : ℕ) (passed : (tests : Tests) → first_refusal (writing (world_of m) cpu tests) ≡ first_refusal tests) (d : ℕ) (row gone : Row) (is : row_of n.rows d ≡ Some row)
    (name : List ℕ) (time : ℕ) (told : (more : Tests) → first_refusal (rmdir_spot_tests (tree_of (region n.memory) n.rows) d name more) ≡ first_refusal more) where
  abbrev pub rmdir_refusal : Mount P → Option Refusal
  rmdir_refusal k = first_refusal (rmdir_inode_tests (world_of k) (tree_of (region k.memory) k.rows) cpu d name (entry_blocks k.rows d name))

  abbrev count : ℕ
  count = needed (row.tail % 4096) (name_entries Remove gone.inode name time)

  pub rmdir_last : rmdir_refusal n ≡ first_refusal (has_no_space (world_of n) count ∷ [])
  rmdir_last =
      let space = has_no_space (world_of n) (entry_blocks n.rows d name) ∷ [] in
      let passed_here : (ts : Tests) → first_refusal (writing (world_of n) cpu ts) ≡ first_refusal ts = λ ts. subst (λ (k : Mount P). first_refusal (writing (world_of k) cpu ts) ≡ first_refusal ts) (sym same) (passed ts) in
      passed_here (rmdir_spot_tests (tree_of (region n.memory) n.rows) d name space) ∙ told space ∙ ap (λ (k : ℕ). first_refusal (has_no_space (world_of n) k ∷ [])) (removal_blocks n.rows d row name gone.inode time is)
