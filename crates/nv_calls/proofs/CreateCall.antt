-- What `create` and `mkdir` answer, and what they leave.
use Rattle.std.proofs.Common.{◌≡◌, ℕ, ◌+◌, ◌%◌, ◌<◌, ◌≤◌, Bool, true, false, IsTrue, List, [], ◌∷◌, refl, ap, sym, ◌∙◌, subst, Option, Some, None, Result, slice_get}
use Rattle.std.proofs.Math.Logic.{∥∥₁_map}
use Rattle.nv_region.specs.Region.{Region}
use Rattle.nv_super.specs.declared.superblock.Super.{Super}
use Rattle.nv_super.specs.declared.faults.Fault.{Fault}
use Rattle.nv_super.specs.declared.kind.Kind.{Kind}
use Rattle.nv_super.specs.declared.kind.Kind.TheVariants.{Directory}
use Rattle.nv_super.specs.declared.owners.Run.{Run}
use Rattle.nv_super.specs.Layout.{Layout}
use Rattle.nv_inode.specs.Numbers.{has_slot}
use Rattle.nv_super.proofs.Members.{stands}
use Rattle.nv_alloc.specs.FreeValue.{FreeLists}
use Rattle.nv_alloc.specs.Taking.{all_blocks}
use Rattle.nv_entry.specs.declared.entry.Operation.TheVariants.{Add}
use Rattle.nv_logpage.specs.Append.{needed}
use Rattle.nv_scan.specs.declared.piece.Row.{Row}
use Rattle.nv_cross_check.specs.Cross.{row_key}
use Rattle.nv_outcome.specs.Same.{SameRows}
use Rattle.nv_outcome.proofs.SameRows.{from_first, from_second, rises_too}
use Rattle.nv_graph.specs.Read.{row_of}
use Rattle.nv_graph.specs.Step.{IsGoodName}
use Rattle.nv_mounted.specs.Held.{Held, Store}
use Rattle.nv_mounted.specs.Blocks.{KeepsFree}
use Rattle.nv_mounted.specs.Mounted.{IsMounted, ShowsSound}
use Rattle.nv_tree.specs.declared.refusal.Refusal.{Refusal}
use Rattle.nv_tree.specs.declared.refusal.Refusal.TheVariants.{Stopped}
use Rattle.nv_tree.specs.Path.{IsPathName}
use Rattle.nv_tree.specs.Tree.{Node, SameNode, SameTree}
use Rattle.nv_tree.specs.Calls.{edit, new_node, put_node, with_name}
use Rattle.nv_tree.specs.Refusals.{Tests, first_refusal, has_no_space, writing, IsRefusedBy}
use Rattle.nv_calls.specs.Mount.{IsKept, Mount}
use Rattle.nv_calls.specs.NameCalls.{ShowsCreated, WasCreated, row_blocks, table_growth}
use Rattle.nv_calls.specs.NamesByNumber.{create_inode_blocks, create_inode_tests, created_in, entry_blocks}
use Rattle.nv_steps.specs.NameEntries.{name_entries}
use Rattle.nv_calls.specs.AtPlaces.{CreatesAt, LeavesRows}
use Rattle.nv_calls.specs.Growing.{CreatesGrown, grown_blocks}
use Rattle.nv_paths.specs.Directories.{IsDirectoryAt, spot_tests}
use Rattle.nv_paths.specs.Spots.{IsNoneNamed, IsSpot, new_number}
use Rattle.nv_calls.specs.Same.{SameMount}
use Rattle.nv_paths.specs.Seen.{node_of, tree_of}
use Rattle.nv_steps.specs.Steps.{RefusesStep}
use Rattle.nv_tree.proofs.Same.{edit_kept, name_kept, put_kept, same_node, same_transitive}
use Rattle.nv_calls.specs.World.{world_of}
use Rattle.nv_calls.proofs.CreatedRows.{bytes_kept, kept_then, mounted_then, name_absent, was_created}
use Rattle.nv_calls.proofs.CreatedTree.{made_tree, named_node, new_node_is, tree_then}
use Rattle.nv_paths.proofs.CreateTests.{good_name}
use Rattle.nv_calls.proofs.Kept.{rows_rise}
use Rattle.nv_calls.proofs.GrownMount.{got_gives, got_has, got_kept, got_mounted, got_tree}
use Rattle.nv_calls.proofs.Mounts.{kept_of_mounted, kept_when_stopped, mounted_of_kept, mounted_with}
use Rattle.nv_calls.proofs.NewNumbers.{named_number, new_unused}
use Rattle.nv_calls.proofs.RowChange.{keeps_same}
use Rattle.nv_calls.proofs.Tests.{space_allows, space_refuses}

-- where a new inode goes
pub record GoesTo (rows : List Row) (d place : ℕ) (name : List ℕ) : Type 0 where
  pub directory : IsDirectoryAt rows d place
  pub absent : (row : Row) → slice_get rows place ≡ Some row → IsNoneNamed rows row name

-- ---- where its number has a slot

module _ {R S : Region} {s : Super} {l : Layout} {rows news : List Row} {free after : FreeLists} {faults : List Fault} {read_only stopped : Bool} (kept : IsKept R s l rows free faults read_only stopped) (runs : stopped ≡ false) (writes : read_only ≡ false)
    {place : ℕ} {kind : Kind} {cpu mode time j : ℕ} {name : List ℕ} (step : CreatesAt R S l free after cpu rows news place kind mode time j name) (number : IsTrue (has_slot l j)) (unused : row_of rows j ≡ None) (spelled : IsPathName name) (d : ℕ) (goes : GoesTo rows d place name) where
  directory : step.row.kind ≡ Directory
  directory = (goes.directory step.row step.at).1

  is_there : step.row.inode ≡ d
  is_there = (goes.directory step.row step.at).0

  good : IsGoodName l.sup j name
  good = good_name l.sup j name spelled (named_number kept runs writes j number)

  absent : IsNoneNamed rows step.row name
  absent = goes.absent step.row step.at

  step_mounted : (held : Store) (m : IsMounted R l held rows free.pools) → (then : Store) × IsMounted S l then news after.pools
  step_mounted held m = (_, mounted_then kept runs writes step directory good unused absent held m)

  step_kept : (now : Bool) → IsKept S s l news after faults read_only now
  step_kept = kept_then kept runs writes step directory good unused absent

  step_tree : SameTree (tree_of S news) (created_in kind (Some j) d name mode time (tree_of R rows))
  step_tree =
      let made = step.step in
      let new = made.row in
      let here = stands rows place step.row step.at in
      let there : step.made.inode ≡ j = new.inode in
      let same = subst (λ (i : ℕ). SameTree (tree_of S news) (made_tree R rows step.row i kind mode time name)) there
      (tree_then R S rows news place step.row step.now step.made kind mode time name (rows_rise R s l rows free faults read_only stopped kept runs) step.at number_stays step.put (ap (row_of rows) there ∙ unused)
      (subst (λ (i : ℕ). SameNode (node_of S step.now) (with_name name i time (node_of R step.row))) (sym there)
      (named_node R S made.fresh _ name j _ time made.directory made.once made.once_now (name_absent kept runs writes step.row here name absent) (bytes_kept kept runs writes step directory good unused absent step.row here)))
      (new_node_is S j kind mode time made.page _ new) (bytes_kept kept runs writes step directory good unused absent)) in
      subst (λ (k : ℕ). SameTree (tree_of S news) (edit k (with_name name j time) (put_node j (Some (new_node kind mode time)) (tree_of R rows)))) is_there same
    where
      number_stays : step.now.inode ≡ step.row.inode
      number_stays = let made = step.step in let dir = made.directory in dir.inode

  step_logged : (held : Store) (m : IsMounted R l held rows free.pools) (h : Held) → held d ≡ Some h → WasCreated S l free.pools cpu held kind mode time j d h name
  step_logged held m h is = subst (λ (k : ℕ). WasCreated S l free.pools cpu held kind mode time j k h name) is_there (was_created kept runs writes step directory good unused absent held m h (ap held is_there ∙ is))

-- ---- once the number has got one

module _ {R S : Region} {s : Super} {l grown : Layout} {rows news : List Row} {free after : FreeLists} {faults : List Fault} {read_only stopped : Bool} (kept : IsKept R s l rows free faults read_only stopped) (runs : stopped ≡ false) (writes : read_only ≡ false)
    {place : ℕ} {kind : Kind} {cpu mode time j : ℕ} {name : List ℕ} (step : CreatesGrown R S l grown free after cpu rows news place kind mode time j name) (low : cpu < l.sup.cpus) (spelled : IsPathName name) (d : ℕ) (spot : IsSpot rows l cpu d place name j) where
  abbrev mid : Region
  mid = step.mid

  kept_mid : IsKept mid s grown rows step.between faults read_only stopped
  kept_mid = got_kept kept runs writes step.got stopped

  same_tree : SameTree (tree_of mid rows) (tree_of R rows)
  same_tree = got_tree kept runs writes step.got

  unused : row_of rows j ≡ None
  unused = new_unused kept runs writes cpu j low spot.unused

  goes : GoesTo rows d place name
  goes = record { directory = spot.directory; absent = spot.absent }

  -- What is mounted, for what is held of the region of before.
  pub created_mounted : (held : Store) (m : IsMounted R l held rows free.pools) → (then : Store) × IsMounted S grown then news after.pools
  created_mounted held m = step_mounted kept_mid runs writes step.step (got_has step.got) unused spelled d goes held (got_mounted m step.got)

  -- What is kept.
  pub created_kept : (now : Bool) → IsKept S s grown news after faults read_only now
  created_kept = step_kept kept_mid runs writes step.step (got_has step.got) unused spelled d goes

  -- The tree is what the call makes of that of before.
  pub created_tree : SameTree (tree_of S news) (created_in kind (new_number l rows cpu) d name mode time (tree_of R rows))
  created_tree =
      let new : Option Node = Some (new_node kind mode time) in
      subst (λ (o : Option ℕ). SameTree (tree_of S news) (created_in kind o d name mode time (tree_of R rows))) (sym spot.unused)
      (same_transitive (tree_of S news) (created_in kind (Some j) d name mode time (tree_of mid rows)) (created_in kind (Some j) d name mode time (tree_of R rows))
      (step_tree kept_mid runs writes step.step (got_has step.got) unused spelled d goes)
      (edit_kept (put_node j new (tree_of mid rows)) (put_node j new (tree_of R rows)) d (with_name name j time) (with_name name j time) (name_kept name j time)
      (put_kept (tree_of mid rows) (tree_of R rows) j new new (same_node (new_node kind mode time)) same_tree)))

  -- The logs, for whatever is held of the region.
  pub created_log : (i : ℕ) (held : Store) (h : Held) → new_number l rows cpu ≡ Some i → ShowsSound R l held → held d ≡ Some h → ShowsCreated S l free.pools cpu held kind mode time i d h name
  created_log i held h free_number sound is =
      let numbers : Some j ≡ Some i = sym spot.unused ∙ free_number in
      let one : j ≡ i = cc in
      subst (λ (k : ℕ). ShowsCreated S l free.pools cpu held kind mode time k d h name) one
      (∥∥₁_map (mounted_with kept runs held sound) (λ m. (
        grown,
        step.between.pools,
        got_gives step.got,
        step_logged kept_mid runs writes step.step (got_has step.got) unused spelled d goes held (got_mounted m step.got) h is,
      )))

-- ---- why it is refused

module _ {P : Type 0} (region : P → Region) {n m : Mount P} (same : n ≡ m) (cpu : ℕ) (passed : (tests : Tests) → first_refusal (writing (world_of m) cpu tests) ≡ first_refusal tests) (d : ℕ) (row : Row) (is : row_of n.rows d ≡ Some row)
    (name : List ℕ) (j time : ℕ) (told : (more : Tests) → first_refusal (spot_tests (tree_of (region n.memory) n.rows) (new_number n.layout n.rows cpu) d name more) ≡ first_refusal more)
    (growth : table_growth n.layout n.rows cpu ≡ grown_blocks n.layout j) where
  abbrev tests : Mount P → Option Refusal
  tests k = first_refusal (create_inode_tests (world_of k) (tree_of (region k.memory) k.rows) cpu d name (create_inode_blocks k.layout k.rows cpu d name))

  abbrev count : ℕ
  count = grown_blocks n.layout j + (1 + needed (row.tail % 4096) (name_entries Add j name time))

  blocks_there : create_inode_blocks n.layout n.rows cpu d name ≡ count
  blocks_there = ap (λ (k : ℕ). k + (1 + entry_blocks n.rows d name)) growth ∙ ap (λ (o : Option Row). grown_blocks n.layout j + (1 + row_blocks o (name_entries Add 0 name 0))) is

  at_last : tests n ≡ first_refusal (has_no_space (world_of n) count ∷ [])
  at_last =
      let space = has_no_space (world_of n) (create_inode_blocks n.layout n.rows cpu d name) ∷ [] in
      let passed_here : (ts : Tests) → first_refusal (writing (world_of n) cpu ts) ≡ first_refusal ts = λ ts. subst (λ (k : Mount P). first_refusal (writing (world_of k) cpu ts) ≡ first_refusal ts) (sym same) (passed ts) in
      passed_here (spot_tests (tree_of (region n.memory) n.rows) (new_number n.layout n.rows cpu) d name space) ∙ told space ∙ ap (λ (k : ℕ). first_refusal (has_no_space (world_of n) k ∷ [])) blocks_there

  -- No test refuses it where there are enough blocks.
  pub create_allowed : count ≤ all_blocks n.free.pools → tests m ≡ None
  create_allowed = space_allows same tests count at_last

  -- Where its step was refused, so is the call.
  pub create_refused : (e : Refusal) → RefusesStep e count n.free → IsRefusedBy (tests m) e
  create_refused = space_refuses same tests count at_last

-- ---- a step that was refused

mounted_same : {R : Region} {l : Layout} {rows news : List Row} {pools lists : List (List Run)} (held : Store) → IsMounted R l held rows pools → SameRows rows news → lists ≡ pools → IsMounted R l held news lists
mounted_same {R} {l} {rows} {news} {pools} {lists} held m same free =
    let keeps = m.keeps in
    let in_rows = keeps.in_rows in
    record {
      sound = m.sound;
      keeps = record {
        in_rows = record {
          rising = rises_too row_key (λ a b one. ap (λ (n : ℕ). n ∷ []) (sym one.inode)) rows news same in_rows.rising;
          each = λ r c. (let w = from_second rows news same r c in let k = in_rows.each w.0 w.1 in let one = w.2 in (k.0, ap held one.inode ∙ k.1, keeps_same l k.0 w.0 r one k.2));
          all = λ i h is. (let k = in_rows.all i h is in let w = from_first rows news same k.0 k.1 in let one = w.2 in (w.0, w.1, one.inode ∙ k.2));
        };
        in_lists = subst (λ (all : List (List Run)). KeepsFree l held all) (sym free) keeps.in_lists;
      };
    }

-- what is kept where rows are the same
pub kept_or_stopped : {P : Type 0} (region : P → Region) {old now : P} {s : Super} {l : Layout} {rows news : List Row} {free after : FreeLists} {faults : List Fault} {read_only stopped : Bool} → IsKept (region old) s l rows free faults read_only stopped → stopped ≡ false → read_only ≡ false
    → (e : Refusal) (stops : Bool) → (IsTrue stops → e ≡ Stopped) → (stops ≡ false → e ≡ Stopped → ⊥) → after.sup ≡ free.sup → ((e ≡ Stopped → ⊥) → LeavesRows old now free after rows news) → IsKept (region now) s l news after faults read_only stops
kept_or_stopped region {old} {now} {s} {l} {rows} {news} {free} {after} {faults} {read_only} kept runs writes e true stopped_by goes_by lists leaves = kept_when_stopped (region now) s l news after faults read_only true kept.tables kept.writes (lists ∙ kept.lists) refl
kept_or_stopped {P} region {old} {now} {s} {l} {rows} {news} {free} {after} {faults} {read_only} kept runs writes e false stopped_by goes_by lists leaves =
    let left = leaves (goes_by refl) in
    subst (λ (q : P). IsKept (region q) s l news after faults read_only false) (sym left.memory)
    (kept_of_mounted (region old) s l news after faults read_only false kept.tables kept.writes writes (lists ∙ kept.lists) (∥∥₁_map (mounted_of_kept kept runs writes) (λ w. (w.0, mounted_same w.0 w.1 left.rows left.free.pools))))

-- And all is as before.
pub unchanged_rows : {P : Type 0} {n m : Mount P} → n ≡ m → (now : P) (news : List Row) (after : FreeLists) (stops : Bool) → n.stopped ≡ false → stops ≡ false → LeavesRows n.memory now n.free after n.rows news
    → SameMount m (record { memory = now; sup = n.sup; layout = n.layout; rows = news; free = after; faults = n.faults; read_only = n.read_only; stopped = stops })
unchanged_rows {P} {n} {m} same now news after stops runs off left =
    subst (λ (k : Mount P). SameMount k (record { memory = now; sup = n.sup; layout = n.layout; rows = news; free = after; faults = n.faults; read_only = n.read_only; stopped = stops })) same (record {
      memory = left.memory;
      sup = refl;
      layout = refl;
      rows = left.rows;
      free = left.free;
      faults = refl;
      read_only = refl;
      stopped = off ∙ sym runs;
    })
