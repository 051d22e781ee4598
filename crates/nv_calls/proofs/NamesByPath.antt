-- What a call on the last name of a path answers and makes, by what the call on that name does in the directory where the walk ended.
use Rattle.std.proofs.Common.{◌≡◌, ◌∙◌, ℕ, ◌+◌, ◌++◌, ◌∷◌, [], nat_lt, not, cond, false, inl, inr, is_none, is_some, length, List, ap, sym, subst, refl, Option, Some, None, Result, Ok, Err, OnOk}
use Rattle.std.specs.Option.{option_map_or}
use Rattle.std.proofs.Math.Logic.{∥∥₁_map}
use Rattle.nv_region.specs.Region.{Region}
use Rattle.nv_region.specs.Stops.{Choices, LeavesOnly}
use Rattle.nv_super.specs.declared.kind.Kind.{Kind}
use Rattle.nv_journal.specs.Undo.{undone}
use Rattle.nv_entry.specs.declared.entry.Operation.TheVariants.{Add}
use Rattle.nv_graph.specs.Read.{row_of}
use Rattle.nv_tree.specs.declared.refusal.Refusal.{Refusal}
use Rattle.nv_tree.specs.declared.refusal.Refusal.TheVariants.{BadCpu, Exists, IsDirectory, NotDirectory, NotEmpty, NotFound, ReadOnly}
use Rattle.nv_tree.specs.Path.{IsPath, Says, last_name}
use Rattle.nv_tree.specs.Tree.{Node, SameTree, Tree, found, walk}
use Rattle.nv_tree.specs.Calls.{created, edit, links_at, new_node, on_ok, on_some, put_node, released, removed, unlinked, with_name, without_name}
use Rattle.nv_tree.specs.Refusals.{Path, Tests, World, count_at, create_tests, first_refusal, has_no_slot, has_no_space, is_bad_name, is_directory_at, rmdir_tests, unlink_tests, walk_tests, writing}
use Rattle.nv_steps.specs.NameEntries.{links_entries, name_entries}
use Rattle.nv_paths.specs.Directories.{name_tests, named_in}
use Rattle.nv_paths.specs.Seen.{LeadsTo, tree_of}
use Rattle.nv_paths.proofs.CreateTests.{last_is_name, long_text, said_names}
use Rattle.nv_paths.proofs.Directories.{found_there, tests_by_path}
use Rattle.nv_calls.specs.LinkCalls.{links_blocks}
use Rattle.nv_calls.specs.Mount.{Mount}
use Rattle.nv_calls.specs.NameCalls.{create_blocks, ended_row, name_blocks, row_blocks, table_growth}
use Rattle.nv_calls.specs.NamesByNumber.{StandsFor, create_inode_blocks, create_inode_tests, created_in, entry_blocks, removed_in, rmdir_inode_tests, unlink_inode_blocks, unlink_inode_tests, unlinked_in}
use Rattle.nv_calls.specs.Stopped.{StopGrows}
use Rattle.nv_calls.specs.UnlinkCalls.{has_more_links, unlink_blocks}
use Rattle.nv_calls.specs.World.{world_of}

-- ---- where the walk ended

-- told of a mount, by what it is equal to
pub same_end : {P : Type 0} (region : P → Region) {n m : Mount P} → n ≡ m → (d : ℕ) (text : List ℕ) → ((names : List (List ℕ)) → IsPath text names → walk (tree_of (region n.memory) n.rows) 1 names ≡ Ok d)
    → (names : List (List ℕ)) → IsPath text names → walk (tree_of (region m.memory) m.rows) 1 names ≡ Ok d
same_end {P} region same d text ended = subst (λ (k : Mount P). (names : List (List ℕ)) → IsPath text names → walk (tree_of (region k.memory) k.rows) 1 names ≡ Ok d) same ended

-- What holds of a directory and a name holds of the path's last name where its walk ended.
pub at_ended : (t : Tree) (names : List (List ℕ)) {d e : ℕ} {name : List ℕ} → walk t 1 names ≡ Ok d → walk t 1 names ≡ Ok e → name ≡ last_name names → (Q : ℕ → List ℕ → Type 0) → Q d name → Q e (last_name names)
at_ended t names {d} {e} {name} ended walked last Q holds =
    let both : Ok d ≡ Ok e = sym ended ∙ walked in
    let one : d ≡ e = cc in
    subst (λ (k : ℕ). Q k (last_name names)) one (subst (Q d) last holds)

-- tests behind those of each writing call
pub under_writing : (w : World) (cpu : ℕ) (a b : Tests) → first_refusal a ≡ first_refusal b → first_refusal (writing w cpu a) ≡ first_refusal (writing w cpu b)
under_writing w cpu a b same = ap (λ (o : Option Refusal). cond (not (nat_lt cpu w.cpus)) (Some BadCpu) (cond w.read_only (Some ReadOnly) o)) same

-- What a stop leaves of a call that makes the same, and no more of the logs, where a table may grow.
pub grown_by : {P : Type 0} (R : Region) (m : Mount P) (cpu : ℕ) {S : Region} {choices : Choices} {made named : Tree} (Logged Named : Region → Type 0) → made ≡ named → ((T : Region) → Logged T → Named T)
    → LeavesOnly S choices (StopGrows cpu R m made Logged) → LeavesOnly S choices (StopGrows cpu R m named Named)
grown_by R m cpu Logged Named same logs leaves left may = ∥∥₁_map (leaves left may) (λ w. (
  w.0,
  w.1,
  w.2,
  elim w.3 [
    | inl before ↦ inl before
    | inr made ↦ inr (record {
      rows = made.rows;
      free = made.free;
      recovers = made.recovers;
      tree = subst (λ (t : Tree). SameTree (tree_of (undone (w.0).sup left) made.rows) t) same made.tree;
      logs = logs (undone (w.0).sup left) made.logs;
    })
  ],
))

-- ---- `create` and `mkdir`

pub created_by_path : (t : Tree) (kind : Kind) (unused : Option ℕ) (d : ℕ) (name : List ℕ) (mode time : ℕ) (names : List (List ℕ)) → walk t 1 names ≡ Ok d → name ≡ last_name names
    → created_in kind unused d name mode time t ≡ created kind unused names mode time t
created_by_path t kind unused d name mode time names ended last =
    ap (λ (q : List ℕ). created_in kind unused d q mode time t) last
    ∙ sym (ap (λ (w : Result ℕ Refusal). on_some unused (λ i. on_ok w (λ e. edit e (with_name (last_name names) i time) (put_node i (Some (new_node kind mode time)) t)) t) t) ended)

module _ {P : Type 0} (region : P → Region) (m : Mount P) (cpu d : ℕ) (text name : List ℕ) (some : (first : List ℕ) × (names : List (List ℕ)) × IsPath text (first ∷ names))
    (ended : (names : List (List ℕ)) → IsPath text names → walk (tree_of (region m.memory) m.rows) 1 names ≡ Ok d) (last : (names : List (List ℕ)) → IsPath text names → name ≡ last_name names) where
  abbrev t : Tree
  t = tree_of (region m.memory) m.rows

  pub create_by_path : (p : Path) → Says text p
      → first_refusal (create_tests (world_of m) t cpu p (create_blocks m.layout m.rows cpu t p)) ≡ first_refusal (create_inode_tests (world_of m) t cpu d name (create_inode_blocks m.layout m.rows cpu d name))
  create_by_path = said_names text (λ (p : Path). first_refusal (create_tests (world_of m) t cpu p (create_blocks m.layout m.rows cpu t p)) ≡ first_refusal (create_inode_tests (world_of m) t cpu d name (create_inode_blocks m.layout m.rows cpu d name))) some (long_text text some) (λ first names path.
      let w = world_of m in
      let ns = first ∷ names in
      let q = last_name ns in
      let count = create_inode_blocks m.layout m.rows cpu d q in
      let more : Option ℕ → Tests = λ o. (is_some o, Exists) ∷ has_no_slot w cpu ∷ has_no_space w count ∷ [] in
      ap (λ (r : Result ℕ Refusal). first_refusal (create_tests w t cpu (Some ns) (table_growth m.layout m.rows cpu + (1 + row_blocks (ended_row m.rows r) (name_entries Add 0 q 0))))) (ended ns path)
      ∙ under_writing w cpu (is_bad_name (Some ns) ∷ walk_tests t (Some ns) ++ more (found t ns)) (name_tests t d q (more (named_in t d q))) (tests_by_path t first names d (ended ns path) more (last_is_name first names path.good))
      ∙ ap (λ (x : List ℕ). first_refusal (create_inode_tests w t cpu d x (create_inode_blocks m.layout m.rows cpu d x))) (sym (last ns path)))

-- ---- calls on a name that is there

-- what holds where a call is done
pub ok_then : {A E : Type 0} (r : Result A E) {P Q : Type 0} → (P → Q) → OnOk r P → OnOk r Q
ok_then (Ok a) then holds = then holds
ok_then (Err e) then holds = tt

-- A path with a name leads to what that name stands for where its walk ended.
pub found_here : (t : Tree) (text : List ℕ) → (first : List ℕ) × (names : List (List ℕ)) × IsPath text (first ∷ names) → (d : ℕ) (name : List ℕ) (names : List (List ℕ)) → IsPath text names → walk t 1 names ≡ Ok d → name ≡ last_name names → found t names ≡ named_in t d name
found_here t text some d name [] path walked last = absurd (long_text text some (ap length path.spells))
found_here t text some d name (first ∷ names) path walked last = found_there t first names d walked ∙ ap (named_in t d) (sym last)

pub stands_for : {t : Tree} {names : List (List ℕ)} {d i : ℕ} {name : List ℕ} {node : Node} → found t names ≡ named_in t d name → LeadsTo t names i node → StandsFor t d name i node
stands_for same led = record { leads = sym same ∙ led.leads; shows = led.shows }

-- a name less, in what is made of the tree before by what it stands for
less_by_path : (t : Tree) (d : ℕ) (name : List ℕ) (time : ℕ) (names : List (List ℕ)) (before : ℕ → Tree) → found t names ≡ named_in t d name → walk t 1 names ≡ Ok d → name ≡ last_name names
    → on_some (named_in t d name) (λ i. edit d (without_name name time) (before i)) t ≡ on_some (found t names) (λ i. on_ok (walk t 1 names) (λ e. edit e (without_name (last_name names) time) (before i)) t) t
less_by_path t d name time names before same ended last =
    ap (λ (q : List ℕ). on_some (named_in t d name) (λ i. edit d (without_name q time) (before i)) t) last
    ∙ sym (ap (λ (o : Option ℕ). on_some o (λ i. on_ok (walk t 1 names) (λ e. edit e (without_name (last_name names) time) (before i)) t) t) same
    ∙ ap (λ (w : Result ℕ Refusal). on_some (named_in t d name) (λ i. on_ok w (λ e. edit e (without_name (last_name names) time) (before i)) t) t) ended)

pub unlinked_by_path : (t : Tree) (d : ℕ) (name : List ℕ) (time : ℕ) (names : List (List ℕ)) → found t names ≡ named_in t d name → walk t 1 names ≡ Ok d → name ≡ last_name names → unlinked_in d name time t ≡ unlinked names time t
unlinked_by_path t d name time names same ended last = less_by_path t d name time names (λ i. released i time t) same ended last

pub removed_by_path : (t : Tree) (d : ℕ) (name : List ℕ) (time : ℕ) (names : List (List ℕ)) → found t names ≡ named_in t d name → walk t 1 names ≡ Ok d → name ≡ last_name names → removed_in d name time t ≡ removed names time t
removed_by_path t d name time names same ended last = less_by_path t d name time names (λ i. put_node i None t) same ended last

module _ {P : Type 0} (region : P → Region) (m : Mount P) (cpu d : ℕ) (text name : List ℕ) (some : (first : List ℕ) × (names : List (List ℕ)) × IsPath text (first ∷ names))
    (ended : (names : List (List ℕ)) → IsPath text names → walk (tree_of (region m.memory) m.rows) 1 names ≡ Ok d) (last : (names : List (List ℕ)) → IsPath text names → name ≡ last_name names) where
  abbrev t' : Tree
  t' = tree_of (region m.memory) m.rows

  pub unlink_by_path : (p : Path) → Says text p
      → first_refusal (unlink_tests (world_of m) t' cpu p (unlink_blocks m.rows t' p)) ≡ first_refusal (unlink_inode_tests (world_of m) t' cpu d name (unlink_inode_blocks m.rows t' d name))
  unlink_by_path = said_names text (λ (p : Path). first_refusal (unlink_tests (world_of m) t' cpu p (unlink_blocks m.rows t' p)) ≡ first_refusal (unlink_inode_tests (world_of m) t' cpu d name (unlink_inode_blocks m.rows t' d name))) some (long_text text some) (λ first names path.
      let w = world_of m in
      let ns = first ∷ names in
      let q = last_name ns in
      let count = unlink_inode_blocks m.rows t' d q in
      let more : Option ℕ → Tests = λ o. (is_none o, NotFound) ∷ (option_map_or (is_directory_at t') o false, IsDirectory) ∷ has_no_space w count ∷ [] in
      ap (λ (r : Result ℕ Refusal). first_refusal (unlink_tests w t' cpu (Some ns) (row_blocks (ended_row m.rows r) (name_entries Add 0 q 0) + cond (has_more_links t' (Some ns)) (links_blocks m.rows t' (Some ns)) 0))) (ended ns path)
      ∙ ap (λ (o : Option ℕ). first_refusal (unlink_tests w t' cpu (Some ns) (entry_blocks m.rows d q + cond (option_map_or (λ i. nat_lt 1 (links_at t' i)) o false) (option_map_or (λ i. row_blocks (row_of m.rows i) (links_entries 0 0)) o 0) 0))) (found_there t' first names d (ended ns path))
      ∙ under_writing w cpu (is_bad_name (Some ns) ∷ walk_tests t' (Some ns) ++ more (found t' ns)) (name_tests t' d q (more (named_in t' d q))) (tests_by_path t' first names d (ended ns path) more (last_is_name first names path.good))
      ∙ ap (λ (x : List ℕ). first_refusal (unlink_inode_tests w t' cpu d x (unlink_inode_blocks m.rows t' d x))) (sym (last ns path)))

  pub rmdir_by_path : (p : Path) → Says text p
      → first_refusal (rmdir_tests (world_of m) t' cpu p (name_blocks m.rows t' p)) ≡ first_refusal (rmdir_inode_tests (world_of m) t' cpu d name (entry_blocks m.rows d name))
  rmdir_by_path = said_names text (λ (p : Path). first_refusal (rmdir_tests (world_of m) t' cpu p (name_blocks m.rows t' p)) ≡ first_refusal (rmdir_inode_tests (world_of m) t' cpu d name (entry_blocks m.rows d name))) some (long_text text some) (λ first names path.
      let w = world_of m in
      let ns = first ∷ names in
      let q = last_name ns in
      let more : Option ℕ → Tests = λ o. (is_none o, NotFound) ∷ (not (option_map_or (is_directory_at t') o false), NotDirectory) ∷ (option_map_or (λ i. nat_lt 0 (count_at t' i)) o false, NotEmpty) ∷ has_no_space w (entry_blocks m.rows d q) ∷ [] in
      ap (λ (r : Result ℕ Refusal). first_refusal (rmdir_tests w t' cpu (Some ns) (row_blocks (ended_row m.rows r) (name_entries Add 0 q 0)))) (ended ns path)
      ∙ under_writing w cpu (is_bad_name (Some ns) ∷ walk_tests t' (Some ns) ++ more (found t' ns)) (name_tests t' d q (more (named_in t' d q))) (tests_by_path t' first names d (ended ns path) more (last_is_name first names path.good))
      ∙ ap (λ (x : List ℕ). first_refusal (rmdir_inode_tests w t' cpu d x (entry_blocks m.rows d x))) (sym (last ns path)))
