-- What `set_attr` answers, and what it leaves.
use Rattle.std.proofs.Common.{◌≡◌, ℕ, ◌%◌, ◌≤◌, Bool, true, false, IsTrue, List, [], ◌∷◌, refl, ap, sym, ◌∙◌, subst, Option, Some, None, Result, Err, slice_get, set, ◌/◌, length}
use Rattle.std.proofs.lemmas.Option.{same_Some}
use Rattle.nv_region.specs.Region.{Region}
use Rattle.nv_super.specs.declared.superblock.Super.{Super}
use Rattle.nv_super.specs.declared.faults.Fault.{Fault}
use Rattle.nv_super.specs.Layout.{Layout}
use Rattle.nv_alloc.specs.FreeValue.{FreeLists}
use Rattle.nv_alloc.specs.Taking.{all_blocks}
use Rattle.nv_logpage.specs.Append.{needed}
use Rattle.nv_scan.specs.declared.piece.Row.{Row}
use Rattle.nv_graph.specs.Read.{row_of}
use Rattle.nv_mounted.specs.Held.{Held, Store}
use Rattle.nv_mounted.specs.Mounted.{ShowsSound}
use Rattle.nv_tree.specs.declared.refusal.Refusal.{Refusal}
use Rattle.nv_tree.specs.declared.refusal.Refusal.TheVariants.{Stopped}
use Rattle.nv_tree.specs.Tree.{Node, SameNode}
use Rattle.nv_tree.specs.Calls.{with_attributes}
use Rattle.nv_tree.specs.Refusals.{Tests, first_refusal, has_no_space, writing, IsRefusedBy}
use Rattle.nv_steps.specs.Attributes.{attributes, HasAttributes}
use Rattle.nv_calls.specs.ChangesByNumber.{attributes_inode_blocks, logs_inode_attributes, set_attr_inode_tests}
use Rattle.nv_calls.specs.GrownLogs.{ShowsGrownLog}
use Rattle.nv_calls.specs.Mount.{IsKept, Mount}
use Rattle.nv_calls.specs.Same.{SameMount}
use Rattle.nv_paths.specs.Seen.{node_of, tree_of}
use Rattle.nv_steps.specs.Steps.{LeavesStep, RefusesStep}
use Rattle.nv_calls.specs.World.{world_of}
use Rattle.nv_calls.proofs.Mounts.{kept_when_stopped}
use Rattle.nv_calls.proofs.RowChange.{kept_same}
use Rattle.nv_steps.proofs.RowsAt.{set_same_rows}
use Rattle.nv_calls.proofs.Numbered.{there_goes_on}
use Rattle.nv_calls.proofs.Tests.{space_allows, space_refuses}
use Rattle.std.specs.Option.{option_map, option_map_or}
use Rattle.nv_radix.specs.Pages.{block_at}
use Rattle.nv_names.specs.Names.{Names, name_at}
use Rattle.nv_mounted.specs.Bytes.{byte_in}

-- ---- why it is refused

module _ {P : Type 0} (region : P → Region) {n m : Mount P} (same : n ≡ m) (cpu : ℕ) (passed : (tests : Tests) → first_refusal (writing (world_of m) cpu tests) ≡ first_refusal tests) (i : ℕ) (row : Row) (is : row_of n.rows i ≡ Some row) where
  abbrev tests : Mount P → Option Refusal
  tests k = first_refusal (set_attr_inode_tests (world_of k) (tree_of (region k.memory) k.rows) cpu i (attributes_inode_blocks k.rows i))

  abbrev blocks : ℕ
  blocks = needed (row.tail % 4096) (attributes row.numbers.size 0 0 0 0)

  at_last : tests n ≡ first_refusal (has_no_space (world_of n) blocks ∷ [])
  at_last =
      there_goes_on region same cpu passed i row is (has_no_space (world_of n) (attributes_inode_blocks n.rows i) ∷ [])
      ∙ ap (λ (o : Option Row). first_refusal (has_no_space (world_of n) (option_map_or (λ (r : Row). needed (r.tail % 4096) (attributes r.numbers.size 0 0 0 0)) o 0) ∷ [])) is

  -- No test refuses it where there are enough blocks.
  pub attr_allowed : blocks ≤ all_blocks n.free.pools → tests m ≡ None
  attr_allowed enough = space_allows same tests blocks at_last enough

  -- Where its step was refused, so is the call.
  pub attr_refused : (e : Refusal) → RefusesStep e blocks n.free → IsRefusedBy (tests m) e
  attr_refused e refused = space_refuses same tests blocks at_last e refused

-- ---- what it leaves

-- The log of the inode has grown.
pub attr_logged : {P : Type 0} (region : P → Region) {n m : Mount P} {cpu : ℕ} → n ≡ m → (S : Region) (row : Row) (mode owner group time i : ℕ) → row_of n.rows i ≡ Some row → row.inode ≡ i
    → ((st : Store) (g : Held) → ShowsSound (region n.memory) n.layout st → st row.inode ≡ Some g → ShowsGrownLog S n.layout n.free.pools cpu st row.inode g (attributes row.numbers.size mode owner group time))
    → logs_inode_attributes cpu mode owner group time i (region m.memory) m S
attr_logged {P} region {n} {m} {cpu} same S row mode owner group time i is number grew =
    subst (λ (k : Mount P). logs_inode_attributes cpu mode owner group time i (region k.memory) k S) same (λ node held h shows sound holds.
    let one : node_of (region n.memory) row ≡ node = same_Some _ _ (sym (ap (option_map (node_of (region n.memory))) is) ∙ shows) in
    subst (λ (k : ℕ). ShowsGrownLog S n.layout n.free.pools cpu held k h (attributes node.size mode owner group time)) number
    (subst (λ (nd : Node). ShowsGrownLog S n.layout n.free.pools cpu held row.inode h (attributes nd.size mode owner group time)) one (grew held h sound (subst (λ (k : ℕ). held k ≡ Some h) (sym number) holds))))

-- ---- a step that was refused

-- What is kept then.
pub kept_or_stopped : {P : Type 0} (region : P → Region) {old now : P} {s : Super} {l : Layout} {rows : List Row} {free after : FreeLists} {faults : List Fault} {read_only stopped : Bool} → IsKept (region old) s l rows free faults read_only stopped → stopped ≡ false → read_only ≡ false
    → (place : ℕ) (row new : Row) → slice_get rows place ≡ Some row → (e : Refusal) (stops : Bool) → (IsTrue stops → e ≡ Stopped) → (stops ≡ false → e ≡ Stopped → ⊥) → after.sup ≡ free.sup → ((e ≡ Stopped → ⊥) → LeavesStep old now free after row new)
    → IsKept (region now) s l (set rows place new) after faults read_only stops
kept_or_stopped region {old} {now} {s} {l} {rows} {free} {after} {faults} {read_only} kept runs writes place row new at e true stopped_by goes_by lists leaves = kept_when_stopped (region now) s l (set rows place new) after faults read_only true kept.tables kept.writes (lists ∙ kept.lists) refl
kept_or_stopped {P} region {old} {now} {s} {l} {rows} {free} {after} {faults} {read_only} kept runs writes place row new at e false stopped_by goes_by lists leaves =
    let left = leaves (goes_by refl) in
    subst (λ (q : P). IsKept (region q) s l (set rows place new) after faults read_only false) (sym left.memory) (kept_same kept runs writes place row new at left.row left.free false)

-- And all is as before.
pub unchanged_step : {P : Type 0} {n m : Mount P} → n ≡ m → (now : P) (after : FreeLists) (place : ℕ) (row new : Row) (stops : Bool) → slice_get n.rows place ≡ Some row → n.stopped ≡ false → stops ≡ false → LeavesStep n.memory now n.free after row new
    → SameMount m (record { memory = now; sup = n.sup; layout = n.layout; rows = set n.rows place new; free = after; faults = n.faults; read_only = n.read_only; stopped = stops })
unchanged_step {P} {n} {m} same now after place row new stops at runs off left =
    subst (λ (k : Mount P). SameMount k (record { memory = now; sup = n.sup; layout = n.layout; rows = set n.rows place new; free = after; faults = n.faults; read_only = n.read_only; stopped = stops })) same (record {
      memory = left.memory;
      sup = refl;
      layout = refl;
      rows = set_same_rows n.rows place row new at left.row;
      free = left.free;
      faults = refl;
      read_only = refl;
      stopped = off ∙ sym runs;
    })

abbrev err : {A : Type 0} → Refusal → Result A Refusal
err e = Err e

-- It says that it was stopped where it was.
pub late_reply : {A : Type 0} {C : Type 0} (e : Refusal) (stops : Bool) → (IsTrue stops → e ≡ Stopped) → (stops ≡ false → e ≡ Stopped → ⊥) → (e ≡ Stopped → C) → (IsTrue stops → (err {A = A} e ≡ err {A = A} Stopped) × C) × (err {A = A} e ≡ err {A = A} Stopped → IsTrue stops)
late_reply {A} e true stopped_by goes_by burnt = ((λ on. (ap (λ (r : Refusal). err {A = A} r) (stopped_by on), burnt (stopped_by on))), (λ is. refl))
late_reply {A} e false stopped_by goes_by burnt = ((λ on. absurd (let clash : false ≡ true = on in cc)), (λ is. absurd (goes_by refl (let one : e ≡ Stopped = cc in one))))

-- a refusal that isn't a stop
pub not_stop : (e : Refusal) (stops : Bool) → (IsTrue stops → e ≡ Stopped) → (e ≡ Stopped → ⊥) → stops ≡ false
not_stop e true stopped_by off = absurd (off (stopped_by refl))
not_stop e false stopped_by off = refl

-- The node has the attributes.
pub attributed_node : (R S : Region) {row new : Row} (mode owner group time size : ℕ) → HasAttributes row (record { mode = mode % 4096; size = size; time = time; owner = owner; group = group }) new
    → ((x : ℕ) → byte_in S (block_at row.index (x / 4096)) x ≡ byte_in R (block_at row.index (x / 4096)) x) → SameNode (node_of S new) (with_attributes mode owner group time (node_of R row))
attributed_node R S {row} {new} mode owner group time size has bytes = record {
  kind = has.kind;
  mode = has.mode;
  owner = has.owner;
  group = has.group;
  size = has.size;
  links = has.links;
  time = has.time;
  count = ap (λ (n : Names). length n.names) has.names;
  names = λ q. ap (λ (n : Names). option_map (λ (y : ℕ × ℕ). y.0) (name_at n q)) has.names;
  bytes = λ x below. ap (λ (ix : List (ℕ × Option ℕ)). byte_in S (block_at ix (x / 4096)) x) has.index ∙ bytes x;
}
