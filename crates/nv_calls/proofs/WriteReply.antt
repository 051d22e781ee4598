-- What `write` answers, and what it leaves.
use Rattle.std.proofs.Common.{◌≡◌, ℕ, ◌+◌, ◌/◌, ◌<◌, ◌≤◌, inl, inr, min, Bool, true, false, nat_lt, List, [], ◌∷◌, ◌++◌, length, ap, sym, ◌∙◌, subst, arith, Option, Some, None, slice_get}
use Rattle.std.specs.List.{Contains}
use Rattle.std.specs.Option.{option_map}
use Rattle.std.proofs.Math.Logic.{∥∥₁_elim, ∥∥₁_map}
use Rattle.std.proofs.Math.Nat.{ℕ_set}
use Rattle.std.proofs.Props.{props}
use Rattle.std.proofs.lemmas.Bool.{cases_lt}
use Rattle.std.proofs.lemmas.Bool.Decides.{nat_tests}
use Rattle.std.proofs.lemmas.Option.{same_Some}
use Rattle.nv_region.specs.Region.{Region}
use Rattle.nv_super.specs.declared.superblock.Super.{Super}
use Rattle.nv_super.specs.declared.faults.Fault.{Fault}
use Rattle.nv_super.specs.Layout.{Layout}
use Rattle.nv_alloc.specs.FreeValue.{FreeLists}
use Rattle.nv_alloc.specs.Taking.{Takes, all_blocks}
use Rattle.nv_bytes.specs.Bytes.{byte_after, file_byte}
use Rattle.nv_names.specs.Names.{Names, name_at}
use Rattle.nv_radix.specs.Pages.{block_at}
use Rattle.nv_scan.specs.State.{block_of}
use Rattle.nv_scan.specs.declared.numbers.Numbers.{Numbers}
use Rattle.nv_scan.specs.declared.piece.Row.{Row}
use Rattle.nv_graph.specs.Read.{row_of}
use Rattle.nv_mounted.specs.Held.{Held, Store, good_in}
use Rattle.nv_mounted.specs.Mounted.{ShowsSound}
use Rattle.nv_tree.specs.declared.refusal.Refusal.{Refusal}
use Rattle.nv_tree.specs.declared.refusal.Refusal.TheVariants.{IsDirectory}
use Rattle.nv_tree.specs.Tree.{Node, SameNode, SameTree, Tree}
use Rattle.nv_tree.specs.Calls.{edit, with_bytes}
use Rattle.nv_tree.specs.Refusals.{Path, Tests, first_refusal, has_no_space, is_dir, is_directory_at, is_too_large, stat_tests, writing, IsRefusedBy, MayWantMemory}
use Rattle.nv_tree.proofs.Same.{same_itself}
use Rattle.nv_calls.specs.GrownLogs.{LogGrew}
use Rattle.nv_calls.specs.Mount.{IsKept, Mount}
use Rattle.nv_paths.specs.Seen.{node_of, tree_of}
use Rattle.nv_calls.specs.World.{world_of}
use Rattle.nv_steps.specs.Writes.{NeedsBlocks, data_blocks, data_entries, plan_of}
use Rattle.nv_steps.specs.Zeros.{ZerosFrom}
use Rattle.nv_steps.specs.Written.{RefusesWrite, WritesFile}
use Rattle.nv_calls.specs.ByNumber.{is_unused}
use Rattle.nv_calls.specs.ChangesByNumber.{WriteInodeNeeds, resize_inode_tests, write_inode_tests, written_inode}
use Rattle.nv_calls.specs.WriteCall.{ShowsLogWrite}
use Rattle.nv_steps.specs.declared.planning.Plan.{Plan}
use Rattle.nv_calls.proofs.Mounts.{mounted_of_kept, mounted_with}
use Rattle.nv_calls.proofs.OneRow.{shows_row}
use Rattle.nv_super.proofs.Members.{stands}
use Rattle.nv_calls.proofs.RowChange.{log_grew}
use Rattle.nv_calls.proofs.SetSize.{front_tests}
use Rattle.nv_calls.proofs.Numbered.{file_allows, file_refuses}
use Rattle.nv_calls.proofs.Tests.{enough_space, space_allows, too_few, space_last}

-- ---- the tests

-- a sum that doesn't fit is too large too
large_test : (sum given : ℕ) → given ≡ min sum 18446744073709551615 → nat_lt 1073741824 sum ≡ nat_lt 1073741824 given
large_test sum given is = elim (cases_lt 1073741824 sum) [
  | inl large ↦ is_large sum large ∙ sym (is_large given (omega (arith, is, large)))
  | inr small ↦ is_small sum small ∙ sym (is_small given (omega (arith, is, small)))
] where
  is_large : (n : ℕ) → 1073741824 < n → nat_lt 1073741824 n ≡ true
  is_large n large = grind (arith, nat_tests)

  is_small : (n : ℕ) → n ≤ 1073741824 → nat_lt 1073741824 n ≡ false
  is_small n small = grind (arith, nat_tests)

pub large_of_inode : (offset count given : ℕ) → given ≡ min (offset + count) 18446744073709551615 → (t : Tree) (i : ℕ) → first_refusal (resize_inode_tests t i (offset + count)) ≡ first_refusal (resize_inode_tests t i given)
large_of_inode offset count given is t i = ap (λ (b : Bool). first_refusal (is_unused t i ∷ (is_directory_at t i, IsDirectory) ∷ (b, (is_too_large 0).1) ∷ [])) (large_test (offset + count) given is)

-- the same of the file that a path leads to
pub large_same : (offset count given : ℕ) → given ≡ min (offset + count) 18446744073709551615 → (t : Tree) (p : Path) → first_refusal (front_tests t p (offset + count)) ≡ first_refusal (front_tests t p given)
large_same offset count given is t p = ap (λ (b : Bool). first_refusal (stat_tests t p ++ is_dir t p ∷ (b, (is_too_large 0).1) ∷ [])) (large_test (offset + count) given is)

module _ {P : Type 0} (region : P → Region) {n m : Mount P} (same : n ≡ m) (cpu end count : ℕ) (passed : (tests : Tests) → first_refusal (writing (world_of m) cpu tests) ≡ first_refusal tests) (i : ℕ) where
  abbrev tests : Mount P → Option Refusal
  tests k = first_refusal (write_inode_tests (world_of k) (tree_of (region k.memory) k.rows) cpu i end count)

  -- What refuses the file refuses the call.
  pub write_front : (e : Refusal) → first_refusal (resize_inode_tests (tree_of (region n.memory) n.rows) i end) ≡ Some e → tests m ≡ Some e
  write_front e h = subst (λ (k : Mount P). tests k ≡ Some e) same (file_refuses region same cpu end count passed i e h)

  module _ (none : first_refusal (resize_inode_tests (tree_of (region n.memory) n.rows) i end) ≡ None) where
    at_last : tests n ≡ first_refusal (has_no_space (world_of n) count ∷ [])
    at_last = file_allows region same cpu end count passed i none

    -- Where nothing is needed no test refuses it.
    pub write_none : count ≡ 0 → tests m ≡ None
    write_none nothing = subst (λ (k : Mount P). tests k ≡ None) same (at_last ∙ enough_space (world_of n) count (omega (arith, nothing)))

    module _ (row : Row) (is : row_of n.rows i ≡ Some row) (offset bytes time : ℕ) (some : 0 < bytes) (needs : WriteInodeNeeds m cpu i offset bytes time count) where
      abbrev plan : Plan
      plan = plan_of (block_at row.index) row.numbers.size offset bytes time

      needed_here : NeedsBlocks n.free.pools cpu row.tail plan count
      needed_here = (subst (λ (k : Mount P). WriteInodeNeeds k cpu i offset bytes time count) (sym same) needs).some some row is

      -- No test refuses it where there are enough blocks.
      pub write_allowed : ((k : ℕ) → NeedsBlocks n.free.pools cpu row.tail plan k → k ≤ all_blocks n.free.pools) → tests m ≡ None
      write_allowed enough = space_allows same tests count at_last (enough count needed_here)

      -- Where its step was refused, so is the call.
      pub write_refused : (e : Refusal) → RefusesWrite e n.free cpu row.tail plan → IsRefusedBy (tests m) e
      write_refused e (inl memory) = inl (memory, subst (λ (k : Mount P). MayWantMemory (tests k)) same (subst MayWantMemory (sym at_last) (space_last (world_of n) count)))
      write_refused e (inr (inl stopped)) = inr (inl stopped)
      write_refused e (inr (inr w)) = inr (inr (subst (λ (k : Mount P). tests k ≡ Some e) same (at_last ∙ too_few (world_of n) count (w.1 count needed_here) ∙ ap (λ (r : Refusal). Some r) (sym w.0))))

-- ---- what it leaves

-- no bytes change nothing
pub none_written : (i offset : ℕ) (new : List ℕ) (time : ℕ) (t : Tree) → length new ≡ 0 → SameTree t (written_inode i offset new time t)
none_written i offset [] time t none = same_itself t
none_written i offset (b ∷ new) time t none = absurd (omega (arith, none))

-- The tree with the file changed is what the call makes of it.
pub some_written : (i offset : ℕ) (new : List ℕ) (time : ℕ) (t u : Tree) → 0 < length new → SameTree u (edit i (with_bytes offset new time) t) → SameTree u (written_inode i offset new time t)
some_written i offset [] time t u some is = absurd (omega (arith, some))
some_written i offset (b ∷ new) time t u some is = is

module _ {R S : Region} {s : Super} {l : Layout} {rows : List Row} {free after : FreeLists} {faults : List Fault} {read_only stopped : Bool} (kept : IsKept R s l rows free faults read_only stopped) (runs : stopped ≡ false) (writes : read_only ≡ false)
    (place : ℕ) (row : Row) (at : slice_get rows place ≡ Some row) {cpu : ℕ} {plan : Plan} {offset : ℕ} {new : List ℕ} {now : Row} (w : WritesFile R S l free after cpu plan offset new row now) where
  -- Each byte is the new one, or what it was, or zero.
  pub write_bytes : (x : ℕ) → x < plan.size → file_byte S now.index x ≡ byte_after offset new row.numbers.size (file_byte R row.index) x
  write_bytes x inside = ∥∥₁_elim (mounted_of_kept kept runs writes) prop (λ v. (let shown = shows_row v.1 kept.lists row (stands rows place row at) in w.bytes v.0 shown.0 shown.1 x inside)) where
    prop : IsProp (file_byte S now.index x ≡ byte_after offset new row.numbers.size (file_byte R row.index) x)
    prop = hlevel (props, ℕ_set)

  -- The log of its inode, for whatever is held of the region.
  pub write_log : (held : Store) (h : Held) → ShowsSound R l held → held row.inode ≡ Some h → ∥ (LogGrew S l w.rest cpu held row.inode h (data_entries plan w.runs)) ∥₁
  write_log held h sound is = log_grew kept runs writes place row now at (data_entries plan w.runs) (λ st g shows. w.follows st g shows) held h sound is

-- The node has the new bytes.
pub written_node : (R S : Region) {l : Layout} {free after : FreeLists} {cpu : ℕ} {plan : Plan} {offset : ℕ} {new : List ℕ} {row now : Row} (time : ℕ) → WritesFile R S l free after cpu plan offset new row now
    → plan ≡ plan_of (block_at row.index) row.numbers.size offset (length new) time → ((x : ℕ) → x < plan.size → file_byte S now.index x ≡ byte_after offset new row.numbers.size (file_byte R row.index) x)
    → SameNode (node_of S now) (with_bytes offset new time (node_of R row))
written_node R S time w planned bytes = record {
  kind = w.kind;
  mode = ap (λ (n : Numbers). n.mode) w.numbers;
  owner = ap (λ (n : Numbers). n.owner) w.numbers;
  group = ap (λ (n : Numbers). n.group) w.numbers;
  size = ap (λ (n : Numbers). n.size) w.numbers ∙ ap (λ (q : Plan). q.size) planned;
  links = ap (λ (n : Numbers). n.links) w.numbers;
  time = ap (λ (n : Numbers). n.time) w.numbers ∙ ap (λ (q : Plan). q.time) planned;
  count = ap (λ (n : Names). length n.names) w.names;
  names = λ q. ap (λ (n : Names). option_map (λ (y : ℕ × ℕ). y.0) (name_at n q)) w.names;
  bytes = λ x below. bytes x (subst (λ (z : ℕ). x < z) (ap (λ (n : Numbers). n.size) w.numbers) below);
}

plan_same : (f g : ℕ → Option ℕ) (size offset count time : ℕ) → f (size / 4096) ≡ g (size / 4096) → plan_of f size offset count time ≡ plan_of g size offset count time
plan_same f g size offset count time same = ap (λ (o : Option ℕ). plan_of (λ q. o) size offset count time) same

-- The log of the file has grown.
pub write_logged : {P : Type 0} (region : P → Region) {n m : Mount P} → n ≡ m → {S : Region} {after : FreeLists} {cpu : ℕ} {plan : Plan} {offset : ℕ} {new : List ℕ} {row now : Row} (time i : ℕ) (node : Node) (held : Store) (h : Held)
    → IsKept (region n.memory) n.sup n.layout n.rows n.free n.faults n.read_only n.stopped → n.stopped ≡ false → Contains n.rows row → row_of n.rows i ≡ Some row → row.inode ≡ i
    → (w : WritesFile (region n.memory) S n.layout n.free after cpu plan offset new row now) → plan ≡ plan_of (block_at row.index) row.numbers.size offset (length new) time
    → ((st : Store) (g : Held) → ShowsSound (region n.memory) n.layout st → st row.inode ≡ Some g → ∥ (LogGrew S n.layout w.rest cpu st row.inode g (data_entries plan w.runs)) ∥₁)
    → tree_of (region m.memory) m.rows i ≡ Some node → ShowsSound (region m.memory) m.layout held → held i ≡ Some h
    → ShowsLogWrite S m cpu held i h (plan_of (block_of (good_in m.layout h)) node.size offset (length new) time)
write_logged {P} region {n} {m} same {S} {after} {cpu} {plan} {offset} {new} {row} {now} time i node held h kept runs there at number w planned grew shows sound is =
    subst (λ (k : Mount P). tree_of (region k.memory) k.rows i ≡ Some node → ShowsSound (region k.memory) k.layout held → ShowsLogWrite S k cpu held i h (plan_of (block_of (good_in k.layout h)) node.size offset (length new) time)) same here shows sound
  where
    here : tree_of (region n.memory) n.rows i ≡ Some node → ShowsSound (region n.memory) n.layout held → ShowsLogWrite S n cpu held i h (plan_of (block_of (good_in n.layout h)) node.size offset (length new) time)
    here shows sound =
        let node_is : node_of (region n.memory) row ≡ node = same_Some _ _ (sym (ap (option_map (node_of (region n.memory))) at) ∙ shows) in
        let size_is : row.numbers.size ≡ node.size = ap (λ (x : Node). x.size) node_is in
        ∥∥₁_map (mounted_with kept runs held sound) (λ mounted. (
        let shown = shows_row {free = n.free} mounted kept.lists row there in
        let v = shown.1 in
        let both : Some shown.0 ≡ Some h = sym v.holds ∙ ap held number ∙ is in
        let one : shown.0 ≡ h = same_Some _ _ both in
        let told = v.told in
        let index : block_at row.index (row.numbers.size / 4096) ≡ block_of (good_in n.layout h) (row.numbers.size / 4096) = subst (λ (g : Held). block_at row.index (row.numbers.size / 4096) ≡ block_of (good_in n.layout g) (row.numbers.size / 4096)) one (told.index (row.numbers.size / 4096)) in
        let equal : plan ≡ plan_of (block_of (good_in n.layout h)) node.size offset (length new) time =
        planned ∙ plan_same (block_at row.index) (block_of (good_in n.layout h)) row.numbers.size offset (length new) time index ∙ ap (λ (z : ℕ). plan_of (block_of (good_in n.layout h)) z offset (length new) time) size_is in
        record {
          runs = w.runs;
          rest = w.rest;
          taken = subst (λ (q : Plan). Takes n.free.pools cpu (data_blocks q) w.runs w.rest) equal w.taken;
          zeros = subst (λ (q : Plan). ZerosFrom S q.size (data_entries q w.runs)) equal (w.zeros held shown.0 v);
          grew = subst (λ (k : ℕ). ∥ (LogGrew S n.layout w.rest cpu held k h (data_entries (plan_of (block_of (good_in n.layout h)) node.size offset (length new) time) w.runs)) ∥₁) number
              (subst (λ (q : Plan). ∥ (LogGrew S n.layout w.rest cpu held row.inode h (data_entries q w.runs)) ∥₁) equal (grew held h sound (ap held number ∙ is)));
        }))
