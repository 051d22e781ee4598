-- What recovery finds in a region that a stop within a call has left.
use Rattle.std.proofs.Common.{◌≡◌, ◌⊎◌, ℕ, ◌/◌, ◌%◌, Bool, false, inl, inr, List, set, slice_get, ap, sym, ◌∙◌, subst, refl, Option, Some}
use Rattle.std.specs.List.{Contains}
use Rattle.std.proofs.Math.Logic.{∥∥₁_map}
use Rattle.nv_region.specs.Region.{Region}
use Rattle.nv_region.specs.Stops.{Choices, LeavesOnly, NothingPending}
use Rattle.nv_region.proofs.Stops.{fenced_leaves}
use Rattle.nv_super.specs.declared.superblock.Super.{Super}
use Rattle.nv_super.specs.declared.owners.Run.{Run}
use Rattle.nv_super.specs.declared.faults.Fault.{Fault}
use Rattle.nv_super.specs.Layout.{Layout}
use Rattle.nv_super.proofs.Members.{stands}
use Rattle.nv_journal.specs.Undo.{undone}
use Rattle.nv_alloc.specs.FreeValue.{FreeLists}
use Rattle.nv_entry.specs.declared.entry.AttrEntry.{AttrEntry}
use Rattle.nv_radix.specs.Pages.{block_at}
use Rattle.nv_scan.specs.declared.piece.Row.{Row}
use Rattle.nv_mounted.specs.Held.{Held, Store}
use Rattle.nv_mounted.specs.Bytes.{byte_in, byte_of}
use Rattle.nv_mounted.specs.Mounted.{IsMounted}
use Rattle.nv_graph.specs.Read.{row_of}
use Rattle.nv_commit.specs.Stopped.{CanRecover, LeavesEither, RollsBackTo}
use Rattle.nv_commit.proofs.Left.{itself_recovers, left_same}
use Rattle.nv_tree.specs.declared.refusal.Refusal.{Refusal}
use Rattle.nv_tree.specs.declared.refusal.Refusal.TheVariants.{Stopped}
use Rattle.nv_tree.specs.Tree.{Tree}
use Rattle.nv_tree.specs.Calls.{edit, with_attributes}
use Rattle.nv_paths.specs.Seen.{tree_of}
use Rattle.nv_steps.specs.Attributes.{attributes}
use Rattle.nv_steps.specs.Steps.{ShowsRow}
use Rattle.nv_steps.specs.Stopped.{Attributed}
use Rattle.nv_calls.specs.Mount.{IsKept, Mount}
use Rattle.nv_calls.specs.ChangesByNumber.{logs_inode_attributes}
use Rattle.nv_calls.specs.Effects.{Logs, Makes}
use Rattle.nv_calls.specs.Stopped.{IsAsMade, IsAsMounted, LeavesCall, RecoversTo, StopLeaves}
use Rattle.nv_calls.proofs.Mounts.{mounted_of_kept}
use Rattle.nv_calls.proofs.OneRow.{shows_row}
use Rattle.nv_calls.proofs.RowChange.{log_grew, mounted_after, row_bytes, tree_after, unchanged}
use Rattle.nv_calls.proofs.Numbered.{inode_changed}
use Rattle.nv_calls.proofs.SetAttr.{attr_logged, attributed_node}

-- What is recovered is what is mounted once the journals are rolled back.
pub recovers_to : {left : Region} {l : Layout} {after : Store} {rows : List Row} {free : List (List Run)} → CanRecover l.sup left → IsMounted (undone l.sup left) l after rows free → RecoversTo left l rows free
recovers_to {rows = rows} {free = free} can m = record { sup = can.sup; shows = λ o is. left_same can m.sound o is rows free m.keeps }

module _ {R : Region} {l : Layout} {held : Store} {rows : List Row} {free : List (List Run)} (m : IsMounted R l held rows free) where
  -- each byte of a row's file is where it was
  pub files_stay : (S : Region) → ((i : ℕ) (h : Held) → held i ≡ Some h → (x : ℕ) → byte_of S l h x ≡ byte_of R l h x)
      → (r : Row) → Contains rows r → (x : ℕ) → byte_in S (block_at r.index (x / 4096)) x ≡ byte_in R (block_at r.index (x / 4096)) x
  files_stay S stay r c x =
      let keeps = m.keeps in
      let in_rows = keeps.in_rows in
      let k = in_rows.each r c in
      let told = k.2 in
      ap (λ (o : Option ℕ). byte_in S o x) (told.index (x / 4096)) ∙ stay r.inode k.0 k.1 x ∙ ap (λ (o : Option ℕ). byte_in R o x) (sym (told.index (x / 4096)))

  -- What is as it was is recovered so.
  pub still_mounted : {left : Region} → RollsBackTo R l held held left → IsAsMounted R l rows free left
  still_mounted {left} w = (
    recovers_to w.can (record { sound = w.sound; keeps = m.keeps }),
    (λ j. unchanged R (undone l.sup left) rows (files_stay (undone l.sup left) w.bytes) j (row_of rows j) refl),
  )

-- Where nothing was pending and nothing was stored, it is what was mounted.
pub stays_mounted : {R : Region} {s : Super} {l : Layout} {rows : List Row} {free : FreeLists} {faults : List Fault} {read_only stopped : Bool} → IsKept R s l rows free faults read_only stopped → stopped ≡ false → read_only ≡ false
    → (choices : Choices) (made : Tree) (Logged : Region → Type 0) → NothingPending R choices → LeavesOnly R choices (StopLeaves R l rows free.pools made Logged)
stays_mounted {R} {s} {l} {rows} {free} kept runs writes choices made Logged settled =
    fenced_leaves R choices (StopLeaves R l rows free.pools made Logged) settled
    (∥∥₁_map (mounted_of_kept kept runs writes) (λ w. let m = w.1 in inl (still_mounted m (itself_recovers R l w.0 m.sound))))

-- the same of a call that has stored nothing
pub call_stays : {P : Type 0} (region : P → Region) (m : Mount P) (makes : Makes P) (logs : Logs P) (names : List (List ℕ)) → IsKept (region m.memory) m.sup m.layout m.rows m.free m.faults m.read_only m.stopped → m.stopped ≡ false → m.read_only ≡ false
    → (choices : Choices) → NothingPending (region m.memory) choices → LeavesOnly (region m.memory) choices (LeavesCall makes logs (region m.memory) m names)
call_stays region m makes logs names kept runs writes choices settled = stays_mounted kept runs writes choices (makes (region m.memory) m names) (logs (region m.memory) m names) settled

-- and alone this where no call is under way
pub stays_itself : {R : Region} {s : Super} {l : Layout} {rows : List Row} {free : FreeLists} {faults : List Fault} {read_only stopped : Bool} → IsKept R s l rows free faults read_only stopped → stopped ≡ false → read_only ≡ false → (choices : Choices) → NothingPending R choices
    → LeavesOnly R choices (λ left. ∥ (IsAsMounted R l rows free.pools left) ∥₁)
stays_itself {R} {s} {l} {rows} {free} kept runs writes choices settled =
    fenced_leaves R choices (λ left. ∥ (IsAsMounted R l rows free.pools left) ∥₁) settled
    (∥∥₁_map (mounted_of_kept kept runs writes) (λ w. let m = w.1 in still_mounted m (itself_recovers R l w.0 m.sound)))

-- Nothing is pending behind a refusal either, unless it was a stop.
pub settled_or_stopped : {P : Type 0} (region : P → Region) (may_hold : P → Choices) {old now : P} (e : Refusal) (stops : Bool) → (stops ≡ false → e ≡ Stopped → ⊥) → ((e ≡ Stopped → ⊥) → now ≡ old) → NothingPending (region old) (may_hold old) → stops ≡ false
    → NothingPending (region now) (may_hold now)
settled_or_stopped {P} region may_hold e stops not_stop same settled off = subst (λ (p : P). NothingPending (region p) (may_hold p)) (sym (same (not_stop off))) settled

-- What a step leaves whose result is something else as well.
pub left_made : {R : Region} {l : Layout} {held : Store} (A B : Region → Type 0) → ((S : Region) → A S → B S) → (left : Region) → LeavesEither R l held A left → LeavesEither R l held B left
left_made A B f left (inl same) = inl same
left_made {l = l} A B f left (inr w) = inr (w.0, f (undone l.sup left) w.1)

-- ---- `set_attr`

module _ {P : Type 0} (region : P → Region) {n m : Mount P} (same : n ≡ m) (kept : IsKept (region n.memory) n.sup n.layout n.rows n.free n.faults n.read_only n.stopped) (runs : n.stopped ≡ false) (writes : n.read_only ≡ false)
    (place : ℕ) (row : Row) (at : slice_get n.rows place ≡ Some row) (cpu mode owner group time i : ℕ) (is : row_of n.rows i ≡ Some row) (number : row.inode ≡ i) where
  abbrev R : Region
  R = region n.memory

  abbrev l : Layout
  l = n.layout

  abbrev rows : List Row
  rows = n.rows

  abbrev free : FreeLists
  free = n.free

  abbrev x : AttrEntry
  x = record { mode = mode % 4096; size = row.numbers.size; time = time; owner = owner; group = group }

  attributes_by : (left : Region) (held : Store) (mounted : IsMounted R l held rows free.pools) → LeavesEither R l held (Attributed R l free cpu row x) left
      → IsAsMounted R l rows free.pools left ⊎ IsAsMade l (edit i (with_attributes mode owner group time) (tree_of R rows)) (logs_inode_attributes cpu mode owner group time i R n) left
  attributes_by left held mounted (inl as_before) = inl (still_mounted mounted as_before)
  attributes_by left held mounted (inr w) =
      let step = w.1 in
      let new = step.1 in
      let follows = step.2 in
      let has = step.3 in
      let entries = attributes row.numbers.size mode owner group time in
      let then = mounted_after kept runs writes place row new at entries follows held mounted in
      inr (record {
        rows = set rows place new;
        free = (step.0).pools;
        recovers = recovers_to w.0 then.1;
        tree = inode_changed region {n = n} {m = n} refl (with_attributes mode owner group time) (tree_of (undone l.sup left) (set rows place new)) number
            (tree_after kept runs writes place row new at entries follows (with_attributes mode owner group time) has.inode
            (attributed_node R (undone l.sup left) mode owner group time row.numbers.size has
            (λ y. row_bytes kept runs writes place row new at entries follows row (stands rows place row at) y)));
        logs = attr_logged region {n = n} {m = n} refl (undone l.sup left) row mode owner group time i is number (log_grew kept runs writes place row new at entries follows);
      })

  -- What a stop within the call leaves.
  pub attributes_left : (S : Region) (old new : Choices)
      → ((held : Store) (h : Held) → ShowsRow R l held h row free → NothingPending R old → LeavesOnly S new (LeavesEither R l held (Attributed R l free cpu row x))) → NothingPending R old
      → LeavesOnly S new (StopLeaves (region m.memory) m.layout m.rows m.free.pools (edit i (with_attributes mode owner group time) (tree_of (region m.memory) m.rows)) (logs_inode_attributes cpu mode owner group time i (region m.memory) m))
  attributes_left S old new step settled =
      subst (λ (k : Mount P). LeavesOnly S new (StopLeaves (region k.memory) k.layout k.rows k.free.pools (edit i (with_attributes mode owner group time) (tree_of (region k.memory) k.rows)) (logs_inode_attributes cpu mode owner group time i (region k.memory) k))) same
      (λ left may. ∥∥₁_map (mounted_of_kept kept runs writes) (λ w.
      let v = shows_row w.1 kept.lists row (stands rows place row at) in
      attributes_by left w.0 w.1 (step w.0 v.0 v.1 settled left may)))
