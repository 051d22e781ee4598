-- A mounted file system once one row was replaced: what it keeps, and the tree that it shows.
use Rattle.std.proofs.Common.{◌≡◌, Result, Ok, Err, IfOk, Bor, ◌≢◌, ℕ, ◌/◌, inl, inr, nat_eq, Bool, true, false, cond, List, [], ◌∷◌, set, slice_get, refl, ap, sym, ◌∙◌, subst, arith, Option, Some, None}
use Rattle.std.specs.List.{Contains}
use Rattle.std.specs.Option.{option_map}
use Rattle.std.proofs.Math.Logic.{∥∥₁_map}
use Rattle.std.proofs.lemmas.Bool.{cases_eq}
use Rattle.std.proofs.lemmas.Bool.Decides.{nat_tests}
use Rattle.std.proofs.lemmas.Option.{slice_get_within}
use Rattle.nv_region.specs.Region.{Region}
use Rattle.nv_super.specs.declared.superblock.Super.{Super}
use Rattle.nv_super.specs.declared.owners.Run.{Run}
use Rattle.nv_super.specs.declared.faults.Fault.{Fault}
use Rattle.nv_super.specs.Layout.{Layout}
use Rattle.nv_super.specs.Order.{Rises}
use Rattle.nv_alloc.specs.FreeValue.{FreeLists}
use Rattle.nv_entry.specs.declared.entry.Entry.{Entry}
use Rattle.nv_radix.specs.Pages.{block_at}
use Rattle.nv_outcome.specs.Same.{SameRow}
use Rattle.nv_scan.specs.declared.piece.Row.{Row}
use Rattle.nv_cross_check.specs.Cross.{row_key}
use Rattle.nv_graph.specs.Read.{row_of}
use Rattle.nv_rows.proofs.Places.{number_at, row_of_other, set_rising}
use Rattle.nv_tree.specs.declared.refusal.Refusal.{Refusal}
use Rattle.nv_mounted.specs.Held.{Held, Store, with_inode}
use Rattle.nv_mounted.specs.Bytes.{byte_in}
use Rattle.nv_mounted.specs.Mounted.{IsMounted, KeepsRow, KeepsRows, ShowsSound}
use Rattle.nv_mounted.proofs.RowsKept.{rows_follow}
use Rattle.nv_commit.specs.Extends.{extended, with_log}
use Rattle.nv_tree.specs.Tree.{Node, SameNode, SameNodes, SameTree}
use Rattle.nv_tree.specs.Calls.{edit}
use Rattle.nv_calls.specs.Mount.{IsKept, Mount}
use Rattle.nv_calls.specs.Same.{SameMount}
use Rattle.nv_paths.specs.Seen.{node_of, tree_of}
use Rattle.nv_steps.specs.Steps.{LogFollows, ShowsRow}
use Rattle.nv_steps.specs.Taken.{SamePools}
use Rattle.nv_steps.proofs.RowOf.{row_at}
use Rattle.nv_calls.proofs.Mounts.{bytes_stay, kept_of_mounted, mounted_of_kept}
use Rattle.nv_super.proofs.Rising.{Contains-head, Contains-tail}
use Rattle.nv_scan.specs.Rows.{AreNumbers}
use Rattle.nv_mounted.specs.Held.{good_in}
use Rattle.nv_mounted.specs.Blocks.{KeepsFree}
use Rattle.nv_mounted.proofs.Owning.{same_held, other_held}
use Rattle.nv_calls.specs.GrownLogs.{LogGrew}
use Rattle.nv_calls.proofs.Kept.{rows_rise}
use Rattle.nv_calls.proofs.Mounts.{mounted_with}
use Rattle.nv_calls.proofs.OneRow.{shows_row}
use Rattle.nv_super.proofs.Members.{stands}
use Rattle.nv_steps.proofs.RowsAt.{at_set, same_rows}

-- ---- one row replaced

-- a row of a number is one of the rows
pub row_there : (rows : List Row) (j : ℕ) (r : Row) → row_of rows j ≡ Some r → Contains rows r
row_there [] j r e = absurd (cc)
row_there (x ∷ rows) j r e = by (nat_eq x.inode j) (row_there rows j r) e where
  by : (b : Bool) → (row_of rows j ≡ Some r → Contains rows r) → cond b (Some x) (row_of rows j) ≡ Some r → Contains (x ∷ rows) r
  by true rest e = (let same : x ≡ r = cc in subst (λ (q : Row). Contains (x ∷ rows) q) same (Contains-head x rows))
  by false rest e = Contains-tail x rows r (rest e)

-- a row of before shows as it did, where each byte that a row's file had is where it was
pub unchanged : (R S : Region) (rows : List Row) → ((r : Row) → Contains rows r → (x : ℕ) → byte_in S (block_at r.index (x / 4096)) x ≡ byte_in R (block_at r.index (x / 4096)) x) → (j : ℕ) (o : Option Row) → row_of rows j ≡ o → SameNodes (option_map (node_of S) o) (option_map (node_of R) o)
unchanged R S rows bytes j None e = tt
unchanged R S rows bytes j (Some r) e = record {
  kind = refl;
  mode = refl;
  owner = refl;
  group = refl;
  size = refl;
  links = refl;
  time = refl;
  count = refl;
  names = λ name. refl;
  bytes = λ x below. bytes r (row_there rows j r e) x;
}

pub each_there : (rows : List Row) (r : Result (Bor Row) Refusal) → IfOk r (λ x. row_of rows x.now.inode ≡ Some x.now) → IfOk r (λ x. Contains rows x.now)
each_there rows (Ok x) held = row_there rows x.now.inode x.now held
each_there rows (Err e) held = tt

-- a row that is the same is of the same
pub keeps_same : (l : Layout) (h : Held) (row new : Row) → SameRow row new → KeepsRow l h row → KeepsRow l h new
keeps_same l h row new same told = record {
  kind = same.kind ∙ told.kind;
  numbers = subst (λ n. AreNumbers h.created (good_in l h) n) (sym same.numbers) told.numbers;
  head = same.head ∙ told.head;
  tail = same.tail ∙ told.tail;
  pages = same.pages ∙ told.pages;
  index = λ p. same.index p ∙ told.index p;
  names = λ q. same.names q ∙ told.names q;
}

-- what is held stays where an inode is held as it was
same_store : (held : Store) (i : ℕ) (h : Held) → held i ≡ Some h → with_inode held i (Some h) ≡ held
same_store held i h is = λ t j. (each j) t where
  each : (j : ℕ) → with_inode held i (Some h) j ≡ held j
  each j = elim (cases_eq j i) [
    | inl same ↦ ap (with_inode held i (Some h)) same ∙ same_held held i (Some h) ∙ sym is ∙ ap held (sym same)
    | inr differs ↦ other_held held i j (Some h) differs
  ]

module _ {R : Region} {s : Super} {l : Layout} {rows : List Row} {free after : FreeLists} {faults : List Fault} {read_only stopped : Bool} (kept : IsKept R s l rows free faults read_only stopped) (runs : stopped ≡ false) (writes : read_only ≡ false)
    (place : ℕ) (row new : Row) (at : slice_get rows place ≡ Some row) where
  -- What is held stays where nothing has changed but room.
  pub mounted_same : SameRow row new → SamePools free after → (held : Store) → IsMounted R l held rows free.pools → IsMounted R l held (set rows place new) after.pools
  mounted_same same pools held m =
      let keeps = m.keeps in
      let in_rows = keeps.in_rows in
      let w = in_rows.each row (stands rows place row at) in
      let follow = rows_follow l held row.inode w.0 rows in_rows place (slice_get_within rows place row at) new (number_at rows place row new at) same.inode (keeps_same l w.0 row new same w.2) in
      record {
        sound = m.sound;
        keeps = record {
          in_rows = subst (λ (st : Store). KeepsRows l st (set rows place new)) (same_store held row.inode w.0 w.1) follow;
          in_lists = subst (λ (lists : List (List Run)). KeepsFree l held lists) (sym pools.pools) keeps.in_lists;
        };
      }

  -- What is kept stays too.
  pub kept_same : SameRow row new → SamePools free after → (now : Bool) → IsKept R s l (set rows place new) after faults read_only now
  kept_same same pools now = kept_of_mounted R s l (set rows place new) after faults read_only now kept.tables kept.writes writes (pools.sup ∙ kept.lists) (∥∥₁_map (mounted_of_kept kept runs writes) (λ w. (w.0, mounted_same same pools w.0 w.1)))

  module _ {S : Region} {pools : List (List Run)} {cpu : ℕ} (entries : List Entry) (follows : (held : Store) (h : Held) → ShowsRow R l held h row free → LogFollows R S l held h entries pools cpu row new after) where
    pub mounted_after : (held : Store) → IsMounted R l held rows free.pools → (then : Store) × IsMounted S l then (set rows place new) after.pools
    mounted_after held m =
        let keeps = m.keeps in
        let w = shows_row m kept.lists row (stands rows place row at) in
        let f = follows held w.0 w.1 in (
          with_log held row.inode w.0 entries f.fresh,
          record {
            sound = f.sound;
            keeps = record {
              in_rows = rows_follow l held row.inode (extended w.0 entries f.fresh) rows keeps.in_rows place (slice_get_within rows place row at) new (number_at rows place row new at) f.inode f.told;
              in_lists = f.lists;
            };
          },
        )

    -- What is kept once the log of the row has grown.
    pub kept_after : after.sup ≡ free.sup → (now : Bool) → IsKept S s l (set rows place new) after faults read_only now
    kept_after lists now = kept_of_mounted S s l (set rows place new) after faults read_only now kept.tables kept.writes writes (lists ∙ kept.lists) (∥∥₁_map (mounted_of_kept kept runs writes) (λ w. mounted_after w.0 w.1))

    -- Each byte that a row's file had is where it was.
    pub row_bytes : (r : Row) → Contains rows r → (x : ℕ) → byte_in S (block_at r.index (x / 4096)) x ≡ byte_in R (block_at r.index (x / 4096)) x
    row_bytes = bytes_stay kept runs writes S (λ held m. (let w = shows_row m kept.lists row (stands rows place row at) in let f = follows held w.0 w.1 in f.bytes))

    rising : Rises row_key rows
    rising = rows_rise R s l rows free faults read_only stopped kept runs

    -- The log of its inode, for whatever is held of the region.
    pub log_grew : (held : Store) (h : Held) → ShowsSound R l held → held row.inode ≡ Some h → ∥ (LogGrew S l pools cpu held row.inode h entries) ∥₁
    log_grew held h sound is = ∥∥₁_map (mounted_with kept runs held sound) (λ m.
        let w = shows_row m kept.lists row (stands rows place row at) in
        let shown = w.1 in
        let both : Some w.0 ≡ Some h = sym shown.holds ∙ is in
        let same : w.0 ≡ h = cc in
        let f = follows held h (subst (λ (g : Held). ShowsRow R l held g row free) same shown) in
        record { fresh = f.fresh; rest = f.rest; taken = f.taken; free = f.blocks; count = f.count; sound = f.sound })

    -- The tree is as before, with the node of the row changed.
    pub tree_after : (change : Node → Node) → new.inode ≡ row.inode → SameNode (node_of S new) (change (node_of R row)) → SameTree (tree_of S (set rows place new)) (edit row.inode change (tree_of R rows))
    tree_after change number here j = elim (cases_eq j row.inode) [ inl same ↦ changed same | inr differs ↦ other differs ] where
      up : Rises row_key (set rows place new)
      up = set_rising rows place row new rising at number

      now : tree_of S (set rows place new) row.inode ≡ Some (node_of S new)
      now = ap (option_map (node_of S)) (ap (row_of (set rows place new)) (sym number) ∙ row_at (set rows place new) place new up (at_set rows place new (slice_get_within rows place row at)))

      before : tree_of R rows row.inode ≡ Some (node_of R row)
      before = ap (option_map (node_of R)) (row_at rows place row rising at)

      changed : j ≡ row.inode → SameNodes (tree_of S (set rows place new) j) (edit row.inode change (tree_of R rows) j)
      changed same =
          let test : nat_eq j row.inode ≡ true = grind (arith, nat_tests) in
          let left : tree_of S (set rows place new) j ≡ Some (node_of S new) = ap (tree_of S (set rows place new)) same ∙ now in
          let right : edit row.inode change (tree_of R rows) j ≡ Some (change (node_of R row)) = ap (λ (b : Bool). cond b (option_map change (tree_of R rows row.inode)) (tree_of R rows j)) test ∙ ap (option_map change) before in
          subst (λ (o : Option Node). SameNodes o (edit row.inode change (tree_of R rows) j)) (sym left) (subst (λ (o : Option Node). SameNodes (Some (node_of S new)) o) (sym right) here)

      other : j ≢ row.inode → SameNodes (tree_of S (set rows place new) j) (edit row.inode change (tree_of R rows) j)
      other differs =
          let test : nat_eq j row.inode ≡ false = grind (arith, nat_tests) in
          let left : row_of (set rows place new) j ≡ row_of rows j = row_of_other rows place row new j at differs (λ e. differs (e ∙ number)) in
          let right : edit row.inode change (tree_of R rows) j ≡ tree_of R rows j = ap (λ (b : Bool). cond b (option_map change (tree_of R rows row.inode)) (tree_of R rows j)) test in
          subst (λ (o : Option Row). SameNodes (option_map (node_of S) o) (edit row.inode change (tree_of R rows) j)) (sym left)
          (subst (λ (o : Option Node). SameNodes (option_map (node_of S) (row_of rows j)) o) (sym right) (unchanged R S rows row_bytes j (row_of rows j) refl))

-- ---- a mount that is as it was

pub same_mount : {P : Type 0} (m : Mount P) → SameMount m m
same_mount m = record { memory = refl; sup = refl; layout = refl; rows = same_rows m.rows; free = record { sup = refl; pools = refl }; faults = refl; read_only = refl; stopped = refl }
