-- A mounted file system once a page was taken out of a log.
use Rattle.std.proofs.Common.{◌≡◌, ◌≢◌, ℕ, ◌/◌, inl, inr, Bool, false, List, length, set, slice_get, refl, ap, sym, ◌∙◌, subst, Option, Some, None}
use Rattle.std.specs.List.{Contains}
use Rattle.std.specs.Option.{option_map}
use Rattle.std.proofs.Math.Logic.{∥∥₁_map, ∥∥₁_elim}
use Rattle.std.proofs.Math.Nat.{ℕ_set}
use Rattle.std.proofs.Props.{props}
use Rattle.std.proofs.lemmas.Bool.{cases_eq}
use Rattle.std.proofs.lemmas.Option.{slice_get_within, same_Some}
use Rattle.nv_region.specs.Region.{Region}
use Rattle.nv_super.specs.declared.superblock.Super.{Super}
use Rattle.nv_super.specs.declared.faults.Fault.{Fault}
use Rattle.nv_super.specs.Layout.{Layout}
use Rattle.nv_super.specs.Order.{Rises}
use Rattle.nv_super.proofs.Members.{stands}
use Rattle.nv_alloc.specs.FreeValue.{FreeLists}
use Rattle.nv_radix.specs.Pages.{block_at}
use Rattle.nv_names.specs.Names.{Names, name_at}
use Rattle.nv_scan.specs.declared.piece.Row.{Row}
use Rattle.nv_deadpages.specs.Dead.{IsFirstDead}
use Rattle.nv_cross_check.specs.Cross.{row_key}
use Rattle.nv_graph.specs.Read.{row_of}
use Rattle.nv_mounted.specs.Held.{Held, Store, with_inode}
use Rattle.nv_mounted.specs.Bytes.{byte_in, byte_of}
use Rattle.nv_mounted.specs.Cleaned.{cleaned}
use Rattle.nv_mounted.specs.Mounted.{IsMounted, ShowsSound}
use Rattle.nv_mounted.proofs.RowsKept.{rows_follow}
use Rattle.nv_rows.proofs.Places.{number_at, row_of_other, set_rising}
use Rattle.nv_tree.specs.Tree.{Node, SameNode, SameNodes, SameTree}
use Rattle.nv_steps.specs.Cleans.{Cleans, KeepsFile}
use Rattle.nv_steps.specs.Steps.{ShowsRow}
use Rattle.nv_steps.proofs.RowOf.{row_at}
use Rattle.nv_steps.proofs.RowsAt.{at_set}
use Rattle.nv_paths.specs.Seen.{node_of, tree_of}
use Rattle.nv_calls.specs.CleanCall.{ShowsCleaned}
use Rattle.nv_calls.specs.Mount.{IsKept}
use Rattle.nv_calls.proofs.Kept.{rows_rise}
use Rattle.nv_calls.proofs.Mounts.{bytes_stay, kept_of_mounted, mounted_of_kept, mounted_with}
use Rattle.nv_calls.proofs.OneRow.{shows_row}
use Rattle.nv_calls.proofs.RowChange.{mounted_same, unchanged}

same_node : (R S : Region) {row new : Row} → KeepsFile row new → ((x : ℕ) → byte_in S (block_at row.index (x / 4096)) x ≡ byte_in R (block_at row.index (x / 4096)) x) → SameNode (node_of S new) (node_of R row)
same_node R S {row} {new} file bytes = record {
  kind = file.kind;
  mode = ap (λ n. n.mode) file.numbers;
  owner = ap (λ n. n.owner) file.numbers;
  group = ap (λ n. n.group) file.numbers;
  size = ap (λ n. n.size) file.numbers;
  links = ap (λ n. n.links) file.numbers;
  time = ap (λ n. n.time) file.numbers;
  count = ap (λ (n : Names). length n.names) file.names;
  names = λ q. ap (λ (n : Names). option_map (λ (y : ℕ × ℕ). y.0) (name_at n q)) file.names;
  bytes = λ x below. ap (λ (ix : List (ℕ × Option ℕ)). byte_in S (block_at ix (x / 4096)) x) file.index ∙ bytes x;
}

-- a row that is kept is that of what is held of its inode
pub held_row : {R : Region} {s : Super} {l : Layout} {rows : List Row} {free : FreeLists} {faults : List Fault} {read_only stopped : Bool} → IsKept R s l rows free faults read_only stopped → (row : Row) → Contains rows row → (held : Store) (h : Held) → held row.inode ≡ Some h
    → IsMounted R l held rows free.pools → ShowsRow R l held h row free
held_row {R} {s} {l} {rows} {free} kept row there held h is m =
    let w = shows_row {free = free} m kept.lists row there in
    let here = w.1 in
    subst (λ (g : Held). ShowsRow R l held g row free) (same_Some _ _ (sym here.holds ∙ is)) here

module _ {R : Region} {s : Super} {l : Layout} {rows : List Row} {free : FreeLists} {faults : List Fault} {read_only stopped : Bool} (kept : IsKept R s l rows free faults read_only stopped) (runs : stopped ≡ false) (writes : read_only ≡ false)
    (place : ℕ) (row new : Row) (at : slice_get rows place ≡ Some row) (S : Region) (after : FreeLists) (block : Option ℕ) (follows : (held : Store) (h : Held) → ShowsRow R l held h row free → Cleans R S l held h row new free after block) where
  pub mounted_cleaned : (held : Store) → IsMounted R l held rows free.pools → (then : Store) × IsMounted S l then (set rows place new) after.pools
  mounted_cleaned held m = by block (follows held w.0 w.1) where
    w : (h : Held) × ShowsRow R l held h row free
    w = shows_row m kept.lists row (stands rows place row at)

    by : (o : Option ℕ) → Cleans R S l held w.0 row new free after o → (then : Store) × IsMounted S l then (set rows place new) after.pools
    by None f = (let none = f.1 in (held, subst (λ (Q : Region). IsMounted Q l held (set rows place new) after.pools) (sym none.region) (mounted_same kept runs writes place row new at none.row none.free held m)))
    by (Some b) f =
        let keeps = m.keeps in
        let went = f.2 in (
          with_inode held row.inode (Some (cleaned w.0 f.0)),
          record {
            sound = went.sound;
            keeps = record {
              in_rows = rows_follow l held row.inode (cleaned w.0 f.0) rows keeps.in_rows place (slice_get_within rows place row at) new (number_at rows place row new at) went.inode went.told;
              in_lists = went.lists;
            };
          },
        )

  -- It is kept.
  pub kept_cleaned : after.sup ≡ free.sup → (now : Bool) → IsKept S s l (set rows place new) after faults read_only now
  kept_cleaned lists now = kept_of_mounted S s l (set rows place new) after faults read_only now kept.tables kept.writes writes (lists ∙ kept.lists) (∥∥₁_map (mounted_of_kept kept runs writes) (λ w. mounted_cleaned w.0 w.1))

  bytes_there : (held : Store) → IsMounted R l held rows free.pools → (i : ℕ) (g : Held) → held i ≡ Some g → (x : ℕ) → byte_of S l g x ≡ byte_of R l g x
  bytes_there held m i g is x = by block (follows held w.0 w.1) where
    w : (h : Held) × ShowsRow R l held h row free
    w = shows_row m kept.lists row (stands rows place row at)

    by : (o : Option ℕ) → Cleans R S l held w.0 row new free after o → byte_of S l g x ≡ byte_of R l g x
    by None f = (let none = f.1 in ap (λ (Q : Region). byte_of Q l g x) none.region)
    by (Some b) f = (let went = f.2 in went.bytes i g is x)

  bytes_kept : (r : Row) → Contains rows r → (x : ℕ) → byte_in S (block_at r.index (x / 4096)) x ≡ byte_in R (block_at r.index (x / 4096)) x
  bytes_kept = bytes_stay kept runs writes S bytes_there

  rising : Rises row_key rows
  rising = rows_rise R s l rows free faults read_only stopped kept runs

  -- The tree is as before.
  pub tree_cleaned : KeepsFile row new → SameTree (tree_of S (set rows place new)) (tree_of R rows)
  tree_cleaned file j = elim (cases_eq j row.inode) [ inl same ↦ mine same | inr differs ↦ other differs ] where
    number : new.inode ≡ row.inode
    number = file.inode

    now : tree_of S (set rows place new) row.inode ≡ Some (node_of S new)
    now = ap (option_map (node_of S)) (ap (row_of (set rows place new)) (sym number) ∙ row_at (set rows place new) place new (set_rising rows place row new rising at number) (at_set rows place new (slice_get_within rows place row at)))

    before : tree_of R rows row.inode ≡ Some (node_of R row)
    before = ap (option_map (node_of R)) (row_at rows place row rising at)

    mine : j ≡ row.inode → SameNodes (tree_of S (set rows place new) j) (tree_of R rows j)
    mine same =
        let left : tree_of S (set rows place new) j ≡ Some (node_of S new) = ap (tree_of S (set rows place new)) same ∙ now in
        let right : tree_of R rows j ≡ Some (node_of R row) = ap (tree_of R rows) same ∙ before in
        subst (λ (o : Option Node). SameNodes o (tree_of R rows j)) (sym left) (subst (λ (o : Option Node). SameNodes (Some (node_of S new)) o) (sym right) (same_node R S file (bytes_kept row (stands rows place row at))))

    other : j ≢ row.inode → SameNodes (tree_of S (set rows place new) j) (tree_of R rows j)
    other differs =
        let left : row_of (set rows place new) j ≡ row_of rows j = row_of_other rows place row new j at differs (λ e. differs (e ∙ number)) in
        subst (λ (o : Option Row). SameNodes (option_map (node_of S) o) (tree_of R rows j)) (sym left) (unchanged R S rows bytes_kept j (row_of rows j) refl)

  -- Which page went, for whatever is held of the region.
  pub log_cleaned : (held : Store) (h : Held) → ShowsSound R l held → held row.inode ≡ Some h → ShowsCleaned R S l held row.inode h block
  log_cleaned held h sound is = by block (∥∥₁_map (mounted_with kept runs held sound) (λ m. follows held h (held_row kept row (stands rows place row at) held h is m))) where
    by : (o : Option ℕ) → ∥ (Cleans R S l held h row new free after o) ∥₁ → ShowsCleaned R S l held row.inode h o
    by None known = ∥∥₁_elim known prop (λ f. (f.0, (let none = f.1 in none.region))) where
      prop : IsProp (IsFirstDead l.sup h.kind row.inode h.created h.entries h.pages None × (S ≡ R))
      prop = hlevel (props, ℕ_set)
    by (Some b) known = ∥∥₁_map known (λ f. (f.0, (let went = f.2 in record { first = f.1; block = went.block; sound = went.sound })))
