-- Which words a call stores, told of what is held in place of rows.
use Rattle.std.proofs.Common.{◌≡◌, ℕ, List, Bool, false, ap, sym, ◌∙◌, subst, Option, Some}
use Rattle.std.specs.List.{Contains}
use Rattle.std.proofs.lemmas.Option.{same_Some}
use Rattle.std.proofs.Math.Logic.{∥∥₁_elim}
use Rattle.std.proofs.Math.Nat.{ℕ_set}
use Rattle.std.proofs.Props.{props}
use Rattle.nv_region.specs.Region.{Region}
use Rattle.nv_super.specs.declared.superblock.Super.{Super}
use Rattle.nv_super.specs.declared.faults.Fault.{Fault}
use Rattle.nv_alloc.specs.FreeValue.{FreeLists}
use Rattle.nv_super.proofs.Members.{stands}
use Rattle.nv_super.specs.Layout.{Layout}
use Rattle.nv_scan.specs.declared.piece.Row.{Row}
use Rattle.nv_rows.specs.Rows.{place_in, row_of}
use Rattle.nv_rows.proofs.Places.{at_place, numbered}
use Rattle.nv_deadpages.specs.Dead.{IsFirstDead}
use Rattle.nv_mounted.specs.Held.{Held, Store}
use Rattle.nv_mounted.specs.Mounted.{IsMounted, ShowsSound}
use Rattle.nv_steps.specs.Steps.{ShowsRow}
use Rattle.nv_steps.specs.Stores.{Places, StoresIn, one_log, one_page_less}
use Rattle.nv_tree.specs.Tree.{Node}
use Rattle.nv_paths.specs.Seen.{LeadsTo, tree_of}
use Rattle.nv_calls.specs.Mount.{IsKept, Mount}
use Rattle.nv_calls.proofs.Mounts.{mounted_with}
use Rattle.nv_calls.proofs.OneRow.{shows_row}

module _ {R : Region} {s : Super} {l : Layout} {rows : List Row} {free : FreeLists} {faults : List Fault} {read_only stopped : Bool} (kept : IsKept R s l rows free faults read_only stopped) (runs : stopped ≡ false) where
  -- by a row
  pub row_stores : (S : Region) (row : Row) → Contains rows row → (p : Places) (held : Store) → ShowsSound R l held → ((m : IsMounted R l held rows free.pools) (g : Held) → ShowsRow R l held g row free → StoresIn l held p R S) → StoresIn l held p R S
  row_stores S row there p held sound step = ∥∥₁_elim (mounted_with kept runs held sound) prop (λ m. (let v = shows_row {free = free} m kept.lists row there in step m v.0 v.1)) where
    prop : IsProp (StoresIn l held p R S)
    prop = hlevel (props, ℕ_set)

  -- and by two
  pub rows_store : (S : Region) (row other : Row) → Contains rows row → Contains rows other → (p : Places) (held : Store) → ShowsSound R l held → ((f g : Held) → ShowsRow R l held f row free → ShowsRow R l held g other free → StoresIn l held p R S) → StoresIn l held p R S
  rows_store S row other there other_there p held sound step = row_stores S row there p held sound (λ m f shown. (let u = shows_row {free = free} m kept.lists other other_there in step f u.0 shown u.1))

-- ---- calls whose commit is one word

module _ {P : Type 0} (region : P → Region) {n m : Mount P} (same : n ≡ m) (kept : IsKept (region n.memory) n.sup n.layout n.rows n.free n.faults n.read_only n.stopped) (runs : m.stopped ≡ false) (S : Region) (j : ℕ) (row : Row) (at : row_of n.rows j ≡ Some row) where
  abbrev R : Region
  R = region n.memory

  still_runs : n.stopped ≡ false
  still_runs = ap (λ (q : Mount P). q.stopped) same ∙ runs

  there : Contains n.rows row
  there = stands n.rows (place_in n.rows j) row (at_place n.rows j ∙ at)

  log_stores : ((held : Store) (h : Held) → ShowsRow R n.layout held h row n.free → StoresIn n.layout held (one_log n.layout row.inode) R S) → (held : Store) → ShowsSound R n.layout held → StoresIn n.layout held (one_log n.layout row.inode) R S
  log_stores step held sound = row_stores kept still_runs S row there (one_log n.layout row.inode) held sound (λ m g shown. step held g shown)

  -- The log of the inode of this number, which is that of the row.
  pub inode_stores : ((held : Store) (h : Held) → ShowsRow R n.layout held h row n.free → StoresIn n.layout held (one_log n.layout row.inode) R S)
      → (held : Store) → ShowsSound (region m.memory) m.layout held → StoresIn m.layout held (one_log m.layout j) (region m.memory) S
  inode_stores step held =
      subst (λ (q : Mount P). ShowsSound (region q.memory) q.layout held → StoresIn q.layout held (one_log q.layout j) (region q.memory) S) same (λ sound.
      subst (λ (k : ℕ). StoresIn n.layout held (one_log n.layout k) R S) (numbered n.rows j row at) (log_stores step held sound))

  -- A page that goes from the log of the inode of this number.
  pub page_less_stores : ((held : Store) (h : Held) (o : Option ℕ) → ShowsRow R n.layout held h row n.free → IsFirstDead n.layout.sup h.kind row.inode h.created h.entries h.pages o → StoresIn n.layout held (one_page_less n.layout row.inode h.pages o) R S)
      → (held : Store) (h : Held) (o : Option ℕ) → ShowsSound (region m.memory) m.layout held → held j ≡ Some h → IsFirstDead m.layout.sup h.kind j h.created h.entries h.pages o → StoresIn m.layout held (one_page_less m.layout j h.pages o) (region m.memory) S
  page_less_stores step held h o =
      subst (λ (q : Mount P). ShowsSound (region q.memory) q.layout held → held j ≡ Some h → IsFirstDead q.layout.sup h.kind j h.created h.entries h.pages o → StoresIn q.layout held (one_page_less q.layout j h.pages o) (region q.memory) S) same (λ sound is first.
      row_stores kept still_runs S row there (one_page_less n.layout j h.pages o) held sound (λ m g shown.
      let number = numbered n.rows j row at in
      let one : g ≡ h = same_Some _ _ (sym shown.holds ∙ ap held number ∙ is) in
      subst (λ (k : Held). IsFirstDead n.layout.sup k.kind j k.created k.entries k.pages o → StoresIn n.layout held (one_page_less n.layout j k.pages o) R S) one
      (subst (λ (i : ℕ). IsFirstDead n.layout.sup g.kind i g.created g.entries g.pages o → StoresIn n.layout held (one_page_less n.layout i g.pages o) R S) number (step held g o shown)) first))

-- the same of the inode that a path leads to
pub page_less_by_path : (R S : Region) (l : Layout) (rows : List Row) (names : List (List ℕ)) (j : ℕ) (own : Node) → LeadsTo (tree_of R rows) names j own
    → ((held : Store) (h : Held) (o : Option ℕ) → ShowsSound R l held → held j ≡ Some h → IsFirstDead l.sup h.kind j h.created h.entries h.pages o → StoresIn l held (one_page_less l j h.pages o) R S)
    → (i : ℕ) (node : Node) (held : Store) (h : Held) (o : Option ℕ) → LeadsTo (tree_of R rows) names i node → ShowsSound R l held → held i ≡ Some h → IsFirstDead l.sup h.kind i h.created h.entries h.pages o → StoresIn l held (one_page_less l i h.pages o) R S
page_less_by_path R S l rows names j own leads step i node held h o led sound =
    subst (λ (k : ℕ). held k ≡ Some h → IsFirstDead l.sup h.kind k h.created h.entries h.pages o → StoresIn l held (one_page_less l k h.pages o) R S) (same_Some _ _ (sym leads.leads ∙ led.leads)) (step held h o sound)
