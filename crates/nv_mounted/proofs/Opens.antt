-- A region with an outcome without faults is mounted.
use Rattle.std.proofs.Common.{◌≡◌, ℕ, ◌+◌, ◌==◌, inl, inr, true, cond, List, [], ◌∷◌, refl, ap, sym, ◌∙◌, subst, Option, Some, None, arith}
use Rattle.std.specs.List.{Contains}
use Rattle.std.proofs.lemmas.Bool.{cases_eq}
use Rattle.std.proofs.lemmas.Bool.Decides.{eqb_tells}
use Rattle.nv_region.specs.Region.{Region, word}
use Rattle.nv_super.specs.declared.kind.Kind.{Kind}
use Rattle.nv_super.specs.declared.owners.Owner.{Owner}
use Rattle.nv_super.specs.declared.owners.Run.{Run}
use Rattle.nv_super.specs.declared.faults.Fault.{Fault}
use Rattle.nv_super.specs.declared.faults.Fault.TheVariants as faults
use Rattle.nv_super.specs.Layout.{Layout, slot_of}
use Rattle.nv_super.proofs.Members.{none_in}
use Rattle.nv_super.proofs.Options.{some_is}
use Rattle.nv_super.proofs.Rising.{Contains-cons, Contains-head, Contains-tail}
use Rattle.nv_super.proofs.Sorted.{one_owner}
use Rattle.nv_journal.specs.Undo.{undone}
use Rattle.nv_inode.specs.Slot.{kind_at, is_right_log}
use Rattle.nv_alloc.proofs.Changed.{AreRuns-same}
use Rattle.nv_logpage.specs.declared.found.LogFault.{LogFault}
use Rattle.nv_logpage.specs.declared.found.LogFault.TheVariants as logs
use Rattle.nv_logpage.specs.declared.found.LogEnd.{LogEnd}
use Rattle.nv_logpage.specs.Reads.{Reads}
use Rattle.nv_scan.specs.Inode.{Log, IsInode, IsInUse, right, wrong}
use Rattle.nv_scan.specs.Faults.{IsFaultOf, i1, i2, i3, l1, l2, l3, l4, entry}
use Rattle.nv_scan.specs.Rows.{IsRow}
use Rattle.nv_scan.specs.declared.piece.Row.{Row}
use Rattle.nv_scan.proofs.InUse.{by_slot}
use Rattle.nv_scan.proofs.Only.{IsInode-only, slot_in_use, kind_in_use}
use Rattle.nv_inode.specs.Chains.{chain_faults, chains_in, layout_of}
use Rattle.nv_outcome.specs.Outcome.{AreRows, AreFreeLists, IsDoubled, IsCrossFault, IsFaulty, journal, chain, inode, cross, double, Outcome, IsOutcome}
use Rattle.nv_outcome.proofs.SuperOf.{layout_of_super}
use Rattle.nv_graph.proofs.Bridge.{is_faultless}
use Rattle.nv_graph.proofs.OfRows.{all_names}
use Rattle.nv_mounted.specs.Held.{Held, Store, HoldsInode, Shows, ShowsSlot}
use Rattle.nv_mounted.specs.Blocks.{NoneDoubled, KeepsFree}
use Rattle.nv_mounted.specs.Mounted.{KeepsRow, KeepsRows, AreClean, IsMounted, outcome_layout}
use Rattle.nv_mounted.proofs.Shown.{held_inode, stands_at, in_use, owns_there, free_there, free_back}
use Rattle.nv_mounted.proofs.ShownGraph.{graph_shown}
use Rattle.nv_mounted.proofs.Idle.{idle_of}

-- what is held of an inode by its slot's words and its log
abbrev held_by : Region → ℕ → Log → Held
held_by R a log = record { kind = log.kind; head = word R (a + 16); tail = word R (a + 24); created = word R (a + 32); entries = log.entries; pages = log.pages }

abbrev AreEach : Region → Layout → List Row → Type 0
AreEach R l rows = (row : Row) → Contains rows row → (a : ℕ) × (log : Log) × IsRow R l a log row

-- what is held of the inode of the first row that has its number
abbrev look : (R : Region) (l : Layout) (rows : List Row) → AreEach R l rows → Store
look R l [] each i = None
look R l (r ∷ rows) each i = cond (r.inode == i) (Some (let w = each r (Contains-head r rows) in held_by R w.0 w.1)) (look R l rows (λ x c. each x (Contains-tail r rows x c)) i)

-- what is found comes from a row
record IsFrom (R : Region) (l : Layout) (rows : List Row) (i : ℕ) (h : Held) : Type 0 where
  row : Row
  here : Contains rows row
  a : ℕ
  log : Log
  is : IsRow R l a log row
  number : row.inode ≡ i
  same : h ≡ held_by R a log

found : (R : Region) (l : Layout) (rows : List Row) (each : AreEach R l rows) (i : ℕ) (h : Held) → look R l rows each i ≡ Some h → IsFrom R l rows i h
found R l [] each i h e = absurd (cc)
found R l (r ∷ rows) each i h e = elim (eqb_tells r.inode i) [
  | inl w ↦ (let q = each r (Contains-head r rows) in let k = rw w.0 at e in record { row = r; here = Contains-head r rows; a = q.0; log = q.1; is = q.2; number = w.1; same = (let s : held_by R q.0 q.1 ≡ h = cc in sym s) })
  | inr w ↦ (let q = found R l rows (λ x c. each x (Contains-tail r rows x c)) i h (rw w.0 at e) in
      record { row = q.row; here = Contains-tail r rows q.row q.here; a = q.a; log = q.log; is = q.is; number = q.number; same = q.same })
]

missing : (R : Region) (l : Layout) (rows : List Row) (each : AreEach R l rows) (i : ℕ) → look R l rows each i ≡ None → (row : Row) → Contains rows row → row.inode ≡ i → ⊥
missing R l [] each i e row c number = none_in row c
missing R l (r ∷ rows) each i e row c number = elim (eqb_tells r.inode i) [
  | inl w ↦ (let k = rw w.0 at e in cc)
  | inr w ↦ elim (Contains-cons r rows row c) [
    | inl same ↦ w.1 (ap (λ (x : Row). x.inode) (sym same) ∙ number)
    | inr rest ↦ missing R l rows (λ x c. each x (Contains-tail r rows x c)) i (rw w.0 at e) row rest number
  ]
]

-- what is read of an inode without faults
record IsWhole (R : Region) (l : Layout) (a : ℕ) (log : Log) : Type 0 where
  right_log : is_right_log l.sup (word R (a + 16)) (word R (a + 24)) ≡ true
  whole : Reads R l.sup (word R (a + 16)) (word R (a + 24)) log.entries log.pages None

module _ (R : Region) (l : Layout) (none : (i : ℕ) (f : Fault) → IsFaultOf R l i f → ⊥) where
  no_end : (i a : ℕ) (log : Log) → IsInode R l i a log → (end : Option LogEnd) → log.fault ≡ end → log.fault ≡ None
  no_end i a log is None e = e
  no_end i a log is (Some end) e = absurd (by_class end.fault refl) where
    ends_as : {c : LogFault} → end.fault ≡ c → log.fault ≡ Some (record { fault = c; at = end.at })
    ends_as k = e ∙ ap (λ (d : LogFault). Some (let x : LogEnd = record { fault = d; at = end.at } in x)) k

    by_class : (c : LogFault) → end.fault ≡ c → ⊥
    by_class logs.L1 k = none i (faults.L1 i end.at) (l1 is (ends_as k))
    by_class logs.L2 k = none i (faults.L2 i end.at) (l2 is (ends_as k))
    by_class logs.L3 k = none i (faults.L3 i end.at) (l3 is (ends_as k))
    by_class logs.L4 k = none i (faults.L4 i end.at) (l4 is (ends_as k))

  is_whole : (i a : ℕ) (log : Log) → IsInode R l i a log → log.fault ≡ None → IsWhole R l a log
  is_whole i a log (right at kind t r) e = record { right_log = t; whole = subst (λ (x : Option LogEnd). Reads R l.sup (word R (a + 16)) (word R (a + 24)) log.entries log.pages x) e r }
  is_whole i a _ (wrong at kind t) e = absurd (none i (faults.I3 i) (i3 at kind t))

  holds : (i a : ℕ) (log : Log) → IsInode R l i a log → HoldsInode R l a (held_by R a log)
  holds i a log is = let w = is_whole i a log is (no_end i a log is log.fault refl) in
      record { kind = kind_in_use is; head = refl; tail = refl; created = refl; right = w.right_log; reads = w.whole }

  -- a slot whose inode isn't in use has valid word 0
  zero_word : (i a : ℕ) → slot_of l i ≡ Some a → (IsInUse R l i → ⊥) → word R a ≡ 0
  zero_word i a at out = elim (cases_eq (word R a) 0) [
    | inl e ↦ e
    | inr n ↦ absurd (elim (cases_eq (word R a) 1) [
      | inr m ↦ none i (faults.I1 i) (i1 at (omega (arith, n, m)))
      | inl one ↦ of_kind one (kind_at R a) refl
    ])
  ] where
    of_kind : word R a ≡ 1 → (k : Option Kind) → kind_at R a ≡ k → ⊥
    of_kind one None k = none i (faults.I2 i) (i2 at one k)
    of_kind one (Some kind) k = out ((by_slot R l i).1 (a, kind, at, k))

  module _ (rows : List Row) (are : AreRows R l rows) where
    abbrev held : Store
    held = look R l rows are.each

    of_row : (i : ℕ) (h : Held) (q : IsFrom R l rows i h) → IsInode R l i q.a q.log
    of_row i h q = let P : ℕ → Type 0 = λ j. IsInode R l j q.a q.log in subst P q.number q.is.inode

    shown : (i a : ℕ) → slot_of l i ≡ Some a → (o : Option Held) → held i ≡ o → ShowsSlot R l a o
    shown i a at None e = zero_word i a at (λ u. (let r = are.all i u in missing R l rows are.each i e r.0 r.1 r.2))
    shown i a at (Some h) e =
        let q = found R l rows are.each i h e in
        let is = of_row i h q in
        let same : q.a ≡ a = some_is q.a a (slot_of l i) (slot_in_use is) at in
        subst (λ (n : ℕ). HoldsInode R l n h) same (subst (λ (g : Held). HoldsInode R l q.a g) (sym q.same) (holds i q.a q.log is))

    no_slot : (i : ℕ) → slot_of l i ≡ None → (o : Option Held) → held i ≡ o → held i ≡ None
    no_slot i out None e = e
    no_slot i out (Some h) e = absurd (let q = found R l rows are.each i h e in let clash : Some q.a ≡ None = sym (slot_in_use (of_row i h q)) ∙ out in cc)

    pub held_shows : Shows R l held
    held_shows = record { slots = λ i a at. shown i a at (held i) refl; only = λ i out. no_slot i out (held i) refl }

    -- a row is what is held of its inode
    row_kept : (row : Row) → Contains rows row → (o : Option Held) → held row.inode ≡ o → (h : Held) × (held row.inode ≡ Some h) × KeepsRow l h row
    row_kept row c None e = absurd (missing R l rows are.each row.inode e row c refl)
    row_kept row c (Some h) e =
        let q = found R l rows are.each row.inode h e in
        let w = are.each row c in
        let one = IsInode-only w.2.inode (of_row row.inode h q) in
        let same : held_by R w.0 w.1 ≡ h = (λ k. held_by R (one.0 k) (one.1 k)) ∙ sym q.same in
        (h, e, subst (λ (g : Held). KeepsRow l g row) same (kept w.0 w.1 w.2)) where
          kept : (a : ℕ) (log : Log) → IsRow R l a log row → KeepsRow l (held_by R a log) row
          kept a log is = record { kind = is.kind; numbers = is.numbers; head = is.head; tail = is.tail; pages = is.pages; index = is.index; names = is.names }

    pub rows_kept : KeepsRows l held rows
    rows_kept = record {
      rising = are.rising;
      each = λ row c. row_kept row c (held row.inode) refl;
      all = λ i h e. are.all i (in_use held_shows i h e);
    }

  -- ---- nothing is wrong

  module _ {held : Store} (shows : Shows R l held) where
    pub held_clean : AreClean l held
    held_clean i h f e fault = let v = stands_at shows i h e in none i f (entry (held_inode R l i v.a h v.at v.is) fault)

    pub held_once : ((b : ℕ) (o : Owner) → IsDoubled R l b o → ⊥) → NoneDoubled l held
    held_once single b o p x y = elim (one_owner o p) [
      | inl e ↦ e
      | inr differ ↦ absurd (single b o (record { owns = owns_there shows b o x; another = (p, (λ e. differ (sym e)), owns_there shows b p y) }))
    ]

    pub lists_kept : (free : List (List Run)) → AreFreeLists R l free → KeepsFree l held free
    lists_kept free k = record {
      pools = k.pools;
      each = λ cpu below. AreRuns-same _ _ _ (λ b w. (w.0, free_back shows b w.1)) (λ b w. (w.0, free_there shows b w.1)) (k.each cpu below);
    }

-- a list of which nothing can be an element
pub none_listed : {A : Type 0} (xs : List A) → ((x : A) → Contains xs x → ⊥) → xs ≡ []
none_listed [] none = refl
none_listed (x ∷ xs) none = absurd (none x (Contains-head x xs))

module _ (R : Region) (o : Outcome) (is : IsOutcome R o) (no_faults : o.faults ≡ []) (own : undone o.sup R ≡ R) where
  -- the region's tables
  abbrev l : Layout
  l = layout_of o.sup R

  unfaulty : (f : Fault) → IsFaulty R o.sup f → ⊥
  unfaulty f h = none_in f (subst (λ (fs : List Fault). Contains fs f) no_faults (is.faults.all f h))

  -- what is so of the region is so of the undone one, which is the same
  undone_own : (P : Region → Type 0) → P R → P (undone o.sup R)
  undone_own P h = subst P (sym own) h

  no_inode_fault : (i : ℕ) (f : Fault) → IsFaultOf R l i f → ⊥
  no_inode_fault i f h = unfaulty f (inode i (undone_own (λ Q. IsFaultOf Q (layout_of o.sup Q) i f) h))

  no_double : (b : ℕ) (p : Owner) → IsDoubled R l b p → ⊥
  no_double b p d = unfaulty (faults.B1 b p) (double (undone_own (λ Q. IsDoubled Q (layout_of o.sup Q) b p) d))

  no_cross : (f : Fault) → IsCrossFault R l f → ⊥
  no_cross f h = unfaulty f (cross (undone_own (λ Q. IsCrossFault Q (layout_of o.sup Q) f) h))

  rows_are : AreRows R l o.rows
  rows_are = let P : Region → Type 0 = λ Q. AreRows Q (layout_of o.sup Q) o.rows in subst P own is.rows

  lists_are : AreFreeLists R l o.free
  lists_are = let P : Region → Type 0 = λ Q. AreFreeLists Q (layout_of o.sup Q) o.free in subst P own is.free

  -- with the layout of the region
  opened : (held : Store) × IsMounted R l held o.rows o.free
  opened =
      let shows = held_shows R l no_inode_fault o.rows rows_are in (
        look R l o.rows rows_are.each,
        record {
          sound = record {
            tables = record {
              sup = is.sup;
              laid = refl;
              ended = none_listed (chain_faults o.sup R) (λ f c. unfaulty f (chain (undone_own (λ Q. Contains (chain_faults o.sup Q) f) c)));
            };
            idle = idle_of o.sup R (layout_of_super R o.sup is.sup) own (λ f h. unfaulty f (journal h));
            shows = shows;
            faultless = record {
              clean = held_clean R l no_inode_fault shows;
              undoubled = held_once R l no_inode_fault shows no_double;
              named = is_faultless (graph_shown shows) (all_names rows_are) no_cross;
            };
          };
          keeps = record {
            in_rows = rows_kept R l no_inode_fault o.rows rows_are;
            in_lists = lists_kept R l no_inode_fault shows o.free lists_are;
          };
        },
      )

  tables_are : outcome_layout o ≡ l
  tables_are = ap (λ (chains : List (List ℕ)). record { sup = o.sup; chains = chains }) (is.tables ∙ ap (chains_in o.sup) own)

  pub opening : (held : Store) × IsMounted R (outcome_layout o) held o.rows o.free
  opening = (opened.0, subst (λ (m : Layout). IsMounted R m opened.0 o.rows o.free) (sym tables_are) opened.1)
