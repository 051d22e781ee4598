-- What is mounted has an outcome without faults.
use Rattle.std.proofs.Common.{◌≡◌, ℕ, ◌+◌, ◌<◌, false, List, [], refl, ap, sym, ◌∙◌, subst, Option, Some, None, arith}
use Rattle.std.specs.List.{Contains}
use Rattle.std.proofs.lemmas.Bool.{true≢false}
use Rattle.nv_region.specs.Region.{Region, word}
use Rattle.nv_super.specs.declared.superblock.Super.{Super}
use Rattle.nv_super.specs.declared.kind.Kind.{Kind}
use Rattle.nv_super.specs.declared.owners.Owner.{Owner}
use Rattle.nv_super.specs.declared.owners.Run.{Run}
use Rattle.nv_super.specs.declared.faults.Fault.{Fault}
use Rattle.nv_super.specs.Layout.{Layout}
use Rattle.nv_super.specs.Order.{Lists, fault_key, claim_key}
use Rattle.nv_super.proofs.Members.{none_in}
use Rattle.nv_journal.specs.Undo.{undone}
use Rattle.nv_inode.specs.Slot.{slot_at, kind_at, is_right_log}
use Rattle.nv_alloc.proofs.Changed.{AreRuns-same}
use Rattle.nv_logpage.specs.declared.found.LogEnd.{LogEnd}
use Rattle.nv_scan.specs.State.{block_of, named}
use Rattle.nv_inode.specs.Chains.{chain_faults, layout_of}
use Rattle.nv_scan.specs.Inode.{Log, IsInode, good_of}
use Rattle.nv_scan.specs.Faults.{IsFaultOf, IsEntryFault, i1, i2, i3, l1, l2, l3, l4, entry}
use Rattle.nv_scan.specs.Rows.{IsRow, AreNumbers}
use Rattle.nv_scan.specs.declared.piece.Row.{Row}
use Rattle.nv_scan.proofs.Pieces.{valid_one}
use Rattle.nv_outcome.specs.Outcome.{AreRows, AreFreeLists, IsDoubled, IsCrossFault, IsFaulty, journal, chain, inode, cross, double, Outcome, IsOutcome}
use Rattle.nv_outcome.proofs.SuperOf.{layout_of_super, one_super}
use Rattle.nv_graph.proofs.Bridge.{no_faults}
use Rattle.nv_mounted.specs.Held.{Held, Store, Shows, ShowsSlot, log_of, good_in}
use Rattle.nv_mounted.specs.Blocks.{NoneDoubled, KeepsFree}
use Rattle.nv_mounted.specs.Mounted.{KeepsRow, KeepsRows, Keeps, AreClean, ShowsSound, faultless_outcome}
use Rattle.nv_mounted.proofs.Opens.{none_listed}
use Rattle.nv_mounted.proofs.Shown.{IsHeld, held_inode, HoldsAt, stands_at, in_use, is_held, owns_back, free_there, free_back}
use Rattle.nv_mounted.proofs.ShownGraph.{graph_shown}
use Rattle.nv_mounted.proofs.Idle.{idle_undone, idle_faultless}

module _ {R : Region} {l : Layout} {held : Store} (shows : Shows R l held) where
  row_is : (h : Held) (row : Row) (v : HoldsAt R l row.inode h) → KeepsRow l h row → IsRow R l v.a (log_of h) row
  row_is h row v k = record {
    inode = held_inode R l row.inode v.a h v.at v.is;
    kind = k.kind;
    numbers = subst (λ (t : ℕ). AreNumbers t (good_in l h) row.numbers) (sym v.is.created) k.numbers;
    head = k.head ∙ sym v.is.head;
    tail = k.tail ∙ sym v.is.tail;
    pages = k.pages;
    index = k.index;
    names = k.names;
  }

  -- the rows that are kept are the region's
  pub rows_there : (rows : List Row) → KeepsRows l held rows → AreRows R l rows
  rows_there rows k = record {
    rising = k.rising;
    each = λ row c. (let w = k.each row c in let v = stands_at shows row.inode w.0 w.1 in (v.a, log_of w.0, row_is w.0 row v w.2));
    all = λ i u. (let w = is_held shows i u.0 u.1 u.2 in k.all i w.h w.held_is);
  }

  -- and so are the free lists
  pub lists_there : (free : List (List Run)) → KeepsFree l held free → AreFreeLists R l free
  lists_there free k = record {
    pools = k.pools;
    each = λ cpu below. AreRuns-same _ _ _ (λ b w. (w.0, free_there shows b w.1)) (λ b w. (w.0, free_back shows b w.1)) (k.each cpu below);
  }

  -- ---- no faults

  no_fault : (i a : ℕ) (log : Log) (end : LogEnd) → IsInode R l i a log → log.fault ≡ Some end → ⊥
  no_fault i a log end is e = let w = is_held shows i a log is in let n : None ≡ Some end = sym (ap (λ (x : Log). x.fault) w.same) ∙ e in cc

  not_i1 : (i a : ℕ) → (o : Option Held) → ShowsSlot R l a o → 1 < word R a → ⊥
  not_i1 i a None no_word big = omega (arith, no_word, big)
  not_i1 i a (Some h) is big = let one : word R a ≡ 1 = valid_one (slot_at R a) h.kind is.kind in omega (arith, one, big)

  not_i2 : (i a : ℕ) → (o : Option Held) → ShowsSlot R l a o → word R a ≡ 1 → kind_at R a ≡ None → ⊥
  not_i2 i a None no_word one no_kind = omega (arith, no_word, one)
  not_i2 i a (Some h) is one no_kind = let clash : Some h.kind ≡ None = sym is.kind ∙ no_kind in cc

  not_i3 : (i a : ℕ) (kind : Kind) → (o : Option Held) → ShowsSlot R l a o → kind_at R a ≡ Some kind → is_right_log l.sup (word R (a + 16)) (word R (a + 24)) ≡ false → ⊥
  not_i3 i a kind None no_word is_kind wrong = let one : word R a ≡ 1 = valid_one (slot_at R a) kind is_kind in omega (arith, no_word, one)
  not_i3 i a kind (Some h) is is_kind wrong =
      true≢false (sym is.right ∙ subst (λ (x : ℕ). is_right_log l.sup x h.tail ≡ false) is.head (subst (λ (y : ℕ). is_right_log l.sup (word R (a + 16)) y ≡ false) is.tail wrong))

  pub no_inode_fault : AreClean l held → (i : ℕ) (f : Fault) → IsFaultOf R l i f → ⊥
  no_inode_fault clean i _ (i1 {a = a} at big) = not_i1 i a (held i) (shows.slots i a at) big
  no_inode_fault clean i _ (i2 {a = a} at one no_kind) = not_i2 i a (held i) (shows.slots i a at) one no_kind
  no_inode_fault clean i _ (i3 {a = a} {kind = kind} at is_kind wrong) = not_i3 i a kind (held i) (shows.slots i a at) is_kind wrong
  no_inode_fault clean i _ (l1 {a = a} {log = log} is e) = no_fault i a log _ is e
  no_inode_fault clean i _ (l2 {a = a} {log = log} is e) = no_fault i a log _ is e
  no_inode_fault clean i _ (l3 {a = a} {log = log} is e) = no_fault i a log _ is e
  no_inode_fault clean i _ (l4 {a = a} {log = log} is e) = no_fault i a log _ is e
  no_inode_fault clean i f (entry {a = a} {log = log} is e) = let w = is_held shows i a log is in
      clean i w.h f w.held_is (subst (λ (x : Log). IsEntryFault l.sup x.kind i x.entries f) w.same e)

  pub none_doubled : NoneDoubled l held → (b : ℕ) (o : Owner) → IsDoubled R l b o → ⊥
  none_doubled undoubled b o d = d.another.1 (sym (undoubled b o d.another.0 (owns_back shows b o d.owns) (owns_back shows b d.another.0 d.another.2)))

-- a list of nothing
nothing_listed : {A : Type 0} (key : A → List ℕ) (P : A → Type 0) → ((x : A) → P x → ⊥) → Lists key P []
nothing_listed key P none = record { rising = tt; each = λ x c. absurd (none_in x c); all = λ x p. absurd (none x p) }

module _ {R : Region} {l : Layout} {held : Store} (m : ShowsSound R l held) where
  pub own_undo : undone l.sup R ≡ R
  own_undo = idle_undone l.sup R (layout_of_super R l.sup m.sup) m.idle

  -- what is so of the undone region by its layout is so of the region by this one, and back
  to_own : (P : Region → Layout → Type 0) → P (undone l.sup R) (layout_of l.sup (undone l.sup R)) → P R l
  to_own P h = subst (P R) (sym m.laid) (let Q : Region → Type 0 = λ U. P U (layout_of l.sup U) in subst Q own_undo h)

  from_own : (P : Region → Layout → Type 0) → P R l → P (undone l.sup R) (layout_of l.sup (undone l.sup R))
  from_own P h = let Q : Region → Type 0 = λ U. P U (layout_of l.sup U) in subst Q (sym own_undo) (subst (P R) m.laid h)

  no_fault_at_all : (f : Fault) → IsFaulty R l.sup f → ⊥
  no_fault_at_all f (journal h) = idle_faultless l.sup R f m.idle h
  no_fault_at_all f (chain h) = none_in f (subst (λ (fs : List Fault). Contains fs f) m.ended (to_own (λ Q k. Contains (chain_faults l.sup Q) f) h))
  no_fault_at_all f (inode i h) = no_inode_fault m.shows m.faultless.clean i f (to_own (λ Q k. IsFaultOf Q k i f) h)
  no_fault_at_all f (cross h) = no_faults (graph_shown m.shows) m.faultless.named f (to_own (λ Q k. IsCrossFault Q k f) h)
  no_fault_at_all _ (double {b = b} {o = o} d) = none_doubled m.shows m.faultless.undoubled b o (to_own (λ Q k. IsDoubled Q k b o) d)

  pub closing : (rows : List Row) (free : List (List Run)) → Keeps l held rows free → IsOutcome R (faultless_outcome l rows free)
  closing rows free keeps = record {
    sup = m.sup;
    tables = from_own (λ Q k. l.chains ≡ k.chains) refl;
    rows = from_own (λ Q k. AreRows Q k rows) (rows_there m.shows rows keeps.in_rows);
    free = from_own (λ Q k. AreFreeLists Q k free) (lists_there m.shows free keeps.in_lists);
    doubled = nothing_listed claim_key _ (λ x d. none_doubled m.shows m.faultless.undoubled x.0 x.1 (to_own (λ Q k. IsDoubled Q k x.0 x.1) d));
    faults = nothing_listed fault_key _ no_fault_at_all;
  }

  -- The outcome has no faults, and its rows and free lists are those of what is held.
  module _ (o : Outcome) (is : IsOutcome R o) where
    same_super : o.sup ≡ l.sup
    same_super = one_super R l.sup o.sup m.sup is.sup

    pub outcome_faultless : o.faults ≡ []
    outcome_faultless = none_listed o.faults (λ f c. no_fault_at_all f (subst (λ (t : Super). IsFaulty R t f) same_super (is.faults.each f c)))

    rows_of : AreRows R l o.rows
    rows_of = to_own (λ Q k. AreRows Q k o.rows) (subst (λ (t : Super). AreRows (undone t R) (layout_of t (undone t R)) o.rows) same_super is.rows)

    lists_of : AreFreeLists R l o.free
    lists_of = to_own (λ Q k. AreFreeLists Q k o.free) (subst (λ (t : Super). AreFreeLists (undone t R) (layout_of t (undone t R)) o.free) same_super is.free)

    pub outcome_kept : Keeps l held o.rows o.free
    outcome_kept = record {
      in_rows = record {
        rising = rows_of.rising;
        each = λ row c. (let r = rows_of.each row c in let w = is_held m.shows row.inode r.0 r.1 r.2.inode in (w.h, w.held_is, kept r.0 r.1 row r.2 w));
        all = λ i h e. rows_of.all i (in_use m.shows i h e);
      };
      in_lists = record {
        pools = lists_of.pools;
        each = λ cpu below. AreRuns-same _ _ _ (λ b w. (w.0, free_back m.shows b w.1)) (λ b w. (w.0, free_there m.shows b w.1)) (lists_of.each cpu below);
      };
    } where
      kept : (a : ℕ) (log : Log) (row : Row) (r : IsRow R l a log row) (w : IsHeld R l held row.inode a log) → KeepsRow l w.h row
      kept a log row r w = record {
        kind = r.kind ∙ ap (λ (x : Log). x.kind) w.same;
        numbers = subst (λ (t : ℕ). AreNumbers t (good_in l w.h) row.numbers) w.is.created (subst (λ (x : Log). AreNumbers (word R (a + 32)) (good_of l x) row.numbers) w.same r.numbers);
        head = r.head ∙ w.is.head;
        tail = r.tail ∙ w.is.tail;
        pages = r.pages ∙ ap (λ (x : Log). x.pages) w.same;
        index = λ p. r.index p ∙ ap (λ (x : Log). block_of (good_of l x) p) w.same;
        names = λ q. r.names q ∙ ap (λ (x : Log). named (good_of l x) q) w.same;
      }
