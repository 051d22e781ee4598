-- Each region whose superblock is accepted has an outcome.
use Rattle.std.proofs.Common.{◌≡◌, ◌≢◌, ◌⊎◌, inl, inr, ℕ, zero, suc, ◌+◌, ◌<◌, ◌≤◌, IsTrue, List, [], ◌∷◌, ◌++◌, length, get_or, Option, Some, None, refl, sym, ap, ◌∙◌, subst, arith}
use Rattle.std.specs.List.{Contains}
use Rattle.std.proofs.lemmas.Bool.{cases_lt}
use Rattle.std.proofs.lemmas.Bool.Decides.{nat_tests}
use Rattle.std.proofs.lemmas.List.Elements.{Contains-append_left, Contains-append_right, Contains-append_cases}
use Rattle.nv_region.specs.Region.{Region}
use Rattle.nv_super.specs.declared.superblock.Super.{Super}
use Rattle.nv_super.specs.declared.owners.Owner.{Owner}
use Rattle.nv_super.specs.declared.owners.Run.{Run}
use Rattle.nv_super.specs.declared.faults.Fault.{Fault}
use Rattle.nv_super.specs.declared.faults.Fault.TheVariants as faults
use Rattle.nv_super.specs.Layout.{Layout, system_blocks, pool_start, is_name_number, name_limit, slot_of, InPool}
use Rattle.nv_super.specs.Order.{Rises, fault_key, claim_key}
use Rattle.nv_super.specs.Runs.{AreRuns}
use Rattle.nv_super.specs.Super.{IsSuper}
use Rattle.nv_super.proofs.Pools.{pools_from, pools_to}
use Rattle.nv_super.proofs.Rising.{Contains-cons, Contains-head, below_first, rises_append}
use Rattle.nv_super.proofs.Sorted.{one_owner, fault_key_only, claim_key_only}
use Rattle.nv_super.proofs.Members.{none_in}
use Rattle.nv_inode.specs.Chains.{IsLaid, chain_faults, chains_in, layout_of}
use Rattle.nv_inode.proofs.NameNumbers.{slot_named}
use Rattle.nv_inode.proofs.ReadChains.{region_laid}
use Rattle.nv_journal.specs.Undo.{undone}
use Rattle.nv_journal.specs.Faults.{HasFault}
use Rattle.nv_alloc.proofs.Changed.{AreRuns-same}
use Rattle.nv_scan.specs.Inode.{Log, IsInUse}
use Rattle.nv_scan.specs.Owners.{Owns}
use Rattle.nv_scan.specs.Faults.{IsFaultOf}
use Rattle.nv_scan.specs.Rows.{IsRow}
use Rattle.nv_scan.specs.declared.piece.Row.{Row}
use Rattle.nv_scan.proofs.Existing.{slot_of_fault, inode_faults, row_or_none}
use Rattle.nv_scan.proofs.Only.{slot_in_use}
use Rattle.nv_cross_check.specs.Cross.{row_key}
use Rattle.nv_outcome.specs.Outcome.{AreRows, IsFree, AreFreeLists, IsDoubled, IsCrossFault, IsFaulty, journal, chain, inode, cross, double, Outcome, IsOutcome}
use Rattle.nv_outcome.proofs.Finite.{Decided, both, not_so, told_as, number_is, Finite, only, numbers, by_name, either, over, those, some, in_order}
use Rattle.nv_outcome.proofs.FreeRuns.{runs_between}
use Rattle.nv_outcome.proofs.CrossFinite.{cross_listed}
use Rattle.nv_outcome.proofs.CrossLaw.{cross_there, cross_back}
use Rattle.nv_outcome.proofs.JournalFinite.{journal_listed}
use Rattle.nv_outcome.proofs.OwnersOf.{claimed, owned_or_not}
use Rattle.nv_outcome.proofs.SuperOf.{layout_of_super}

named_below : (s : Super) (i : ℕ) → IsTrue (is_name_number s i) → i < name_limit s
named_below s i named = grind (arith, nat_tests)

none_some : {a : ℕ} → None ≡ Some a → ⊥
none_some e = cc

-- a list of n values, one for each number below
tabled : {A : Type 0} (n : ℕ) (Q : ℕ → A → Type 0) (d : A) → ((k : ℕ) → k < n → (x : A) × Q k x) → (xs : List A) × (length xs ≡ n) × ((k : ℕ) → k < n → Q k (get_or xs k d))
tabled zero Q d f = ([], refl, λ k less. absurd (omega arith))
tabled {A} (suc n) Q d f = one_more (f 0 (omega arith)) (tabled n (λ k. Q (suc k)) d (λ k less. f (suc k) (omega (arith, less)))) where
  one_more : (x : A) × Q 0 x → (xs : List A) × (length xs ≡ n) × ((k : ℕ) → k < n → Q (suc k) (get_or xs k d)) → (xs : List A) × (length xs ≡ suc n) × ((k : ℕ) → k < suc n → Q k (get_or xs k d))
  one_more first rest = (first.0 ∷ rest.0, ap suc rest.1, at) where
    at : (k : ℕ) → k < suc n → Q k (get_or (first.0 ∷ rest.0) k d)
    at zero less = first.1
    at (suc k) less = rest.2 k (omega (arith, less))

module _ (R : Region) (l : Layout) (laid : IsLaid l) where
  -- a number with a slot is below that of all names
  number : (i a : ℕ) → slot_of l i ≡ Some a → i < name_limit l.sup
  number i a slot = named_below l.sup i (slot_named l i a laid slot)

  -- ---- rows

  HasRow : ℕ → Type 0
  HasRow i = (row : Row) × (row.inode ≡ i) × ((a : ℕ) × (log : Log) × IsRow R l a log row)

  row_at : (i : ℕ) → HasRow i ⊎ (IsInUse R l i → ⊥)
  unfolding HasRow
  row_at i = by (slot_of l i) refl where
    by : (slot : Option ℕ) → slot_of l i ≡ slot → HasRow i ⊎ (IsInUse R l i → ⊥)
    by None e = inr (λ u. absurd (none_some (sym e ∙ slot_in_use u.2)))
    by (Some a) e = row_or_none R l i a e

  -- the rows of the inodes whose numbers are below this one
  record RowsBelow (n : ℕ) : Type 0 where
    list : List Row
    rising : Rises row_key list
    low : (row : Row) → Contains list row → row.inode < n
    each : (row : Row) → Contains list row → (a : ℕ) × (log : Log) × IsRow R l a log row
    all : (i : ℕ) → i < n → IsInUse R l i → (row : Row) × Contains list row × (row.inode ≡ i)

  last_or_less : (i n : ℕ) → i < suc n → (i ≡ n) ⊎ (i < n)
  last_or_less i n less = elim (cases_lt i n) [ inl below ↦ inr below | inr past ↦ inl (omega (arith, less, past)) ]

  row_more : (n : ℕ) → RowsBelow n → HasRow n ⊎ (IsInUse R l n → ⊥) → RowsBelow (suc n)
  unfolding HasRow
  row_more n rest (inr unused) = record {
    list = rest.list;
    rising = rest.rising;
    low = λ row c. (let less = rest.low row c in omega (arith, less));
    each = rest.each;
    all = λ i less u. elim (last_or_less i n less) [
      | inl same ↦ absurd (unused (subst (IsInUse R l) same u))
      | inr below ↦ rest.all i below u
    ];
  }
  row_more n rest (inl mine) = record {
    list = rest.list ++ mine.0 ∷ [];
    rising = rises_append row_key rest.list (mine.0 ∷ []) rest.rising tt (λ x y c d. below_first x.inode y.inode [] []
        (let less = rest.low x c in let number = subst (λ (z : Row). z.inode ≡ n) (sym (is_mine y d)) mine.1 in omega (arith, less, number)));
    low = λ row c. elim (Contains-append_cases rest.list (mine.0 ∷ []) row c) [
      | inl w ↦ (let less = rest.low row w in omega (arith, less))
      | inr w ↦ (let number = subst (λ (z : Row). z.inode ≡ n) (sym (is_mine row w)) mine.1 in omega (arith, number))
    ];
    each = λ row c. elim (Contains-append_cases rest.list (mine.0 ∷ []) row c) [
      | inl w ↦ rest.each row w
      | inr w ↦ subst (λ (z : Row). (a : ℕ) × (log : Log) × IsRow R l a log z) (sym (is_mine row w)) mine.2
    ];
    all = λ i less u. elim (last_or_less i n less) [
      | inl same ↦ (mine.0, Contains-append_right rest.list (mine.0 ∷ []) mine.0 (Contains-head mine.0 []), subst (λ (k : ℕ). mine.0.inode ≡ k) (sym same) mine.1)
      | inr below ↦ (let r = rest.all i below u in (r.0, Contains-append_left rest.list (mine.0 ∷ []) r.0 r.1, r.2))
    ];
  } where
    is_mine : (row : Row) → Contains (mine.0 ∷ []) row → row ≡ mine.0
    is_mine row c = elim (Contains-cons mine.0 [] row c) [ inl e ↦ e | inr w ↦ absurd (none_in row w) ]

  rows_below : (n : ℕ) → n ≤ name_limit l.sup → RowsBelow n
  rows_below zero all = record { list = []; rising = tt; low = λ row c. absurd (none_in row c); each = λ row c. absurd (none_in row c); all = λ i less u. absurd (omega arith) }
  rows_below (suc n) all = row_more n (rows_below n (omega (arith, all))) (row_at n)

  rows : (rows : List Row) × AreRows R l rows
  rows = let r = rows_below (name_limit l.sup) (omega arith) in (
    r.list,
    record {
      rising = r.rising;
      each = r.each;
      all = λ i u. r.all i (number i u.0 (slot_in_use u.2)) u;
    },
  )

  -- ---- the faults of inodes alone

  faults_at : (i : ℕ) → Finite (IsFaultOf R l i)
  faults_at i = by (slot_of l i) refl where
    by : (slot : Option ℕ) → slot_of l i ≡ slot → Finite (IsFaultOf R l i)
    by None e = ([], record { each = λ f c. absurd (none_in f c); all = λ f h. absurd (let w = slot_of_fault h in none_some (sym e ∙ w.1)) })
    by (Some a) e = inode_faults R l i a e

  own_faults : Finite (λ f. (i : ℕ) × IsFaultOf R l i f)
  own_faults = by_name (λ f w. (w.0, w.2)) (λ f h. (let w = slot_of_fault h.1 in (h.0, number h.0 w.0 w.1, h.1))) (over (numbers (name_limit l.sup)) faults_at)

  module _ (all : List Row) (are : AreRows R l all) where
    -- ---- free blocks

    free_of : (cpu : ℕ) → cpu < l.sup.cpus → (runs : List Run) × AreRuns (λ b. InPool l.sup cpu b × IsFree R l b) runs
    free_of cpu below = (
      r.0,
      AreRuns-same _ _ r.0 (λ b w. (
        (w.0, w.1),
        record {
          from = (let low = pools_from l.sup cpu in let here = w.0 in omega (arith, low, here));
          below = (let high = pools_to l.sup cpu below room in let here = w.1 in omega (arith, high, here));
          unowned = λ o q. w.2 (o, q);
        },
      )) (λ b w. (w.0.0, w.0.1, λ q. w.1.unowned q.0 q.1)) r.1,
    ) where
      room : system_blocks l.sup ≤ l.sup.blocks
      room = omega (arith, laid.layout.areas.room)

      r : (runs : List Run) × AreRuns (λ b. (pool_start l.sup cpu ≤ b) × (b < pool_start l.sup (cpu + 1)) × ((o : Owner) × Owns R l b o → ⊥)) runs
      r = runs_between (λ b. (o : Owner) × Owns R l b o → ⊥) (λ b. not_so (owned_or_not are b)) (pool_start l.sup cpu) (pool_start l.sup (cpu + 1))

    free_lists : (free : List (List Run)) × AreFreeLists R l free
    free_lists = let t = tabled l.sup.cpus (λ cpu runs. AreRuns (λ b. InPool l.sup cpu b × IsFree R l b) runs) [] free_of in (t.0, record { pools = t.1; each = t.2 })

    -- ---- doubled blocks

    doubled : Finite (λ (x : ℕ × Owner). IsDoubled R l x.0 x.1)
    doubled = by_name (λ x w. record { owns = w.0; another = w.1 }) (λ x d. (d.owns, d.another)) (those Another (claimed are) another_or_not) where
      Another : ℕ × Owner → Type 0
      Another x = (other : Owner) × (other ≢ x.1) × Owns R l x.0 other

      another_or_not : (x : ℕ × Owner) → Decided (Another x)
      another_or_not x = told_as
          (λ w. (w.0.1, w.1.1.1, subst (λ (b : ℕ). Owns R l b w.0.1) w.1.1.0 w.1.0))
          (λ h. ((x.0, h.0), (h.2, (refl, h.1))))
          (some (those (λ (y : ℕ × Owner). (y.0 ≡ x.0) × (y.1 ≢ x.1)) (claimed are) (λ y. both (number_is y.0 x.0) (not_so (one_owner y.1 x.1)))))

-- ---- all of it

module _ (R : Region) (s : Super) (is : IsSuper R s) where
  abbrev l : Layout
  l = layout_of s (undone s R)

  laid : IsLaid (layout_of s (undone s R))
  laid = region_laid s (undone s R) (layout_of_super R s is)

  module _ (all : List Row) (are : AreRows (undone s R) (layout_of s (undone s R)) all) where
    Doubles : Fault → Type 0
    Doubles f = (x : ℕ × Owner) × IsDoubled (undone s R) (layout_of s (undone s R)) x.0 x.1 × (f ≡ faults.B1 x.0 x.1)

    AnyOf : Fault → Type 0
    AnyOf f = HasFault s R f ⊎ (Contains (chain_faults s (undone s R)) f ⊎ (((i : ℕ) × IsFaultOf (undone s R) (layout_of s (undone s R)) i f) ⊎ (IsCrossFault (undone s R) (layout_of s (undone s R)) f ⊎ Doubles f)))

    -- what stands in a list is finite
    listed : (fs : List Fault) → Finite (λ f. Contains fs f)
    listed fs = (fs, record { each = λ f c. c; all = λ f c. c })

    any_of : Finite AnyOf
    unfolding AnyOf Doubles
    any_of = either (journal_listed s R) (either (listed (chain_faults s (undone s R))) (either (own_faults (undone s R) l laid)
        (either (by_name (cross_there are) (cross_back are) (cross_listed all)) (over (doubled (undone s R) l laid all are) (λ (x : ℕ × Owner). only (faults.B1 x.0 x.1))))))

    there : (f : Fault) → AnyOf f → IsFaulty R s f
    unfolding AnyOf Doubles
    there f (inl w) = journal w
    there f (inr (inl w)) = chain w
    there f (inr (inr (inl w))) = inode w.0 w.1
    there f (inr (inr (inr (inl w)))) = cross w
    there f (inr (inr (inr (inr w)))) = subst (IsFaulty R s) (sym w.2) (double w.1)

    back : (f : Fault) → IsFaulty R s f → AnyOf f
    unfolding AnyOf Doubles
    back f (journal w) = inl w
    back f (chain w) = inr (inl w)
    back f (inode i w) = inr (inr (inl (i, w)))
    back f (cross w) = inr (inr (inr (inl w)))
    back _ (double {b = b} {o = o} w) = inr (inr (inr (inr ((b, o), w, refl))))

    all_faults : Finite (IsFaulty R s)
    all_faults = by_name there back any_of

    with_rows : (o : Outcome) × (o.sup ≡ s) × IsOutcome R o
    with_rows =
        let free = free_lists (undone s R) l laid all are in
        let twice = in_order claim_key claim_key_only (doubled (undone s R) l laid all are) in
        let found = in_order fault_key fault_key_only all_faults in
        (record { sup = s; tables = chains_in s (undone s R); rows = all; free = free.0; doubled = twice.0; faults = found.0 }, refl, record { sup = is; tables = refl; rows = are; free = free.1; doubled = twice.1; faults = found.1 })

  pub has_outcome : (o : Outcome) × (o.sup ≡ s) × IsOutcome R o
  has_outcome = let r = rows (undone s R) l laid in with_rows r.0 r.1
