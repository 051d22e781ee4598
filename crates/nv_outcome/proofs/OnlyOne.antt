-- A region has one outcome.
use Rattle.std.proofs.Common.{◌≡◌, ℕ, ◌<◌, List, [], ◌∷◌, map, ap, sym, ◌∙◌, subst, arith}
use Rattle.std.specs.List.{Contains}
use Rattle.std.proofs.lemmas.List.{same_lists, get_or_default}
use Rattle.nv_region.specs.Region.{Region}
use Rattle.nv_super.specs.declared.superblock.Super.{Super}
use Rattle.nv_super.specs.declared.owners.Owner.{Owner}
use Rattle.nv_super.specs.declared.owners.Run.{Run}
use Rattle.nv_super.specs.Layout.{Layout, InPool}
use Rattle.nv_super.specs.Order.{Rises, Lists, claim_key, fault_key}
use Rattle.nv_super.proofs.Rising.{Contains-head, Contains-tail, Lists-only}
use Rattle.nv_super.proofs.Runs.{AreRuns-only}
use Rattle.nv_super.proofs.Members.{into_map, from_map}
use Rattle.nv_inode.specs.Chains.{chains_in, layout_of}
use Rattle.nv_journal.specs.Undo.{undone}
use Rattle.nv_alloc.specs.Taking.{pool_at}
use Rattle.nv_scan.specs.Inode.{Log, IsInode, IsInUse}
use Rattle.nv_scan.specs.Rows.{IsRow}
use Rattle.nv_scan.specs.declared.piece.Row.{Row}
use Rattle.nv_scan.proofs.Only.{IsInode-only}
use Rattle.nv_cross_check.specs.Cross.{row_key}
use Rattle.nv_outcome.specs.Outcome.{AreRows, IsFree, AreFreeLists, IsDoubled, IsFaulty, Outcome, IsOutcome}
use Rattle.nv_outcome.specs.Same.{SameRow, SameRows, SameOutcome}
use Rattle.nv_outcome.proofs.SuperOf.{one_super}

-- ---- rows

abbrev number_key : ℕ → List ℕ
number_key i = i ∷ []

inodes_rise : (rows : List Row) → Rises row_key rows → Rises number_key (map (λ (r : Row). r.inode) rows)
inodes_rise [] h = tt
inodes_rise (x ∷ []) h = tt
inodes_rise (x ∷ y ∷ rows) h = (h.0, inodes_rise (y ∷ rows) h.1)

module _ {R : Region} {l : Layout} where
  -- two rows of one inode
  same_row : (i a b : ℕ) (log other : Log) (x y : Row) → IsRow R l a log x → IsRow R l b other y → x.inode ≡ i → y.inode ≡ i → SameRow x y
  same_row i a b log other x y p q e f = of_one (subst (λ (v : Log). IsRow R l a v y) (sym one.1) (subst (λ (n : ℕ). IsRow R l n other y) (sym one.0) q)) where
    one : (a ≡ b) × (log ≡ other)
    one = IsInode-only (subst (λ (j : ℕ). IsInode R l j a log) e p.inode) (subst (λ (j : ℕ). IsInode R l j b other) f q.inode)

    of_one : IsRow R l a log y → SameRow x y
    of_one r = record {
      inode = f ∙ sym e;
      kind = r.kind ∙ sym p.kind;
      numbers = λ k. record {
        size = (r.numbers.size ∙ sym p.numbers.size) k;
        mode = (r.numbers.mode ∙ sym p.numbers.mode) k;
        owner = (r.numbers.owner ∙ sym p.numbers.owner) k;
        group = (r.numbers.group ∙ sym p.numbers.group) k;
        links = (r.numbers.links ∙ sym p.numbers.links) k;
        time = (r.numbers.time ∙ sym p.numbers.time) k;
      };
      head = r.head ∙ sym p.head;
      tail = r.tail ∙ sym p.tail;
      pages = r.pages ∙ sym p.pages;
      index = λ n. r.index n ∙ sym (p.index n);
      names = λ n. r.names n ∙ sym (p.names n);
    }

  same_in_turn : (xs ys : List Row) → map (λ (r : Row). r.inode) xs ≡ map (λ (r : Row). r.inode) ys → ((r : Row) → Contains xs r → (a : ℕ) × (log : Log) × IsRow R l a log r) → ((r : Row) → Contains ys r → (a : ℕ) × (log : Log) × IsRow R l a log r)
      → SameRows xs ys
  same_in_turn [] [] e p q = tt
  same_in_turn [] (y ∷ ys) e p q = absurd (cc)
  same_in_turn (x ∷ xs) [] e p q = absurd (cc)
  same_in_turn (x ∷ xs) (y ∷ ys) e p q =
      let heads : y.inode ≡ x.inode = cc in
      let rest : map (λ (r : Row). r.inode) xs ≡ map (λ (r : Row). r.inode) ys = cc in
      let mine = p x (Contains-head x xs) in
      let its = q y (Contains-head y ys) in (
        same_row x.inode mine.0 its.0 mine.1 its.1 x y mine.2 its.2 (λ _. x.inode) heads,
        same_in_turn xs ys rest (λ r c. p r (Contains-tail x xs r c)) (λ r c. q r (Contains-tail y ys r c)),
      )

  -- the inodes of the rows are those in use
  inodes_in_use : (rows : List Row) → AreRows R l rows → Lists number_key (IsInUse R l) (map (λ (r : Row). r.inode) rows)
  inodes_in_use rows are = record {
    rising = inodes_rise rows are.rising;
    each = λ i c. (
        let w = from_map (λ (r : Row). r.inode) rows i c in
        let q = are.each w.0 w.1 in
        let P : ℕ → Type 0 = λ j. IsInUse R l j in subst P (sym w.2) (q.0, q.1, q.2.inode));
    all = λ i u. (
        let w = are.all i u in
        let P : ℕ → Type 0 = λ j. Contains (map (λ (r : Row). r.inode) rows) j in subst P w.2 (into_map (λ (r : Row). r.inode) rows w.0 w.1));
  }

  pub same_rows : (xs ys : List Row) → AreRows R l xs → AreRows R l ys → SameRows xs ys
  same_rows xs ys p q = same_in_turn xs ys (Lists-only number_key (IsInUse R l) _ _ (inodes_in_use xs p) (inodes_in_use ys q)) p.each q.each

  -- ---- free lists

  pub same_free : (xs ys : List (List Run)) → AreFreeLists R l xs → AreFreeLists R l ys → ys ≡ xs
  same_free xs ys p q = same_lists ys xs (q.pools ∙ sym p.pools) (λ k d below. (
      let pools = q.pools in
      let cpu : k < l.sup.cpus = omega (arith, pools, below) in
      get_or_default ys k d [] below
      ∙ AreRuns-only (λ b. InPool l.sup k b × IsFree R l b) (pool_at ys k) (pool_at xs k) (q.each k cpu) (p.each k cpu)
      ∙ sym (get_or_default xs k d [] (let others = p.pools in omega (arith, others, cpu)))))

-- ---- all of it

pub same_outcome : (R : Region) (a b : Outcome) → IsOutcome R a → IsOutcome R b → SameOutcome a b
same_outcome R a b p q = record {
  sup = e;
  tables = q.tables ∙ ap (λ (s : Super). chains_in s (undone s R)) e ∙ sym p.tables;
  rows = same_rows a.rows b.rows p.rows (subst (λ (s : Super). AreRows (undone s R) (layout_of s (undone s R)) b.rows) e q.rows);
  free = same_free a.free b.free p.free (subst (λ (s : Super). AreFreeLists (undone s R) (layout_of s (undone s R)) b.free) e q.free);
  doubled = Lists-only claim_key _ b.doubled a.doubled (subst (λ (s : Super). Lists claim_key (λ (x : ℕ × Owner). IsDoubled (undone s R) (layout_of s (undone s R)) x.0 x.1) b.doubled) e q.doubled) p.doubled;
  faults = Lists-only fault_key _ b.faults a.faults (subst (λ (s : Super). Lists fault_key (IsFaulty R s) b.faults) e q.faults) p.faults;
} where
  e : b.sup ≡ a.sup
  e = one_super R a.sup b.sup p.sup q.sup
