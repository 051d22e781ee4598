-- The parts make up the outcome.
use Rattle.std.proofs.Common.{◌≡◌, ℕ, zero, suc, ◌<◌, ◌≤◌, inl, inr, List, ◌++◌, map, refl, sym, ◌∙◌, subst, arith}
use Rattle.std.specs.List.{Contains}
use Rattle.std.specs.List.Sorted.{IsPermutation}
use Rattle.std.proofs.lemmas.List.Sorted.{Contains-permutation, IsPermutation-sym, sum_by-IsPermutation}
use Rattle.std.proofs.lemmas.List.Elements.{Contains-append_left, Contains-append_right, Contains-append_cases}
use Rattle.std.proofs.Math.Nat.{lt_of_lt_of_le}
use Rattle.nv_blockset.specs.BlockSet.{has}
use Rattle.nv_region.specs.Region.{Region}
use Rattle.nv_super.specs.declared.superblock.Super.{Super}
use Rattle.nv_super.specs.declared.owners.Owner.{Owner}
use Rattle.nv_super.specs.declared.faults.Fault.{Fault}
use Rattle.nv_super.specs.Layout.{Layout, system_blocks, InPool}
use Rattle.nv_super.specs.Order.{claim_key}
use Rattle.nv_super.specs.Super.{IsSuper}
use Rattle.nv_super.proofs.Pools.{pools_from, pools_to}
use Rattle.nv_super.proofs.Sorted.{one_owner}
use Rattle.nv_super.specs.Owners.{claims_of}
use Rattle.nv_super.proofs.Members.{into_map, from_map}
use Rattle.nv_super.proofs.Rising.{Lists-same}
use Rattle.nv_inode.specs.Chains.{IsLaid, chain_faults, chains_in, layout_of}
use Rattle.nv_journal.specs.Undo.{undone}
use Rattle.nv_alloc.specs.FreeValue.{FreeLists}
use Rattle.nv_alloc.proofs.Changed.{AreRuns-same}
use Rattle.nv_scan.specs.Owners.{Owns}
use Rattle.nv_scan.specs.Faults.{Has}
use Rattle.nv_scan.specs.Work.{claims_in}
use Rattle.nv_scan.specs.declared.piece.Piece.{Piece}
use Rattle.nv_outcome.specs.Outcome.{IsFree, IsDoubled, IsFaulty, journal, chain, inode, cross, double, IsOutcome}
use Rattle.nv_outcome.specs.Parts.{ArePieces, AreMaps, AreParts, rows_in, faults_in, double_fault}
use Rattle.nv_inode.proofs.ReadChains.{region_laid}
use Rattle.nv_outcome.proofs.Counts.{counted, some_claim, counted_twice, two_claims}
use Rattle.nv_outcome.proofs.Pieces.{owned_claimed, claimed_owned, claims_once, own_faults}
use Rattle.nv_outcome.proofs.RowsOf.{rows_are}
use Rattle.nv_outcome.proofs.CrossLaw.{cross_there, cross_back}
use Rattle.nv_outcome.proofs.SuperOf.{layout_of_super}

-- what one claim list says of a block, the other says too
same_count : (xs ys : List (ℕ × Owner)) (b : ℕ) → IsPermutation xs ys → claims_of b ys ≡ claims_of b xs
same_count xs ys b p = sum_by-IsPermutation _ xs ys p

module _ {R : Region} {l : Layout} (ps : List Piece) (cs : List (ℕ × Owner)) (first second : List ℕ) (laid : IsLaid l) (h : ArePieces R l ps) (p : IsPermutation (claims_in ps) cs) (m : AreMaps cs first second) where
  pub owned_counted : (b : ℕ) (o : Owner) → Owns R l b o → has first b ≡ 1
  owned_counted b o q =
      let c = counted (claims_in ps) b o (owned_claimed ps laid h b o q) in let e = same_count (claims_in ps) cs b p in let f = m.once b in omega (arith, c, e, f)

  pub counted_owned : (b : ℕ) → 0 < has first b → (o : Owner) × Owns R l b o
  counted_owned b k =
      let e = same_count (claims_in ps) cs b p in let f = m.once b in
      let more : 0 < claims_of b (claims_in ps) = omega (arith, k, e, f) in
      let w = some_claim (claims_in ps) b more in (w.0, claimed_owned ps h b w.0 w.1)

  doubled_is : (x : ℕ × Owner) → Contains cs x × (has second x.0 ≡ 1) → IsDoubled R l x.0 x.1
  doubled_is x w =
      let e = same_count (claims_in ps) cs x.0 p in let f = m.twice x.0 in
      let more : 1 < claims_of x.0 (claims_in ps) = (let g = w.1 in omega (arith, g, e, f)) in
      let t = two_claims (claims_in ps) x.0 (claims_once ps h) more in
      record {
        owns = claimed_owned ps h x.0 x.1 (Contains-permutation _ _ x (IsPermutation-sym _ _ p) w.0);
        another = elim (one_owner t.one x.1) [
          | inl v ↦ (t.two, (λ u. t.apart (v ∙ sym u)), claimed_owned ps h x.0 t.two t.has_two)
          | inr v ↦ (t.one, v, claimed_owned ps h x.0 t.one t.has_one)
        ];
      }

  is_doubled : (x : ℕ × Owner) → IsDoubled R l x.0 x.1 → Contains cs x × (has second x.0 ≡ 1)
  is_doubled x d =
      let mine = owned_claimed ps laid h x.0 x.1 d.owns in
      let its = owned_claimed ps laid h x.0 d.another.0 d.another.2 in
      let c = counted_twice (claims_in ps) x.0 d.another.0 x.1 d.another.1 its mine in
      let e = same_count (claims_in ps) cs x.0 p in let f = m.twice x.0 in
      (Contains-permutation _ _ x p mine, omega (arith, c, e, f))

module _ {R : Region} {s : Super} {ps : List Piece} {cs : List (ℕ × Owner)} {first second : List ℕ}
    {free : FreeLists} {doubled : List (ℕ × Owner)} {js xs found : List Fault} where
  pub all_faults : IsLaid (layout_of s (undone s R)) → AreParts R s ps cs first second free doubled js xs found → Has (IsFaulty R s) (js ++ (chain_faults s (undone s R) ++ (faults_in ps ++ (xs ++ map double_fault doubled))))
  all_faults laid h = record {
    each = λ f c. elim (Contains-append_cases js _ f c) [
      | inl w ↦ journal (h.in_journals.each f w)
      | inr w ↦ elim (Contains-append_cases chained _ f w) [ inl v ↦ chain v | inr v ↦ further laid h f v ]
    ];
    all = stands laid h;
  } where
    chained : List Fault
    chained = chain_faults s (undone s R)

    further : IsLaid (layout_of s (undone s R)) → AreParts R s ps cs first second free doubled js xs found → (f : Fault) → Contains (faults_in ps ++ (xs ++ map double_fault doubled)) f → IsFaulty R s f
    further laid h f w = elim (Contains-append_cases (faults_in ps) _ f w) [
      | inl v ↦ (let q = (own_faults ps h.scanned).each f v in inode q.0 q.1)
      | inr v ↦ elim (Contains-append_cases xs _ f v) [
        | inl u ↦ cross (cross_there (rows_are ps h.scanned) f (h.between.each f u))
        | inr u ↦ (
            let q = from_map double_fault doubled f u in
            let P : Fault → Type 0 = λ g. IsFaulty R s g in
            subst P (sym q.2) (double (doubled_is ps cs first second laid h.scanned h.claimed h.maps q.0 (h.owned_twice.each q.0 q.1))))
      ]
    ]

    behind : (f : Fault) → Contains (faults_in ps ++ (xs ++ map double_fault doubled)) f → Contains (js ++ (chained ++ (faults_in ps ++ (xs ++ map double_fault doubled)))) f
    behind f c = Contains-append_right js _ f (Contains-append_right chained _ f c)

    stands : IsLaid (layout_of s (undone s R)) → AreParts R s ps cs first second free doubled js xs found → (f : Fault) → IsFaulty R s f → Contains (js ++ (chained ++ (faults_in ps ++ (xs ++ map double_fault doubled)))) f
    stands laid h f (journal w) = Contains-append_left js _ f (h.in_journals.all f w)
    stands laid h f (chain w) = Contains-append_right js _ f (Contains-append_left chained _ f w)
    stands laid h f (inode i v) = behind f (Contains-append_left (faults_in ps) _ f ((own_faults ps h.scanned).all f (i, v)))
    stands laid h f (cross u) = behind f (Contains-append_right (faults_in ps) _ f (Contains-append_left xs _ f (h.between.all f (cross_back (rows_are ps h.scanned) f u))))
    stands laid h _ (double {b = b} {o = o} d) = behind _ (Contains-append_right (faults_in ps) _ _ (Contains-append_right xs _ _
        (into_map double_fault doubled (b, o) (h.owned_twice.all (b, o) (is_doubled ps cs first second laid h.scanned h.claimed h.maps (b, o) d)))))

  free_is : IsLaid (layout_of s (undone s R)) → AreParts R s ps cs first second free doubled js xs found → system_blocks s ≤ s.blocks → (c : ℕ) → c < s.cpus → (b : ℕ) → InPool s c b × (has first b ≡ 0) → InPool s c b × IsFree (undone s R) (layout_of s (undone s R)) b
  free_is laid h room c lt b w = (
    w.0,
    record {
      from = (let f = pools_from s c in let g = w.0.0 in le_le f g);
      below = (let f = pools_to s c lt room in let g = w.0.1 in lt_of_lt_of_le g f);
      unowned = λ o q. (let f = owned_counted ps cs first second laid h.scanned h.claimed h.maps b o q in let g = w.1 in omega (arith, f, g));
    },
  ) where
    le_le : {k m n : ℕ} → k ≤ m → m ≤ n → k ≤ n
    le_le p q = omega arith

  is_free : IsLaid (layout_of s (undone s R)) → AreParts R s ps cs first second free doubled js xs found → (c b : ℕ) → InPool s c b × IsFree (undone s R) (layout_of s (undone s R)) b → InPool s c b × (has first b ≡ 0)
  is_free laid h c b w = (w.0, none (has first b) (λ k. (let o = counted_owned ps cs first second laid h.scanned h.claimed h.maps b k in w.1.unowned o.0 o.1))) where
    none : (n : ℕ) → (0 < n → ⊥) → n ≡ 0
    none zero f = refl
    none (suc n) f = absurd (f (omega arith))

  pub parts_outcome : IsSuper R s → AreParts R s ps cs first second free doubled js xs found
      → IsOutcome R (record { sup = s; tables = chains_in s (undone s R); rows = rows_in ps; free = free.pools; doubled = doubled; faults = found })
  parts_outcome is h = record {
    sup = is;
    tables = refl;
    rows = rows_are ps h.scanned;
    free = record {
      pools = h.outside.count;
      each = λ c lt. AreRuns-same _ _ _ (free_is laid h room c lt) (is_free laid h c) (h.outside.each c lt);
    };
    doubled = Lists-same claim_key _ _ doubled (doubled_is ps cs first second laid h.scanned h.claimed h.maps) (is_doubled ps cs first second laid h.scanned h.claimed h.maps) h.owned_twice;
    faults = record {
      rising = h.all.rising;
      each = λ f c. (all_faults laid h).each f (h.all.from f c);
      all = λ f q. h.all.kept f ((all_faults laid h).all f q);
    };
  } where
    laid : IsLaid (layout_of s (undone s R))
    laid = region_laid s (undone s R) (layout_of_super R s is)

    room : system_blocks s ≤ s.blocks
    room = let layout = layout_of_super R s is in omega (arith, layout.areas.room)
