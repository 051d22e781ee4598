-- The claims of chains and those of rows are all that is owned.
use Rattle.std.proofs.Common.{◌≡◌, ◌⊎◌, inl, inr, ℕ, suc, zero, ◌+◌, ◌<◌, ◌≤◌, List, [], ◌∷◌, ◌++◌, length, take, get_or, Some, refl, ap, sym, ◌∙◌, subst, arith, append-nil}
use Rattle.std.specs.Prelude.{slice_get}
use Rattle.std.specs.List.{Contains, flat_map, range_with_len}
use Rattle.std.proofs.lemmas.Grind.{flat_map-append}
use Rattle.std.proofs.lemmas.List.Elements.{Contains-append_left, Contains-append_right, Contains-append_cases}
use Rattle.nv_region.specs.Region.{Region}
use Rattle.nv_super.specs.declared.owners.Owner.{Owner}
use Rattle.nv_super.specs.declared.owners.Owner.TheVariants as owners
use Rattle.nv_super.specs.Layout.{IsLayout, Layout, chain_of}
use Rattle.nv_super.proofs.Members.{from_flat, into_flat, none_in}
use Rattle.nv_super.proofs.Ranges.{one_more}
use Rattle.nv_super.proofs.Rising.{Contains-cons, Contains-head, Contains-tail}
use Rattle.nv_inode.specs.Chains.{IsLaid}
use Rattle.nv_scan.specs.ChainBlocks.{chain_claims, claims_of_chains}
use Rattle.nv_scan.specs.Claims.{AreClaimsOf, IsClaim, of_log, of_page}
use Rattle.nv_scan.specs.Inode.{Log, IsInode}
use Rattle.nv_scan.specs.Owners.{AreAllClaims, Owns, by_log, by_page, by_table}
use Rattle.nv_scan.specs.Rows.{HasRows, IsRow}
use Rattle.nv_scan.specs.declared.piece.Row.{Row}
use Rattle.nv_scan.proofs.Blocks.{data_pages}
use Rattle.nv_scan.proofs.ChainBlocks.{chain_cpu}
use Rattle.nv_scan.proofs.Only.{IsInode-only}
use Rattle.nv_scan.proofs.RowClaims.{HasSmall}

-- ---- chains

-- one block of a chain more
pub chain_more : (c k n : ℕ) (blocks : List ℕ) (b : ℕ) → n < length blocks → chain_claims c k (take (n + 1) blocks) ≡ chain_claims c k (take n blocks) ++ (get_or blocks n b, owners.Table c (k + n)) ∷ []
chain_more c k n [] b less = absurd (omega (arith, less))
chain_more c k zero (x ∷ blocks) b less = ap (λ (place : ℕ). (x, owners.Table c place) ∷ []) (let e : k ≡ k + 0 = omega arith in e)
chain_more c k (suc n) (x ∷ blocks) b less =
    ap (λ (m : ℕ). chain_claims c k (take m (x ∷ blocks))) (let e : suc n + 1 ≡ suc (n + 1) = omega arith in e)
    ∙ ap (λ (xs : List (ℕ × Owner)). (x, owners.Table c k) ∷ xs)
    (chain_more c (k + 1) n blocks b (omega (arith, less)) ∙ ap (λ (place : ℕ). chain_claims c (k + 1) (take n blocks) ++ (get_or blocks n b, owners.Table c place) ∷ []) (let e : k + 1 + n ≡ k + suc n = omega arith in e))

-- one chain more
pub chains_more : (l : Layout) (cpus : ℕ) → claims_of_chains l (cpus + 1) ≡ claims_of_chains l cpus ++ chain_claims cpus 0 (chain_of l cpus)
chains_more l cpus =
    ap (flat_map (λ c. chain_claims c 0 (chain_of l c))) (sym (one_more 0 cpus) ∙ ap (λ (c : ℕ). range_with_len 0 cpus ++ c ∷ []) (let e : 0 + cpus ≡ cpus = omega arith in e))
    ∙ flat_map-append (λ c. chain_claims c 0 (chain_of l c)) (range_with_len 0 cpus) (cpus ∷ [])
    ∙ ap (λ (xs : List (ℕ × Owner)). claims_of_chains l cpus ++ xs) (nothing_behind (chain_claims cpus 0 (chain_of l cpus)))
  where
    nothing_behind : (xs : List (ℕ × Owner)) → xs ++ [] ≡ xs
    nothing_behind xs = append-nil xs

-- what is claimed of a chain is a block of it with its place
record IsAt (c : ℕ) (k : ℕ) (blocks : List ℕ) (x : ℕ × Owner) : Type 0 where
  place : ℕ
  block : ℕ
  there : slice_get blocks place ≡ Some block
  is : x ≡ (block, owners.Table c (k + place))

in_chain : (c k : ℕ) (blocks : List ℕ) (x : ℕ × Owner) → Contains (chain_claims c k blocks) x → IsAt c k blocks x
in_chain c k [] x has = absurd (none_in x has)
in_chain c k (b ∷ blocks) x has = elim (Contains-cons (b, owners.Table c k) (chain_claims c (k + 1) blocks) x has) [
  | inl e ↦ record { place = 0; block = b; there = refl; is = e ∙ ap (λ (place : ℕ). (b, owners.Table c place)) (let e : k ≡ k + 0 = omega arith in e) }
  | inr rest ↦ (let w = in_chain c (k + 1) blocks x rest in record { place = suc w.place; block = w.block; there = w.there; is = w.is ∙ ap (λ (place : ℕ). (w.block, owners.Table c place)) (let e : k + 1 + w.place ≡ k + suc w.place = omega arith in e) })
]

of_chain : (c k n b : ℕ) (blocks : List ℕ) → slice_get blocks n ≡ Some b → Contains (chain_claims c k blocks) (b, owners.Table c (k + n))
of_chain c k n b [] there = absurd (cc)
of_chain c k zero b (x ∷ blocks) there =
    let e : x ≡ b = cc in
    let at : k ≡ k + 0 = omega arith in
    subst (λ (y : ℕ × Owner). Contains ((x, owners.Table c k) ∷ chain_claims c (k + 1) blocks) y) (λ i. (e i, owners.Table c (at i))) (Contains-head (x, owners.Table c k) (chain_claims c (k + 1) blocks))
of_chain c k (suc n) b (x ∷ blocks) there =
    let at : k + 1 + n ≡ k + suc n = omega arith in
    Contains-tail (x, owners.Table c k) (chain_claims c (k + 1) blocks) (b, owners.Table c (k + suc n))
    (subst (λ (place : ℕ). Contains (chain_claims c (k + 1) blocks) (b, owners.Table c place)) at (of_chain c (k + 1) n b blocks there))

in_range : (a n i : ℕ) → a ≤ i → i < a + n → Contains (range_with_len a n) i
in_range a zero i low high = absurd (omega (arith, low, high))
in_range a (suc n) i low high = elim (order a i low) [
  | inl e ↦ subst (Contains (range_with_len a (suc n))) e (Contains-head a (range_with_len (a + 1) n))
  | inr more ↦ Contains-tail a (range_with_len (a + 1) n) i (in_range (a + 1) n i more (omega (arith, high)))
]
  where
    order : (a i : ℕ) → a ≤ i → (a ≡ i) ⊎ (a + 1 ≤ i)
    order zero zero low = inl refl
    order zero (suc i) low = inr (omega arith)
    order (suc a) zero low = absurd (omega (arith, low))
    order (suc a) (suc i) low = elim (order a i (omega (arith, low))) [ inl e ↦ inl (ap suc e) | inr more ↦ inr (omega (arith, more)) ]

module _ (R : Region) (l : Layout) where
  chains_own : (cpus : ℕ) (b : ℕ) (o : Owner) → Contains (claims_of_chains l cpus) (b, o) → Owns R l b o
  chains_own cpus b o has =
      let w = from_flat (λ c. chain_claims c 0 (chain_of l c)) (range_with_len 0 cpus) (b, o) has in
      let at = in_chain w.0 0 (chain_of l w.0) (b, o) w.2 in
      let from_first : 0 + at.place ≡ at.place = omega arith in
      subst (λ (x : ℕ × Owner). Owns R l x.0 x.1) (sym (at.is ∙ ap (λ (place : ℕ). (at.block, owners.Table w.0 place)) from_first)) (by_table {c = w.0} {k = at.place} {b = at.block} at.there)

  owned_chain : IsLaid l → (c k b : ℕ) → slice_get (chain_of l c) k ≡ Some b → Contains (claims_of_chains l l.sup.cpus) (b, owners.Table c k)
  owned_chain laid c k b there = into_flat (λ c. chain_claims c 0 (chain_of l c)) (range_with_len 0 l.sup.cpus) c (b, owners.Table c k)
      (in_range 0 l.sup.cpus c (omega arith) (let below = chain_cpu l c k b laid there in omega (arith, below))) (subst (λ (place : ℕ). Contains (chain_claims c 0 (chain_of l c)) (b, owners.Table c place)) (let e : 0 + k ≡ k = omega arith in e) (of_chain c 0 k b (chain_of l c) there))

  -- ---- rows

  claim_owned : (row : Row) (a : ℕ) (log : Log) → IsRow R l a log row → (x : ℕ × Owner) → IsClaim row.inode row.pages.items row.index x → Owns R l x.0 x.1
  claim_owned row a log is _ (of_log k b there) = by_log is.inode (ap (λ (pages : List ℕ). slice_get pages k) (sym is.pages) ∙ there)
  claim_owned row a log is _ (of_page p b there) = by_page is.inode (sym (is.index p) ∙ there)

  rows_own : (rows : List Row) (claims : List (ℕ × Owner)) → AreClaimsOf rows claims → ((row : Row) → Contains rows row → (a : ℕ) × (log : Log) × IsRow R l a log row) → (x : ℕ × Owner) → Contains claims x → Owns R l x.0 x.1
  rows_own [] claims none each x has = absurd (none_in x (subst (λ (xs : List (ℕ × Owner)). Contains xs x) none has))
  rows_own (row ∷ rows) claims (own, rest, split, lists, others) each x has = elim (Contains-append_cases own rest x (subst (λ (xs : List (ℕ × Owner)). Contains xs x) split has)) [
    | inl here ↦ (let w = each row (Contains-head row rows) in claim_owned row w.0 w.1 w.2 x (lists.each x here))
    | inr there ↦ rows_own rows rest others (λ r c. each r (Contains-tail row rows r c)) x there
  ]

  -- what a row's inode claims stands among the claims of the rows
  row_claimed : (rows : List Row) (claims : List (ℕ × Owner)) → AreClaimsOf rows claims → (row : Row) → Contains rows row → (x : ℕ × Owner) → IsClaim row.inode row.pages.items row.index x → Contains claims x
  row_claimed [] claims none row c x is = absurd (none_in row c)
  row_claimed (first ∷ rows) claims (own, rest, split, lists, others) row c x is = subst (λ (xs : List (ℕ × Owner)). Contains xs x) (sym split) (elim (Contains-cons first rows row c) [
    | inl e ↦ Contains-append_left own rest x (lists.all x (subst (λ (r : Row). IsClaim r.inode r.pages.items r.index x) e is))
    | inr there ↦ Contains-append_right own rest x (row_claimed rows rest others row there x is)
  ])

  module _ (rows : List Row) (has : HasRows R l rows) (laid : IsLaid l) (own : List (ℕ × Owner)) (are : AreClaimsOf rows own) where
    -- a row of the inode that has this log
    record RowOf (i a : ℕ) (log : Log) : Type 0 where
      row : Row
      there : Contains rows row
      number : row.inode ≡ i
      is : IsRow R l a log row

    row_of : (i a : ℕ) (log : Log) → IsInode R l i a log → RowOf i a log
    row_of i a log is =
        let w = has.all i (a, log, is) in
        let of = has.each w.0 w.1 in
        let same = IsInode-only (subst (λ (n : ℕ). IsInode R l n of.0 of.1) w.2 of.2.inode) is in
        record { row = w.0; there = w.1; number = w.2; is = subst (λ (x : Log). IsRow R l a x w.0) same.1 (subst (λ (n : ℕ). IsRow R l n of.1 w.0) same.0 of.2) }

    claimed : (b : ℕ) (o : Owner) → Owns R l b o → Contains (claims_of_chains l l.sup.cpus ++ own) (b, o)
    claimed b _ (by_table {c = c} {k = k} there) = Contains-append_left (claims_of_chains l l.sup.cpus) own (b, owners.Table c k) (owned_chain laid c k b there)
    claimed b _ (by_log {i = i} {a = a} {k = k} {log = log} is there) =
        let w = row_of i a log is in
        Contains-append_right (claims_of_chains l l.sup.cpus) own (b, owners.Log i k) (row_claimed rows own are w.row w.there (b, owners.Log i k)
        (subst (λ (n : ℕ). IsClaim w.row.inode w.row.pages.items w.row.index (b, owners.Log n k)) w.number (of_log k b (ap (λ (pages : List ℕ). slice_get pages k) w.is.pages ∙ there))))
    claimed b _ (by_page {i = i} {a = a} {p = p} {log = log} is there) =
        let w = row_of i a log is in
        Contains-append_right (claims_of_chains l l.sup.cpus) own (b, owners.Data i p) (row_claimed rows own are w.row w.there (b, owners.Data i p)
        (subst (λ (n : ℕ). IsClaim w.row.inode w.row.pages.items w.row.index (b, owners.Data n p)) w.number (of_page p b (w.is.index p ∙ there))))

    pub are_all : AreAllClaims R l (claims_of_chains l l.sup.cpus ++ own)
    are_all b o = (
      (λ c. elim (Contains-append_cases (claims_of_chains l l.sup.cpus) own (b, o) c) [ inl w ↦ chains_own l.sup.cpus b o w | inr w ↦ rows_own rows own are has.each (b, o) w ]),
      (λ h. claimed b o h),
    )

-- ---- the indexes of rows map small numbers

pub rows_small : (R : Region) (l : Layout) (rows : List Row) → IsLayout l.sup → HasRows R l rows → (row : Row) → Contains rows row → HasSmall row
rows_small R l rows layout has row c =
    let w = has.each row c in
    λ q b e. (let d = data_pages l.sup w.1.kind w.1.entries q b (sym (w.2.index q) ∙ e) in let most = layout.blocks_to in (d.0, omega (arith, d.2, most)))
