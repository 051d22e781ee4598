-- The claims of an inode are its owners with their blocks, in order.
use Rattle.std.proofs.Common.{◌≡◌, ℕ, zero, suc, ◌+◌, ◌-◌, ◌<◌, ◌≤◌, inl, inr, List, [], ◌∷◌, ◌++◌, length, take, get_or, refl, ap, sym, ◌∙◌, subst, Option, Some, slice_get, arith, append-nil, length-take, IsSome, slice_index_or}
use Rattle.std.specs.List.{Contains, All}
use Rattle.std.proofs.lemmas.List.{take_more}
use Rattle.std.proofs.lemmas.Grind.{flat_map-append}
use Rattle.std.proofs.lemmas.Bool.{cases_order}
use Rattle.std.proofs.lemmas.List.Elements.{All-contains, Contains-push, Contains-push_cases, Contains-append_left, Contains-append_right, Contains-append_cases}
use Rattle.nv_super.specs.Order.{Rises, Lists, owner_key}
use Rattle.nv_super.specs.Owners.{pairs}
use Rattle.nv_super.specs.declared.owners.Owner.{Owner}
use Rattle.nv_super.specs.declared.owners.Owner.TheVariants as owners
use Rattle.nv_super.proofs.Rising.{Contains-cons, Contains-head, Contains-tail, Below, below_rest, below_first, rises_cons, rises_append}
use Rattle.nv_super.proofs.Members.{from_flat, into_flat}
use Rattle.nv_super.proofs.Options.{some_is}
use Rattle.nv_radix.specs.Pages.{Pages, block_at}
use Rattle.nv_radix.specs.Extents.{IsMapped, HasPage, AreApart, AreExtents}
use Rattle.nv_radix.specs.declared.extent.Extent.{Extent}
use Rattle.nv_radix.proofs.OnlyExtents.{tail_apart}
use Rattle.nv_scan.specs.Claims.{IsClaim, of_log, of_page, log_claims, run_claims, data_claims, IsSmall, AreSmall}

abbrev key : ℕ × Owner → List ℕ
key x = owner_key x.1

log_below : (i j k : ℕ) → j < k → Below (owner_key (owners.Log i j)) (owner_key (owners.Log i k))
log_below i j k h = below_rest 1 (i ∷ 0 ∷ j ∷ []) (i ∷ 0 ∷ k ∷ []) (below_rest i (0 ∷ j ∷ []) (0 ∷ k ∷ []) (below_rest 0 (j ∷ []) (k ∷ []) (below_first j k [] [] h)))

data_below : (i p q : ℕ) → p < q → Below (owner_key (owners.Data i p)) (owner_key (owners.Data i q))
data_below i p q h = below_rest 1 (i ∷ 1 ∷ p ∷ []) (i ∷ 1 ∷ q ∷ []) (below_rest i (1 ∷ p ∷ []) (1 ∷ q ∷ []) (below_rest 1 (p ∷ []) (q ∷ []) (below_first p q [] [] h)))

log_before_data : (i k p : ℕ) → Below (owner_key (owners.Log i k)) (owner_key (owners.Data i p))
log_before_data i k p = below_rest 1 (i ∷ 0 ∷ k ∷ []) (i ∷ 1 ∷ p ∷ []) (below_rest i (0 ∷ k ∷ []) (1 ∷ p ∷ []) (below_first 0 1 (k ∷ []) (p ∷ []) (omega arith)))

log_claims-push : (i k : ℕ) (xs : List ℕ) (n b : ℕ) → length xs ≡ n → log_claims i k (xs ++ b ∷ []) ≡ log_claims i k xs ++ (b, owners.Log i (k + n)) ∷ []
log_claims-push i k [] n b h = let e : k ≡ k + n = omega arith in ap (λ (j : ℕ). (b, owners.Log i j) ∷ []) e
log_claims-push i k (x ∷ xs) n b h =
    let e : k + 1 + length xs ≡ k + n = omega arith in
    ap (λ (ys : List (ℕ × Owner)). (x, owners.Log i k) ∷ ys) (log_claims-push i (k + 1) xs (length xs) b refl ∙ ap (λ (j : ℕ). log_claims i (k + 1) xs ++ (b, owners.Log i j) ∷ []) e)

-- one page more
pub log_claims-more : (i n : ℕ) (bs : List ℕ) (b : ℕ) → n < length bs → log_claims i 0 (take (n + 1) bs) ≡ log_claims i 0 (take n bs) ++ (get_or bs n b, owners.Log i n) ∷ []
log_claims-more i n bs b h =
    let e : 0 + n ≡ n = omega arith in
    ap (log_claims i 0) (take_more bs n b h) ∙ log_claims-push i 0 (take n bs) n (get_or bs n b) (simp length-take (omega arith)) ∙ ap (λ (j : ℕ). log_claims i 0 (take n bs) ++ (get_or bs n b, owners.Log i j) ∷ []) e

-- a page of a log and its owner
record LogClaim (i k : ℕ) (bs : List ℕ) (x : ℕ × Owner) : Type 0 where
  j : ℕ
  here : slice_get bs j ≡ Some x.0
  owner : x.1 ≡ owners.Log i (k + j)

-- what stands among the pages of a log
log_claim : (i k : ℕ) (bs : List ℕ) (x : ℕ × Owner) → Contains (log_claims i k bs) x → LogClaim i k bs x
log_claim i k [] x c = absurd (omega (arith, c.1))
log_claim i k (b ∷ bs) x c = elim (Contains-cons (b, owners.Log i k) (log_claims i (k + 1) bs) x c) [
  | inl w ↦ record { j = 0; here = ap (λ (y : ℕ × Owner). Some y.0) (sym w); owner = ap (λ (y : ℕ × Owner). y.1) w ∙ ap (owners.Log i) (omega arith) }
  | inr w ↦ (let r = log_claim i (k + 1) bs x w in record { j = suc r.j; here = r.here; owner = r.owner ∙ ap (owners.Log i) (omega arith) })
]

pub log_claimed : (i k : ℕ) (bs : List ℕ) (j b : ℕ) → slice_get bs j ≡ Some b → Contains (log_claims i k bs) (b, owners.Log i (k + j))
log_claimed i k [] j b h = absurd (cc)
log_claimed i k (x ∷ bs) zero b h =
    let e : k ≡ k + 0 = omega arith in
    let f : x ≡ b = cc in
    subst (λ (j : ℕ). Contains ((x, owners.Log i k) ∷ log_claims i (k + 1) bs) (b, owners.Log i j)) e
    (subst (λ (c : ℕ). Contains ((x, owners.Log i k) ∷ log_claims i (k + 1) bs) (c, owners.Log i k)) f (Contains-head (x, owners.Log i k) (log_claims i (k + 1) bs)))
log_claimed i k (x ∷ bs) (suc j) b h =
    let e : k + 1 + j ≡ k + suc j = omega arith in
    Contains-tail (x, owners.Log i k) (log_claims i (k + 1) bs) (b, owners.Log i (k + suc j))
    (subst (λ (n : ℕ). Contains (log_claims i (k + 1) bs) (b, owners.Log i n)) e (log_claimed i (k + 1) bs j b h))

log_rises : (i k : ℕ) (bs : List ℕ) → Rises key (log_claims i k bs)
log_rises i k [] = tt
log_rises i k (b ∷ bs) = rises_cons key (b, owners.Log i k) (log_claims i (k + 1) bs)
    (λ y c. (let r = log_claim i (k + 1) bs y c in subst (λ (o : Owner). Below (owner_key (owners.Log i k)) (owner_key o)) (sym r.owner) (log_below i k (k + 1 + r.j) (omega arith))))
    (log_rises i (k + 1) bs)

-- a block of a run and its owner
record RunClaim (i p b n : ℕ) (x : ℕ × Owner) : Type 0 where
  j : ℕ
  within : j < n
  is : x ≡ (b + j, owners.Data i (p + j))

run_claim : (i p b n : ℕ) (x : ℕ × Owner) → Contains (pairs b (owners.Data i p) n) x → RunClaim i p b n x
run_claim i p b zero x c = absurd (omega (arith, c.1))
run_claim i p b (suc n) x c = elim (Contains-push_cases (pairs b (owners.Data i p) n) (b + n, owners.Data i (p + n)) x c) [
  | inl w ↦ (let r = run_claim i p b n x w in record { j = r.j; within = omega (arith, r.within); is = r.is })
  | inr w ↦ record { j = n; within = omega arith; is = sym w }
]

pub run_claimed : (i p b n j : ℕ) → j < n → Contains (pairs b (owners.Data i p) n) (b + j, owners.Data i (p + j))
run_claimed i p b zero j h = absurd (omega arith)
run_claimed i p b (suc n) j h = elim (cases_order j n) [
  | inl w ↦ rw w (Contains-push (pairs b (owners.Data i p) n) (b + n, owners.Data i (p + n)))
  | inr w ↦ elim w [
    | inl v ↦ Contains-append_left (pairs b (owners.Data i p) n) ((b + n, owners.Data i (p + n)) ∷ []) (b + j, owners.Data i (p + j)) (run_claimed i p b n j v)
    | inr v ↦ absurd (omega arith)
  ]
]

run_rises : (i p b n : ℕ) → Rises key (pairs b (owners.Data i p) n)
run_rises i p b zero = tt
run_rises i p b (suc n) = rises_append key (pairs b (owners.Data i p) n) ((b + n, owners.Data i (p + n)) ∷ []) (run_rises i p b n) tt
    (λ x y c d. elim (Contains-cons (b + n, owners.Data i (p + n)) [] y d) [
      | inl w ↦ (let r = run_claim i p b n x c in rw (r.is, w) (data_below i (p + r.j) (p + n) (omega (arith, r.within))))
      | inr w ↦ absurd (omega (arith, w.1))
    ])

-- an extent lies before all that follow it
apart_all : (x : Extent) (xs : List Extent) (y : Extent) → AreApart (x ∷ xs) → Contains xs y → x.page + x.count ≤ y.page
apart_all x [] y a c = absurd (omega (arith, c.1))
apart_all x (z ∷ xs) y a c = elim (Contains-cons z xs y c) [
  | inl w ↦ subst (λ (v : Extent). x.page + x.count ≤ v.page) (sym w) a.0.rises
  | inr w ↦ (let r = apart_all z xs y a.1 w in let s = a.0.rises in omega (arith, r, s))
]

data_rises : (i : ℕ) (xs : List Extent) → AreApart xs → Rises key (data_claims i xs)
data_rises i [] a = tt
data_rises i (x ∷ xs) a = rises_append key (run_claims i x) (data_claims i xs) (run_rises i x.page x.block x.count) (data_rises i xs (tail_apart x xs a))
    (λ u v c d. (
    let r = run_claim i x.page x.block x.count u c in
    let f = from_flat (run_claims i) xs v d in
    let q = run_claim i f.0.page f.0.block f.0.count v f.2 in
    let gap = apart_all x xs f.0 a f.1 in
    rw (r.is, q.is) (data_below i (x.page + r.j) (f.0.page + q.j) (omega (arith, r.within, gap)))))

-- a page of an extent, by how far it stands behind its first
page_of_extent : (m : Pages) (i : ℕ) (x : Extent) (p b : ℕ) → IsMapped m x → HasPage x p → block_at m p ≡ Some b → Contains (run_claims i x) (b, owners.Data i p)
page_of_extent m i x p b mapped has h =
    let e : x.page + (p - x.page) ≡ p = omega (arith, has.0) in
    let f : block_at m p ≡ Some (x.block + (p - x.page)) = subst (λ (q : ℕ). block_at m q ≡ Some (x.block + (p - x.page))) e (mapped (p - x.page) (omega (arith, has.0, has.1))) in
    let g : x.block + (p - x.page) ≡ b = some_is (x.block + (p - x.page)) b (block_at m p) f h in
    subst (λ (y : ℕ × Owner). Contains (run_claims i x) y) (λ k. (g k, owners.Data i (e k))) (run_claimed i x.page x.block x.count (p - x.page) (omega (arith, has.0, has.1)))

claim_from_log : (i : ℕ) (pages : List ℕ) (m : Pages) (x : ℕ × Owner) → LogClaim i 0 pages x → IsClaim i pages m x
claim_from_log i pages m x r =
    let e : 0 + r.j ≡ r.j = omega arith in
    let o : owners.Log i r.j ≡ x.1 = ap (owners.Log i) (sym e) ∙ sym r.owner in
    subst (λ (y : ℕ × Owner). IsClaim i pages m y) (λ k. (x.0, o k)) (of_log r.j x.0 r.here)

-- the claims are just the owners, in their order
pub are_claims : (i : ℕ) (pages : List ℕ) (m : Pages) (runs : List Extent) → AreExtents m runs → Lists key (IsClaim i pages m) (log_claims i 0 pages ++ data_claims i runs)
are_claims i pages m runs are = record {
  rising = rises_append key (log_claims i 0 pages) (data_claims i runs) (log_rises i 0 pages) (data_rises i runs are.apart)
      (λ u v c d. (
      let r = log_claim i 0 pages u c in
      let f = from_flat (run_claims i) runs v d in
      let q = run_claim i f.0.page f.0.block f.0.count v f.2 in
      rw (r.owner, q.is) (log_before_data i (0 + r.j) (f.0.page + q.j))));
  each = λ x c. elim (Contains-append_cases (log_claims i 0 pages) (data_claims i runs) x c) [
    | inl w ↦ claim_from_log i pages m x (log_claim i 0 pages x w)
    | inr w ↦ (
        let f = from_flat (run_claims i) runs x w in
        let q = run_claim i f.0.page f.0.block f.0.count x f.2 in
        let mapped : IsMapped m f.0 = All-contains (IsMapped m) runs f.0 are.mapped f.1 in
        subst (λ (y : ℕ × Owner). IsClaim i pages m y) (sym q.is) (of_page (f.0.page + q.j) (f.0.block + q.j) (mapped q.j q.within)))
  ];
  all = claimed;
}
  where
    claimed : (x : ℕ × Owner) → IsClaim i pages m x → Contains (log_claims i 0 pages ++ data_claims i runs) x
    claimed _ (of_log k b h) =
        let e : 0 + k ≡ k = omega arith in
        Contains-append_left (log_claims i 0 pages) (data_claims i runs) (b, owners.Log i k) (subst (λ (j : ℕ). Contains (log_claims i 0 pages) (b, owners.Log i j)) e (log_claimed i 0 pages k b h))
    claimed _ (of_page p b h) =
        let w = are.whole p (subst (λ (o : Option ℕ). IsSome o) (sym h) refl) in
        Contains-append_right (log_claims i 0 pages) (data_claims i runs) (b, owners.Data i p)
        (into_flat (run_claims i) runs w.0 (b, owners.Data i p) w.1 (page_of_extent m i w.0 p b (All-contains (IsMapped m) runs w.0 are.mapped w.1) w.2 h))

-- one block of a run more
pub run_claims-more : (i p b n : ℕ) → pairs b (owners.Data i p) (n + 1) ≡ pairs b (owners.Data i p) n ++ (b + n, owners.Data i (p + n)) ∷ []
run_claims-more i p b n = let e : n + 1 ≡ suc n = omega arith in ap (pairs b (owners.Data i p)) e

-- one run more
pub data_claims-more : (i : ℕ) (runs : List Extent) (n : ℕ) (x : Extent) → n < length runs → x ≡ get_or runs n x → data_claims i (take (n + 1) runs) ≡ data_claims i (take n runs) ++ run_claims i x
data_claims-more i runs n x h e =
    ap (data_claims i) (take_more runs n x h ∙ ap (λ (y : Extent). take n runs ++ y ∷ []) (sym e)) ∙ flat_map-append (run_claims i) (take n runs) (x ∷ []) ∙ ap (λ (ys : List (ℕ × Owner)). data_claims i (take n runs) ++ ys) (append-nil (run_claims i x))

small_run : (m : Pages) (x : Extent) → AreSmall (block_at m) → 0 < x.count → IsMapped m x → IsSmall x
small_run m x small some mapped =
    let s = small (x.page + (x.count - 1)) (x.block + (x.count - 1)) (mapped (x.count - 1) (omega arith)) in
    (omega (arith, s.0, s.1), omega (arith, s.0, s.1))

-- extents of small pages and blocks are small
pub small_runs : (m : Pages) (runs : List Extent) → AreSmall (block_at m) → AreExtents m runs → All IsSmall runs
small_runs m runs small are = λ k d h. small_run m (slice_index_or runs k d) small (are.some k d h) (are.mapped k d h)
