-- What a change of the nodes in a row makes of its pages.
use Rattle.std.proofs.Common.{◌≡◌, ◌≢◌, ℕ, ◌+◌, ◌-◌, ◌*◌, ◌/◌, ◌%◌, ◌<◌, ◌≤◌, ◌⊎◌, Bool, true, false, true≢false, cond, leb, eqb, ◌||◌, Result, Ok, Err, OnErr, List, [], ◌∷◌, ◌++◌, length, map, get_or, take, Option, Some, None, refl, ap, sym, ◌∙◌, subst, arith, inl, inr, suc, append_assoc, append-nil}
use Rattle.std.proofs.Math.ListN.{set}
use Rattle.std.proofs.Math.Nat.{mul-le-mul_left}
use Rattle.std.specs.List.{All}
use Rattle.std.proofs.lemmas.Bool.{cases_lt, cases_eq}
use Rattle.std.proofs.lemmas.Bool.Decides.{leb_tells, eqb_tells}
use Rattle.std.proofs.lemmas.List.{get_or-map, get_or-set_same, get_or-set_other, get_or-take, get_or_past, length-take, length-take-le, take_more}
use Rattle.std.proofs.lemmas.List.Elements.{All-take, All-push}
use Rattle.nv_radix.specs.declared.extent.Extent.{Extent}
use Rattle.nv_radix.specs.Pages.{Pages, block_at, is_ready, in_run}
use Rattle.nv_radix.specs.Extents.{AreExtents}
use Rattle.nv_radix.specs.Rising.{Rises}
use Rattle.nv_radix.specs.Nodes.{in_row, raised, IsNode}
use Rattle.nv_radix.proofs.Rising.{Rises-append, Rises-higher}
use Rattle.nv_radix.proofs.Rows.{push_empty, Rises-in_row, Rises-raised, block_at-in_row, is_ready-in_row, in_row-append, raised-append, raised-raised}

-- the pages before a node fill whole leaves
in_leaves : (span i : ℕ) → span % 64 ≡ 0 → i * span ≡ 64 * (i * (span / 64))
in_leaves span i whole = (let is : span ≡ 64 * (span / 64) = omega (arith, whole) in ap (λ (n : ℕ). i * n) is ∙ omega arith)

pub IsNode-nil : (span : ℕ) → IsNode span []
IsNode-nil span = record { rises = omega arith; leaves = λ p q e. refl }

-- a place holds a node, or no page
pub node_at : (span : ℕ) (xs : List Pages) (i : ℕ) → All (IsNode span) xs → IsNode span (get_or xs i [])
node_at span xs i h = elim (cases_lt i (length xs)) [
  | inl l ↦ h i [] l
  | inr l ↦ subst (IsNode span) (sym (get_or_past xs i [] l)) (IsNode-nil span)
]

-- a page by its node's place
by_node : (span : ℕ) (P : ℕ → Type 0) → 0 < span → ((i r : ℕ) → r < span → P (i * span + r)) → (p : ℕ) → P p
by_node span P some h p = (let whole : p / span * span + p % span ≡ p = omega arith in let low : p % span < span = omega arith in subst P whole (h (p / span) (p % span) low))

-- what holds of the blocks of each node holds of the row's
pub blocks_by_node : (span : ℕ) (xs ys : List Pages) (R : ℕ → Option ℕ → Option ℕ → Type 0) → 0 < span → All (IsNode span) xs → All (IsNode span) ys → ((i r : ℕ) → r < span → R (i * span + r) (block_at (get_or xs i []) r) (block_at (get_or ys i []) r)) → (p : ℕ) → R p (block_at (in_row span xs) p) (block_at (in_row span ys) p)
blocks_by_node span xs ys R some h k each =
    by_node span (λ p. R p (block_at (in_row span xs) p) (block_at (in_row span ys) p)) some (λ i r l. subst (λ o. R (i * span + r) o (block_at (in_row span ys) (i * span + r))) (sym (block_at-in_row span xs i r h l)) (subst (λ o. R (i * span + r) (block_at (get_or xs i []) r) o) (sym (block_at-in_row span ys i r k l)) (each i r l)))

pub ready_by_node : (span : ℕ) (xs ys : List Pages) (R : ℕ → Bool → Bool → Type 0) → 0 < span → All (IsNode span) xs → All (IsNode span) ys → ((i r : ℕ) → r < span → R (i * span + r) (is_ready (get_or xs i []) r) (is_ready (get_or ys i []) r)) → (p : ℕ) → R p (is_ready (in_row span xs) p) (is_ready (in_row span ys) p)
ready_by_node span xs ys R some h k each =
    by_node span (λ p. R p (is_ready (in_row span xs) p) (is_ready (in_row span ys) p)) some (λ i r l. subst (λ o. R (i * span + r) o (is_ready (in_row span ys) (i * span + r))) (sym (is_ready-in_row span xs i r h l)) (subst (λ o. R (i * span + r) (is_ready (get_or xs i []) r) o) (sym (is_ready-in_row span ys i r k l)) (each i r l)))

-- the node at a place of a row where one was set: the new one, or the old
pub set_by_place : (xs : List Pages) (i : ℕ) (x : Pages) (Q : ℕ → Pages → Type 0) → i < length xs → Q i x → ((j : ℕ) → j ≢ i → Q j (get_or xs j [])) → (j : ℕ) → Q j (get_or (set xs i x) j [])
set_by_place xs i x Q l here there j = elim (cases_eq j i) [
  | inl e ↦ subst (λ k. Q k (get_or (set xs i x) k [])) (sym e) (subst (Q i) (sym (get_or-set_same xs i x [] l)) here)
  | inr n ↦ subst (Q j) (sym (get_or-set_other xs i j x [] n)) (there j n)
]

-- and of a row that was cut
pub taken_by_place : (xs : List Pages) (n : ℕ) (Q : ℕ → Pages → Type 0) → ((j : ℕ) → j < n → Q j (get_or xs j [])) → ((j : ℕ) → n ≤ j → Q j []) → (j : ℕ) → Q j (get_or (take n xs) j [])
taken_by_place xs n Q below above j = elim (cases_lt j n) [
  | inl l ↦ subst (Q j) (sym (get_or-take n xs j [] l)) (below j l)
  | inr l ↦ subst (Q j) (sym (get_or_past (take n xs) j [] (omega (arith, length-take n xs, l)))) (above j l)
]

-- a page of a lower place is lower
pub lower : (span i j r : ℕ) → i < j → r < span → i * span + r < j * span
lower span i j r l h = omega (arith, mul-le-mul_left span l, h)

pub not_lower : (span i j : ℕ) → i ≤ j → i * span ≤ j * span
not_lower span i j l = omega (arith, mul-le-mul_left span l)

-- a run of one node
pub run_here : (base first count r : ℕ) → in_run first count r ≡ in_run (base + first) count (base + r)
run_here base first count r = elim (leb_tells first r) [
  | inl w ↦ elim (leb_tells (base + first) (base + r)) [
    | inl v ↦ elim (leb_tells (suc r) (first + count)) [
      | inl t ↦ elim (leb_tells (suc (base + r)) (base + first + count)) [ inl u ↦ rw (w.0, v.0, t.0, u.0) refl | inr u ↦ absurd (omega (arith, t.1, u.1)) ]
      | inr t ↦ elim (leb_tells (suc (base + r)) (base + first + count)) [ inl u ↦ absurd (omega (arith, t.1, u.1)) | inr u ↦ rw (w.0, v.0, t.0, u.0) refl ]
    ]
    | inr v ↦ absurd (omega (arith, w.1, v.1))
  ]
  | inr w ↦ elim (leb_tells (base + first) (base + r)) [ inl v ↦ absurd (omega (arith, w.1, v.1)) | inr v ↦ rw (w.0, v.0) refl ]
]

pub run_elsewhere : (first count p : ℕ) → (p < first) ⊎ (first + count ≤ p) → in_run first count p ≡ false
run_elsewhere first count p (inl l) = elim (leb_tells first p) [ inl w ↦ absurd (omega (arith, w.1, l)) | inr w ↦ rw w.0 refl ]
run_elsewhere first count p (inr l) = elim (leb_tells first p) [
  | inl w ↦ elim (leb_tells (suc p) (first + count)) [ inl v ↦ absurd (omega (arith, v.1, l)) | inr v ↦ rw (w.0, v.0) refl ]
  | inr w ↦ rw w.0 refl
]

-- a row of which one node has a run set
pub set_step : (span : ℕ) (xs : List Pages) (i first block count : ℕ) (x : Pages) → i < length xs → first + count ≤ span → ((p : ℕ) → block_at x p ≡ cond (in_run first count p) (Some (block + (p - first))) (block_at (get_or xs i []) p)) → (j r : ℕ) → r < span → block_at (get_or (set xs i x) j []) r ≡ cond (in_run (i * span + first) count (j * span + r)) (Some (block + (j * span + r - (i * span + first)))) (block_at (get_or xs j []) r)
set_step span xs i first block count x l part is j r h =
    set_by_place xs i x (λ j m. block_at m r ≡ cond (in_run (i * span + first) count (j * span + r)) (Some (block + (j * span + r - (i * span + first)))) (block_at (get_or xs j []) r)) l here (λ j n. there j n (cases_lt j i)) j
  where
    here : block_at x r ≡ cond (in_run (i * span + first) count (i * span + r)) (Some (block + (i * span + r - (i * span + first)))) (block_at (get_or xs i []) r)
    here = (let same : i * span + r - (i * span + first) ≡ r - first = omega arith in rw (← run_here (i * span) first count r, same) (is r))

    there : (j : ℕ) → j ≢ i → (j < i) ⊎ (i ≤ j) → block_at (get_or xs j []) r ≡ cond (in_run (i * span + first) count (j * span + r)) (Some (block + (j * span + r - (i * span + first)))) (block_at (get_or xs j []) r)
    there j n (inl w) = rw (run_elsewhere (i * span + first) count (j * span + r) (inl (let low = lower span j i r w h in omega (arith, low)))) refl
    there j n (inr w) = (let next : suc i ≤ j = omega (arith, w, n) in rw (run_elsewhere (i * span + first) count (j * span + r) (inr (let high = not_lower span (suc i) j next in omega (arith, high, part)))) refl)

-- a row that is cut at a place, within the node there or behind all nodes
pub cut_step : (span : ℕ) (xs : List Pages) (n k : ℕ) → (k ≡ 0) ⊎ (length xs ≤ n) → k < span → (j r : ℕ) → r < span → block_at (get_or (take n xs) j []) r ≡ cond (leb (n * span + k) (j * span + r)) None (block_at (get_or xs j []) r)
cut_step span xs n k w some j r h =
    taken_by_place xs n (λ j m. block_at m r ≡ cond (leb (n * span + k) (j * span + r)) None (block_at (get_or xs j []) r)) (λ j l. below j l) (λ j l. above j l w) j
  where
    below : (j : ℕ) → j < n → block_at (get_or xs j []) r ≡ cond (leb (n * span + k) (j * span + r)) None (block_at (get_or xs j []) r)
    below j l = elim (leb_tells (n * span + k) (j * span + r)) [ inl v ↦ absurd (let low = lower span j n r l h in omega (arith, low, v.1)) | inr v ↦ rw v.0 refl ]

    above : (j : ℕ) → n ≤ j → (k ≡ 0) ⊎ (length xs ≤ n) → None ≡ cond (leb (n * span + k) (j * span + r)) None (block_at (get_or xs j []) r)
    above j l (inl z) = elim (leb_tells (n * span + k) (j * span + r)) [ inl v ↦ rw v.0 refl | inr v ↦ absurd (let high = not_lower span n j l in omega (arith, high, v.1, z)) ]
    above j l (inr z) = rw (get_or_past xs j [] (omega (arith, z, l))) (elim (leb_tells (n * span + k) (j * span + r)) [ inl v ↦ rw v.0 refl | inr v ↦ rw v.0 refl ])

pub cut_ready_step : (span : ℕ) (xs : List Pages) (n k : ℕ) → (k ≡ 0) ⊎ (length xs ≤ n) → k < span → (j r : ℕ) → r < span → j * span + r < n * span + k → is_ready (get_or (take n xs) j []) r ≡ is_ready (get_or xs j []) r
cut_ready_step span xs n k w some j r h =
    taken_by_place xs n (λ j m. j * span + r < n * span + k → is_ready m r ≡ is_ready (get_or xs j []) r) (λ j l v. refl) (λ j l. above j l w) j
  where
    above : (j : ℕ) → n ≤ j → (k ≡ 0) ⊎ (length xs ≤ n) → j * span + r < n * span + k → false ≡ is_ready (get_or xs j []) r
    above j l (inl z) v = absurd (let high = not_lower span n j l in omega (arith, high, v, z))
    above j l (inr z) v = rw (get_or_past xs j [] (omega (arith, z, l))) refl

pub cut_no_more_step : (xs : List Pages) (n j r : ℕ) → is_ready (get_or (take n xs) j []) r ≡ true → is_ready (get_or xs j []) r ≡ true
cut_no_more_step xs n j r = taken_by_place xs n (λ j m. is_ready m r ≡ true → is_ready (get_or xs j []) r ≡ true) (λ j l e. e) (λ j l e. absurd (true≢false (sym e))) j

-- a row that is cut within a node
pub part_step : (span : ℕ) (xs : List Pages) (n k : ℕ) (x : Pages) → n < length xs → k < span → ((p : ℕ) → block_at x p ≡ cond (leb k p) None (block_at (get_or xs n []) p)) → (j r : ℕ) → r < span → block_at (get_or (set (take (n + 1) xs) n x) j []) r ≡ cond (leb (n * span + k) (j * span + r)) None (block_at (get_or xs j []) r)
part_step span xs n k x l some is j r h =
    set_by_place (take (n + 1) xs) n x (λ j m. block_at m r ≡ cond (leb (n * span + k) (j * span + r)) None (block_at (get_or xs j []) r)) (omega (arith, length-take-le (n + 1) xs (omega (arith, l)))) (is r ∙ here) (λ j ne. taken_by_place xs (n + 1) (λ j m. j ≢ n → block_at m r ≡ cond (leb (n * span + k) (j * span + r)) None (block_at (get_or xs j []) r)) (λ j lt ne. below j lt ne) (λ j le ne. above j le) j ne) j
  where
    here : cond (leb k r) None (block_at (get_or xs n []) r) ≡ cond (leb (n * span + k) (n * span + r)) None (block_at (get_or xs n []) r)
    here = elim (leb_tells k r) [
      | inl w ↦ elim (leb_tells (n * span + k) (n * span + r)) [ inl v ↦ rw (w.0, v.0) refl | inr v ↦ absurd (omega (arith, w.1, v.1)) ]
      | inr w ↦ elim (leb_tells (n * span + k) (n * span + r)) [ inl v ↦ absurd (omega (arith, w.1, v.1)) | inr v ↦ rw (w.0, v.0) refl ]
    ]

    below : (j : ℕ) → j < n + 1 → j ≢ n → block_at (get_or xs j []) r ≡ cond (leb (n * span + k) (j * span + r)) None (block_at (get_or xs j []) r)
    below j lt ne = (let less : j < n = omega (arith, lt, ne) in elim (leb_tells (n * span + k) (j * span + r)) [ inl v ↦ absurd (let low = lower span j n r less h in omega (arith, low, v.1)) | inr v ↦ rw v.0 refl ])

    above : (j : ℕ) → n + 1 ≤ j → None ≡ cond (leb (n * span + k) (j * span + r)) None (block_at (get_or xs j []) r)
    above j le = elim (leb_tells (n * span + k) (j * span + r)) [ inl v ↦ rw v.0 refl | inr v ↦ absurd (let high = not_lower span (n + 1) j le in omega (arith, high, v.1, some)) ]

pub part_ready_step : (span : ℕ) (xs : List Pages) (n k : ℕ) (x : Pages) → n < length xs → k < span → ((p : ℕ) → p < k → is_ready x p ≡ is_ready (get_or xs n []) p) → (j r : ℕ) → r < span → j * span + r < n * span + k → is_ready (get_or (set (take (n + 1) xs) n x) j []) r ≡ is_ready (get_or xs j []) r
part_ready_step span xs n k x l some is j r h =
    set_by_place (take (n + 1) xs) n x (λ j m. j * span + r < n * span + k → is_ready m r ≡ is_ready (get_or xs j []) r) (omega (arith, length-take-le (n + 1) xs (omega (arith, l)))) (λ v. is r (omega (arith, v))) (λ j ne. taken_by_place xs (n + 1) (λ j m. j * span + r < n * span + k → is_ready m r ≡ is_ready (get_or xs j []) r) (λ j lt v. refl) (λ j le v. absurd (let high = not_lower span (n + 1) j le in omega (arith, high, v, some))) j) j

pub part_no_more_step : (xs : List Pages) (n : ℕ) (x : Pages) → n < length xs → ((p : ℕ) → is_ready x p ≡ true → is_ready (get_or xs n []) p ≡ true) → (j r : ℕ) → is_ready (get_or (set (take (n + 1) xs) n x) j []) r ≡ true → is_ready (get_or xs j []) r ≡ true
part_no_more_step xs n x l is j r =
    set_by_place (take (n + 1) xs) n x (λ j m. is_ready m r ≡ true → is_ready (get_or xs j []) r ≡ true) (omega (arith, length-take-le (n + 1) xs (omega (arith, l)))) (is r) (λ j ne. cut_no_more_step xs (n + 1) j r) j

-- a page of a node, and another page of its leaf: that is one of the same node
pub same_node : (span i r p : ℕ) → span % 64 ≡ 0 → r < span → p / 64 ≡ (i * span + r) / 64 → (s : ℕ) × (p ≡ i * span + s) × (s < span) × (s / 64 ≡ r / 64)
same_node span i r p whole l e =
    let first = in_leaves span i whole in
    (p - i * span, omega (arith, first, e), omega (arith, first, e, l, whole), omega (arith, first, e))

-- a row of nodes
pub IsNode-row : (span : ℕ) (xs : List Pages) → 0 < span → span % 64 ≡ 0 → All (IsNode span) xs → length xs ≤ 64 → IsNode (64 * span) (in_row span xs)
IsNode-row span xs some whole h few = record {
  rises = Rises-higher 0 (length xs * span) (64 * span) (in_row span xs) (not_lower span (length xs) 64 few) (Rises-in_row span xs h);
  leaves = λ p q e.
      let is : q ≡ q / span * span + q % span = omega arith in
      let w = same_node span (q / span) (q % span) p whole (omega arith) (e ∙ ap (λ (n : ℕ). n / 64) is) in
      ap (is_ready (in_row span xs)) w.1 ∙ is_ready-in_row span xs (q / span) w.0 h w.2 ∙ (node_at span xs (q / span) h).leaves w.0 (q % span) w.3 ∙ sym (is_ready-in_row span xs (q / span) (q % span) h (omega arith)) ∙ ap (is_ready (in_row span xs)) (sym is);
}

-- one node more of a walk over a row
pub AreExtents-node : (span base : ℕ) (xs : List Pages) (i : ℕ) (m : Pages) (old new : List Extent) → All (IsNode span) xs → i < length xs → Rises 0 base m → ((n : Pages) → Rises 0 (base + i * span) n → AreExtents n old → AreExtents (n ++ raised (base + i * span) (get_or xs i [])) new) → AreExtents (m ++ raised base (in_row span (take i xs))) old → AreExtents (m ++ raised base (in_row span (take (i + 1) xs))) new
AreExtents-node span base xs i m old new h l rises step a =
    let size : length (take i xs) ≡ i = length-take-le i xs (omega (arith, l)) in
    let front : Pages = m ++ raised base (in_row span (take i xs)) in
    let row : in_row span (take (i + 1) xs) ≡ in_row span (take i xs) ++ raised (i * span) (get_or xs i []) = ap (in_row span) (take_more xs i [] l) ∙ in_row-append span (take i xs) (get_or xs i [] ∷ []) ∙ ap (λ (k : ℕ). in_row span (take i xs) ++ raised (k * span) (get_or xs i [] ++ [])) size ∙ ap (λ (n : Pages). in_row span (take i xs) ++ raised (i * span) n) (append-nil (get_or xs i [])) in
    let more : m ++ raised base (in_row span (take (i + 1) xs)) ≡ front ++ raised (base + i * span) (get_or xs i []) = ap (λ (n : Pages). m ++ raised base n) row ∙ ap (λ (n : Pages). m ++ n) (raised-append base (in_row span (take i xs)) (raised (i * span) (get_or xs i [])) ∙ ap (λ (n : Pages). raised base (in_row span (take i xs)) ++ n) (raised-raised base (i * span) (get_or xs i []))) ∙ sym (append_assoc m (raised base (in_row span (take i xs))) (raised (base + i * span) (get_or xs i []))) in
    let taken = Rises-in_row span (take i xs) (All-take (IsNode span) i xs h) in
    let low : base + 0 ≡ base = omega arith in
    let lifted : Rises base (base + i * span) (raised base (in_row span (take i xs))) = subst (λ k. Rises base (base + k * span) (raised base (in_row span (take i xs)))) size (subst (λ k. Rises k (base + length (take i xs) * span) (raised base (in_row span (take i xs)))) low (Rises-raised base 0 (length (take i xs) * span) (in_row span (take i xs)) taken)) in
    subst (λ n. AreExtents n new) (sym more) (step front (Rises-append 0 base (base + i * span) m _ rises lifted) a)

-- a page of a row, by its node
pub block_at-page : (span : ℕ) (xs : List Pages) (i r p : ℕ) → p ≡ i * span + r → r < span → All (IsNode span) xs → block_at (in_row span xs) p ≡ block_at (get_or xs i []) r
block_at-page span xs i r p is l h = ap (block_at (in_row span xs)) is ∙ block_at-in_row span xs i r h l

pub is_ready-page : (span : ℕ) (xs : List Pages) (i r p : ℕ) → p ≡ i * span + r → r < span → All (IsNode span) xs → is_ready (in_row span xs) p ≡ is_ready (get_or xs i []) r
is_ready-page span xs i r p is l h = ap (is_ready (in_row span xs)) is ∙ is_ready-in_row span xs i r h l

-- what is told of a leaf in a node is told of it in the row
pub told_by_node : (span : ℕ) (xs : List Pages) (i r page : ℕ) (b : Bool) → page ≡ i * span + r → r < span → span % 64 ≡ 0 → All (IsNode span) xs → ((q : ℕ) → q / 64 ≡ r / 64 → b ≡ is_ready (get_or xs i []) q) → (p : ℕ) → p / 64 ≡ page / 64 → b ≡ is_ready (in_row span xs) p
told_by_node span xs i r page b is l whole h told p e =
    let w = same_node span i r p whole l (e ∙ ap (λ (n : ℕ). n / 64) is) in
    told w.0 w.3 ∙ sym (is_ready-page span xs i w.0 p w.1 w.2 h)

-- the node of a ready page is there
pub ready_place : (span : ℕ) (xs : List Pages) (i r p : ℕ) → p ≡ i * span + r → r < span → All (IsNode span) xs → is_ready (in_row span xs) p ≡ true → i < length xs
ready_place span xs i r p is l h e = elim (cases_lt i (length xs)) [
  | inl k ↦ k
  | inr k ↦ absurd (let none : is_ready (get_or xs i []) r ≡ false = ap (λ m. is_ready m r) (get_or_past xs i [] k) in true≢false (sym e ∙ is_ready-page span xs i r p is l h ∙ none))
]

-- a node among those of a row, of which only the pages count
pub node_is : {X : Type 0} (pages : X → Pages) (xs : List X) (i : ℕ) (x : X) → i < length xs → x ≡ get_or xs i x → pages x ≡ get_or (map pages xs) i []
node_is pages xs i x l is = ap pages is ∙ sym (get_or-map pages xs i x [] l)

-- the last node of a row that was cut behind it
pub kept_node : {X : Type 0} (pages : X → Pages) (xs : List X) (n : ℕ) (x : X) → n < length xs → x ≡ get_or (take (n + 1) xs) n x → pages x ≡ get_or (map pages xs) n []
kept_node pages xs n x l is = node_is pages xs n x l (is ∙ get_or-take (n + 1) xs n x (omega arith))

-- a list of nodes that got empty ones at its end
pub record IsGrown (span : ℕ) (old new : List Pages) : Type 0 where
  pub same : (i : ℕ) → get_or new i [] ≡ get_or old i []
  pub nodes : All (IsNode span) old → All (IsNode span) new

pub IsGrown-none : (span : ℕ) (xs : List Pages) → IsGrown span xs xs
IsGrown-none span xs = record { same = λ i. refl; nodes = λ h. h }

pub IsGrown-push : (span : ℕ) (old new : List Pages) (x : Pages) → x ≡ [] → IsGrown span old new → IsGrown span old (new ++ x ∷ [])
IsGrown-push span old new x e g = subst (λ y. IsGrown span old (new ++ y ∷ [])) (sym e) (record {
  same = λ i. push_empty new i ∙ g.same i;
  nodes = λ h. All-push (IsNode span) new [] (g.nodes h) (IsNode-nil span);
})

-- a leaf that was made ready, in its node and in the row
pub ready_here : (span i r page s : ℕ) (b : Bool) → span % 64 ≡ 0 → page ≡ i * span + r → (eqb (s / 64) (r / 64) || b) ≡ (eqb ((i * span + s) / 64) (page / 64) || b)
ready_here span i r page s b whole is = (let first = in_leaves span i whole in elim (eqb_tells (s / 64) (r / 64)) [
  | inl w ↦ elim (eqb_tells ((i * span + s) / 64) (page / 64)) [ inl v ↦ rw (w.0, v.0) refl | inr v ↦ absurd (v.1 (omega (arith, w.1, first, is))) ]
  | inr w ↦ elim (eqb_tells ((i * span + s) / 64) (page / 64)) [ inl v ↦ absurd (w.1 (omega (arith, v.1, first, is))) | inr v ↦ rw (w.0, v.0) refl ]
])

-- and among other nodes
pub ready_there : (span i j r page s : ℕ) (b : Bool) → span % 64 ≡ 0 → page ≡ i * span + r → r < span → s < span → j ≢ i → b ≡ (eqb ((j * span + s) / 64) (page / 64) || b)
ready_there span i j r page s b whole is l h n = elim (eqb_tells ((j * span + s) / 64) (page / 64)) [
  | inl v ↦ absurd (let w = same_node span i r (j * span + s) whole l (v.1 ∙ ap (λ (n : ℕ). n / 64) is) in elim (cases_lt j i) [
    | inl k ↦ (let low = lower span j i s k h in omega (arith, low, w.1))
    | inr k ↦ (let low = lower span i j w.0 (omega (arith, k, n)) w.2 in omega (arith, low, w.1))
  ])
  | inr v ↦ rw v.0 refl
]

-- a page stands at the same place of its leaf in a node as in the row
pub same_place : (span i r page : ℕ) → span % 64 ≡ 0 → page ≡ i * span + r → r % 64 ≡ page % 64
same_place span i r page whole is = (let first = in_leaves span i whole in omega (arith, first, is))

-- the place of a node among so many
pub few_places : (span i r page n : ℕ) → page ≡ i * span + r → page < n * span → i < n
few_places span i r page n is l = elim (cases_lt i n) [ inl w ↦ w | inr w ↦ absurd (let high = not_lower span n i w in omega (arith, high, is, l)) ]

-- what holds on one outcome of a call
pub on_any_err : {T E : Type 0} (r : Result T E) (P : Type 0) → P → OnErr r P
on_any_err (Ok x) P h = tt
on_any_err (Err e) P h = h
