-- Pieces by tickets: the pieces of all tickets' inodes are those of a region.
use Rattle.std.proofs.Common.{◌≡◌, ℕ, zero, suc, ◌+◌, ◌-◌, ◌*◌, ◌/◌, ◌%◌, ◌<◌, ◌≤◌, ◌==◌, nat_lt, nat_cmp, inl, inr, Bool, true, false, cond, if◌then◌else◌, Some, None, List, [], ◌∷◌, map, refl, ap, sym, ◌∙◌, subst, arith, eq-eqb}
use Rattle.std.specs.Prelude.{slice_get}
use Rattle.std.specs.List.{Contains, AllByRecursion, range_with_len, count_by}
use Rattle.std.specs.List.Sorted.{IsPermutation, IsSortedByKey, IsNonDecreasingBy}
use Rattle.std.proofs.lemmas.Bool.{cases_lt, ltb-true}
use Rattle.std.proofs.lemmas.Nat.{le-div}
use Rattle.std.proofs.lemmas.List.Sorted.{Contains-permutation, IsPermutation-sym, sum_by-IsPermutation, IsNonDecreasingBy-from_sort, IsNonDecreasingBy-drop}
use Rattle.nv_region.specs.Region.{Region}
use Rattle.nv_super.specs.declared.superblock.Super.{Super}
use Rattle.nv_super.specs.Layout.{IsLayout, Layout, fixed_layout, inode_limit, slot_of, slot_address, extra_slot, chain_of}
use Rattle.nv_super.specs.Order.{Rises}
use Rattle.nv_journal.specs.Chains.{IsLaid}
use Rattle.nv_super.proofs.Slots.{none_behind}
use Rattle.nv_super.proofs.Rising.{Contains-cons, Contains-head, Contains-tail, below_first}
use Rattle.nv_super.proofs.Members.{none_in, into_map, from_map}
use Rattle.nv_claimcore.specs.Claims.{times, below}
use Rattle.nv_scan.specs.Rows.{IsPiece}
use Rattle.nv_scan.specs.Tickets.{ticket_count}
use Rattle.nv_scan.specs.Work.{numbers_in, claims_in, ArePiecesOf}
use Rattle.nv_scan.specs.declared.piece.Piece.{Piece}
use Rattle.nv_scan.proofs.Drawn.{count_cons, once, stands}
use Rattle.nv_outcome.specs.Parts.{ArePieces, piece_key}
use Rattle.nv_outcome.proofs.Reordered.{flat_map_permutation}

-- ---- inodes that have slots

past_tables : (s : Super) (i a : ℕ) → extra_slot ((i / s.cpus - 32 * s.table_blocks) % 31) (slice_get (chain_of (fixed_layout s) (i % s.cpus)) ((i / s.cpus - 32 * s.table_blocks) / 31)) ≡ Some a → ⊥
past_tables s i a e = let past = none_behind s (i % s.cpus) ((i / s.cpus - 32 * s.table_blocks) / 31) ((i / s.cpus - 32 * s.table_blocks) % 31) in cc

-- in the fixed tables the inodes from 1 on below the limit have slots, and no others
pub slot_number : (s : Super) (i a : ℕ) → IsLayout s → slot_of (fixed_layout s) i ≡ Some a → (0 < i) × (i < inode_limit s)
slot_number s i a layout = at (i == 0) refl where
  low : i / s.cpus < 32 * s.table_blocks → i < inode_limit s
  low h = elim (cases_lt i (inode_limit s)) [
    | inl less ↦ less
    | inr past ↦ absurd (let more = le-div (32 * s.table_blocks) i s.cpus layout.cpus_from (omega (arith, past)) in omega (arith, more, h))
  ]

  positive : (n : ℕ) → (n == 0) ≡ false → 0 < n
  positive zero e = absurd (cc)
  positive (suc n) e = omega arith

  further : (b : Bool) → nat_lt (i / s.cpus) (32 * s.table_blocks) ≡ b → 0 < i
      → (if b then Some (slot_address s i) else extra_slot ((i / s.cpus - 32 * s.table_blocks) % 31) (slice_get (chain_of (fixed_layout s) (i % s.cpus)) ((i / s.cpus - 32 * s.table_blocks) / 31))) ≡ Some a → (0 < i) × (i < inode_limit s)
  further true e some h = (some, low (ltb-true _ _ e))
  further false e some h = absurd (past_tables s i a h)

  at : (b : Bool) → (i == 0) ≡ b
      → (if b then None else (if nat_lt (i / s.cpus) (32 * s.table_blocks) then Some (slot_address s i) else extra_slot ((i / s.cpus - 32 * s.table_blocks) % 31) (slice_get (chain_of (fixed_layout s) (i % s.cpus)) ((i / s.cpus - 32 * s.table_blocks) / 31)))) ≡ Some a
      → (0 < i) × (i < inode_limit s)
  at true e h = absurd (cc)
  at false e h = further (nat_lt (i / s.cpus) (32 * s.table_blocks)) refl (positive i e) h

-- ---- pieces in the order of inodes

pub of_each : {A : Type 0} (P : A → Type 0) (xs : List A) → AllByRecursion P xs → (x : A) → Contains xs x → P x
of_each P [] all x c = absurd (none_in x c)
of_each {A} P (y ∷ xs) all x c = elim (Contains-cons y xs x c) [ inl w ↦ (let Q : A → Type 0 = λ z. P z in subst Q (sym w) all.0) | inr w ↦ of_each P xs all.1 x w ]

-- where each number that has a slot stands, its piece is found
pieces_cover : (R : Region) (l : Layout) (ps : List Piece) → Rises piece_key ps → ((p : Piece) → Contains ps p → IsPiece R l p)
    → ((i a : ℕ) → slot_of l i ≡ Some a → Contains (map (λ (p : Piece). p.inode) ps) i) → ArePieces R l ps
pieces_cover R l ps rising each numbers = record {
  rising = rising;
  each = each;
  all = λ i a slot. (
      let w = from_map (λ (p : Piece). p.inode) ps i (numbers i a slot) in
      (w.0, w.1, sym w.2));
}

in_range : (a n i : ℕ) → a ≤ i → i < a + n → Contains (range_with_len a n) i
in_range a zero i low high = absurd (omega arith)
in_range a (suc n) i low high = elim (cases_lt a i) [
  | inl more ↦ Contains-tail a (range_with_len (a + 1) n) i (in_range (a + 1) n i (omega (arith, more)) (omega (arith, high)))
  | inr same ↦ (let e : a ≡ i = omega arith in let P : ℕ → Type 0 = λ j. Contains (range_with_len a (suc n)) j in subst P e (Contains-head a (range_with_len (a + 1) n)))
]

-- ---- pieces of the tickets drawn

count_inodes : (i : ℕ) (ps : List Piece) → count_by (λ (p : Piece). p.inode == i) ps ≡ count_by (λ j. j == i) (map (λ (p : Piece). p.inode) ps)
count_inodes i [] = refl
count_inodes i (p ∷ ps) =
    count_cons (λ (p : Piece). p.inode == i) p ps ∙ ap (λ (n : ℕ). cond {A = ℕ} (p.inode == i) 1 0 + n) (count_inodes i ps) ∙ sym (count_cons (λ j. j == i) p.inode (map (λ (p : Piece). p.inode) ps))

-- a sorted list rises where no number stands in it twice
pub rises_once : {A : Type 0} (n : A → ℕ) (xs : List A) → IsNonDecreasingBy n xs → ((i : ℕ) → count_by (λ x. n x == i) xs ≤ 1) → Rises (λ x. n x ∷ []) xs
rises_once n [] h once = tt
rises_once n (x ∷ []) h once = tt
rises_once {A} n (x ∷ y ∷ xs) h once = (below_first (n x) (n y) [] [] less, rises_once n (y ∷ xs) (IsNonDecreasingBy-drop n 1 (x ∷ y ∷ xs) h) rest) where
  both : (i : ℕ) → count_by (λ x. n x == i) (x ∷ y ∷ xs) ≡ cond {A = ℕ} (n x == i) 1 0 + (cond {A = ℕ} (n y == i) 1 0 + count_by (λ x. n x == i) xs)
  both i = count_cons (λ x. n x == i) x (y ∷ xs) ∙ ap (λ (k : ℕ). cond {A = ℕ} (n x == i) 1 0 + k) (count_cons (λ x. n x == i) y xs)

  rest : (i : ℕ) → count_by (λ x. n x == i) (y ∷ xs) ≤ 1
  rest i = let all = count_cons (λ x. n x == i) x (y ∷ xs) in let most = once i in omega (arith, all, most)

  less : n x < n y
  less = elim (cases_lt (n x) (n y)) [
    | inl w ↦ w
    | inr w ↦ absurd (
        let up : n x ≤ n y = h 0 1 x (omega arith) (omega arith) in
        let same : n y ≡ n x = omega (arith, up, w) in
        let mine : cond {A = ℕ} (n x == n x) 1 0 ≡ 1 = ap (λ (b : Bool). cond {A = ℕ} b 1 0) (eq-eqb (n x) (n x) refl) in
        let its : cond {A = ℕ} (n y == n x) 1 0 ≡ 1 = ap (λ (b : Bool). cond {A = ℕ} b 1 0) (eq-eqb (n y) (n x) same) in
        let all = both (n x) in
        let most = once (n x) in
        omega (arith, mine, its, all, most))
  ]

-- Pieces in another order have the claims in another order.
pub claims_permute : (ps qs : List Piece) → IsPermutation ps qs → IsPermutation (claims_in qs) (claims_in ps)
claims_permute ps qs p = IsPermutation-sym (claims_in ps) (claims_in qs) (flat_map_permutation (λ (p : Piece). p.claims.items) ps qs p)

-- Where each ticket stands once, the pieces of their inodes are those of the region, once they are sorted.
pub tickets_cover : (R : Region) (l : Layout) (tickets : List ℕ) (pieces sorted : List Piece) → IsLaid l → ArePiecesOf R l (numbers_in l tickets) pieces → ((t : ℕ) → times t tickets ≡ below t (ticket_count l))
    → IsPermutation pieces sorted → IsSortedByKey (λ (p : Piece). p.inode) nat_cmp sorted → ArePieces R l sorted
tickets_cover R l tickets pieces sorted laid are drawn moved up =
    pieces_cover R l sorted (rises_once (λ (p : Piece). p.inode) sorted (IsNonDecreasingBy-from_sort (λ (p : Piece). p.inode) sorted up) most) each numbers where
      each : (p : Piece) → Contains sorted p → IsPiece R l p
      each p c = of_each (IsPiece R l) pieces are.each p (Contains-permutation sorted pieces p (IsPermutation-sym pieces sorted moved) c)

      most : (i : ℕ) → count_by (λ (p : Piece). p.inode == i) sorted ≤ 1
      most i =
          let same : count_by (λ (p : Piece). p.inode == i) sorted ≡ count_by (λ (p : Piece). p.inode == i) pieces = sum_by-IsPermutation (λ (p : Piece). cond (p.inode == i) 1 0) pieces sorted moved in
          let its : count_by (λ (p : Piece). p.inode == i) pieces ≡ times i (numbers_in l tickets) = count_inodes i pieces ∙ ap (times i) are.order in
          let all = once l laid tickets drawn i in
          omega (arith, same, its, all)

      numbers : (i a : ℕ) → slot_of l i ≡ Some a → Contains (map (λ (p : Piece). p.inode) sorted) i
      numbers i a slot =
          let w = from_map (λ (p : Piece). p.inode) pieces i (subst (λ (ns : List ℕ). Contains ns i) (sym are.order) (stands l laid tickets drawn i a slot)) in
          subst (λ j. Contains (map (λ (p : Piece). p.inode) sorted) j) (sym w.2) (into_map (λ (p : Piece). p.inode) sorted w.0 (Contains-permutation pieces sorted w.0 moved w.1))
