-- Pieces in the order of inodes.
use Rattle.std.proofs.Common.{◌≡◌, ℕ, zero, suc, ◌<◌, ◌≤◌, nat_lt, nat_cmp, Bool, true, false, cond, Some, None, List, [], ◌∷◌, ◌++◌, length, get_or, refl, ap, sym, subst, ◌∙◌, arith}
use Rattle.std.specs.Ordering.{is_lt}
use Rattle.std.specs.List.{flat_map, cons_option, range_with_len}
use Rattle.std.specs.List.Sorted.{IsPermutation, IsSortedByKey}
use native.Mathlib.Numerals.{add-one}
use Rattle.std.proofs.lemmas.Bool.Decides.{nat_tests}
use Rattle.std.proofs.lemmas.List.Sorted.{IsPermutation-refl, IsPermutation-sym, IsPermutation-trans, IsPermutation-cons, IsPermutation-middle}
use Rattle.nv_region.specs.Region.{Region}
use Rattle.nv_super.specs.Layout.{Layout}
use Rattle.nv_inode.specs.Chains.{IsLaid}
use Rattle.nv_claimcore.specs.Claims.{times, below}
use Rattle.nv_scan.specs.Tickets.{ticket_count}
use Rattle.nv_scan.specs.Work.{numbers_in, claims_in, ArePiecesOf}
use Rattle.nv_scan.specs.declared.inodes.Inodes.{Inodes}
use Rattle.nv_scan.specs.declared.inodes.ListedInodes.{ListedInodes}
use Rattle.nv_scan.specs.declared.piece.Row.{Row}
use Rattle.nv_scan.specs.declared.piece.Piece.{Piece}
use Rattle.nv_scan.proofs.Drawn.{all_times}
use Rattle.nv_outcome.specs.Parts.{ArePieces, rows_in, faults_in}
use Rattle.nv_outcome.proofs.Reordered.{flat_map_permutation}
use Rattle.nv_outcome.proofs.Tickets.{claims_permute, tickets_cover}
use Rattle.nv_recover.specs.Scanned.{AreFirst, AreInodes}

module _ {A : Type 0} (n : A → ℕ) where
  -- ---- a list put in order

  abbrev put : A → List A → List A
  put x [] = x ∷ []
  put x (y ∷ ys) = cond (nat_lt (n y) (n x)) (y ∷ put x ys) (x ∷ y ∷ ys)

  abbrev in_order : List A → List A
  in_order [] = []
  in_order (x ∷ xs) = put x (in_order xs)

  put_moves : (x : A) (ys : List A) → IsPermutation (x ∷ ys) (put x ys)
  put_moves x [] = IsPermutation-refl (x ∷ [])
  put_moves x (y ∷ ys) = test (nat_lt (n y) (n x)) (put_moves x ys) where
    test : (b : Bool) → IsPermutation (x ∷ ys) (put x ys) → IsPermutation (x ∷ y ∷ ys) (cond b (y ∷ put x ys) (x ∷ y ∷ ys))
    test true moved = IsPermutation-trans (x ∷ y ∷ ys) (y ∷ x ∷ ys) (y ∷ put x ys) (IsPermutation-middle (x ∷ []) y ys) (IsPermutation-cons y (x ∷ ys) (put x ys) moved)
    test false moved = IsPermutation-refl (x ∷ y ∷ ys)

  in_order_moves : (xs : List A) → IsPermutation xs (in_order xs)
  in_order_moves [] = IsPermutation-refl []
  in_order_moves (x ∷ xs) = IsPermutation-trans (x ∷ xs) (x ∷ in_order xs) (put x (in_order xs)) (IsPermutation-cons x xs (in_order xs) (in_order_moves xs)) (put_moves x (in_order xs))

  -- no number is less than the one before it
  abbrev Up : List A → Type 0
  Up [] = Unit {0}
  Up (x ∷ []) = Unit {0}
  Up (x ∷ y ∷ xs) = (n x ≤ n y) × Up (y ∷ xs)

  put_behind : (x y : A) (ys : List A) → Up (y ∷ ys) → n y ≤ n x → Up (y ∷ put x ys)
  put_behind x y [] up le = (le, tt)
  put_behind x y (z ∷ zs) up le = test (nat_lt (n z) (n x)) refl (put_behind x z zs up.1) where
    test : (b : Bool) → nat_lt (n z) (n x) ≡ b → (n z ≤ n x → Up (z ∷ put x zs)) → Up (y ∷ cond b (z ∷ put x zs) (x ∷ z ∷ zs))
    test true e rest = (up.0, rest (grind (arith, nat_tests)))
    test false e rest = let more : n x ≤ n z = grind (arith, nat_tests) in (le, (more, up.1))

  put_up : (x : A) (ys : List A) → Up ys → Up (put x ys)
  put_up x [] up = tt
  put_up x (y ∷ ys) up = test (nat_lt (n y) (n x)) refl where
    test : (b : Bool) → nat_lt (n y) (n x) ≡ b → Up (cond b (y ∷ put x ys) (x ∷ y ∷ ys))
    test true e = put_behind x y ys up (grind (arith, nat_tests))
    test false e = let more : n x ≤ n y = grind (arith, nat_tests) in (more, up)

  in_order_up : (xs : List A) → Up (in_order xs)
  in_order_up [] = tt
  in_order_up (x ∷ xs) = put_up x (in_order xs) (in_order_up xs)

  up_sorted : (xs : List A) → Up xs → IsSortedByKey n nat_cmp xs
  up_sorted xs up k d low less = ap (λ m. is_lt (nat_cmp (n (get_or xs m d)) (n (get_or xs k d)))) (add-one k) ∙ at xs k d up (omega (arith, less)) where
    at : (xs : List A) (k : ℕ) (d : A) → Up xs → suc k < length xs → is_lt (nat_cmp (n (get_or xs (suc k) d)) (n (get_or xs k d))) ≡ false
    at [] k d up less = absurd (omega arith)
    at (x ∷ []) k d up less = absurd (omega arith)
    at (x ∷ y ∷ xs) zero d up less = let le : n x ≤ n y = up.0 in grind (arith, nat_tests)
    at (x ∷ y ∷ xs) (suc k) d up less = at (y ∷ xs) k d up.1 (omega (arith, less))

-- ---- pieces

rows_flat : (ps : List Piece) → rows_in ps ≡ flat_map (λ (p : Piece). cons_option p.row []) ps
rows_flat [] = refl
rows_flat (p ∷ ps) = elim p.row as (λ o. cons_option o (rows_in ps) ≡ cons_option o [] ++ flat_map (λ (p : Piece). cons_option p.row []) ps) [
  | None ↦ rows_flat ps
  | Some row ↦ ap (λ (rows : List Row). row ∷ rows) (rows_flat ps)
]

rows_permute : (ps qs : List Piece) → IsPermutation ps qs → IsPermutation (rows_in ps) (rows_in qs)
rows_permute ps qs moved = rw (rows_flat ps, rows_flat qs) (flat_map_permutation (λ (p : Piece). cons_option p.row []) ps qs moved)

faults_permute : (ps qs : List Piece) → IsPermutation ps qs → IsPermutation (faults_in ps) (faults_in qs)
faults_permute ps qs moved = flat_map_permutation (λ (p : Piece). p.faults.items) ps qs moved

-- Pieces in the order of inodes: all inodes have one, and the claims, the rows and the faults are theirs, in another order.
pub record AreInOrder (R : Region) (l : Layout) (pieces : List Piece) : Type 0 where
  pub sorted : List Piece
  pub pieces_are : ArePieces R l sorted
  pub claims : IsPermutation (claims_in sorted) (claims_in pieces)
  pub rows : IsPermutation (rows_in sorted) (rows_in pieces)
  pub faults : IsPermutation (faults_in sorted) (faults_in pieces)

-- Where each ticket stands once.
pub tickets_in_order : (R : Region) (l : Layout) (tickets : List ℕ) (pieces : List Piece) → IsLaid l → ArePiecesOf R l (numbers_in l tickets) pieces → ((t : ℕ) → times t tickets ≡ below t (ticket_count l)) → AreInOrder R l pieces
tickets_in_order R l tickets pieces laid are drawn =
    let ps = in_order (λ (p : Piece). p.inode) pieces in
    let put : IsPermutation pieces ps = in_order_moves (λ (p : Piece). p.inode) pieces in
    let back : IsPermutation ps pieces = IsPermutation-sym pieces ps put in
    record {
      sorted = ps;
      pieces_are = tickets_cover R l tickets pieces ps laid are drawn put (up_sorted (λ (p : Piece). p.inode) ps (in_order_up (λ (p : Piece). p.inode) pieces));
      claims = claims_permute pieces ps put;
      rows = rows_permute ps pieces back;
      faults = faults_permute ps pieces back;
    }

-- The inodes of all tickets, in the order of inodes.
pub first_in_order : {R : Region} {l : Layout} {n : ℕ} {ps : List Piece} {x : Inodes} {y : ListedInodes} → IsLaid l → n ≡ ticket_count l → AreFirst R l n ps x → y.rows.items ≡ x.rows.items → y.faults.items ≡ x.faults.items
    → (order : AreInOrder R l ps) × AreInodes R l order.sorted y
first_in_order {R} {l} {n} {ps} {x} {y} laid all first rows faults =
    let are = subst (λ (m : ℕ). ArePiecesOf R l (numbers_in l (range_with_len 0 m)) ps) all first.are in
    let order = tickets_in_order R l (range_with_len 0 (ticket_count l)) ps laid are (all_times (ticket_count l)) in (
      order,
      record {
        pieces_are = order.pieces_are;
        rows = subst (IsPermutation (rows_in order.sorted)) (sym (rows ∙ first.rows)) order.rows;
        faults = subst (IsPermutation (faults_in order.sorted)) (sym (faults ∙ first.faults)) order.faults;
      },
    )
