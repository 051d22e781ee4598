-- For callers: where the row of an inode stands, and what the rows are once one or two were lent, changed and given back.
use Rattle.std.proofs.Common.{◌≡◌, ◌≢◌, ℕ, zero, suc, ◌<◌, nat_eq, Bool, true, false, cond, is_some, List, [], ◌∷◌, length, get_or, remove, set, set-set, slice_get, Option, Some, None, refl, sym, ap, ◌∙◌, subst, arith}
use Rattle.std.proofs.Math.Seq.{map-set_same}
use Rattle.std.proofs.lemmas.List.{set_comm}
use Rattle.std.proofs.lemmas.Option.{get_or_from_slice_get, slice_get_within}
use Rattle.std.proofs.lemmas.Bool.Decides.{nat_tests}
use Rattle.nv_super.specs.Order.{Rises}
use Rattle.nv_super.proofs.RisingPlaces.{rises_keys}
use Rattle.nv_scan.specs.declared.piece.Row.{Row}
use Rattle.nv_rows.specs.Rows.{row_key, row_of, place_in, IsInUse, IsLent, IsPlaceOf}

differs : (a i j : ℕ) → a ≡ i → i ≢ j → nat_eq a j ≡ false
differs a i j is apart = grind (arith, nat_tests)

tested : (a i : ℕ) → nat_eq a i ≡ true → a ≡ i
tested a i test = grind (arith, nat_tests)

-- ---- the row of an inode

-- the row of an inode has its number
pub numbered : (rows : List Row) (i : ℕ) (row : Row) → row_of rows i ≡ Some row → row.inode ≡ i
numbered [] i row e = absurd (cc)
numbered (x ∷ rows) i row e = by (nat_eq x.inode i) refl (λ rest. numbered rows i row rest) e where
  by : (b : Bool) → nat_eq x.inode i ≡ b → (row_of rows i ≡ Some row → row.inode ≡ i) → cond b (Some x) (row_of rows i) ≡ Some row → row.inode ≡ i
  by true test rest e =
      let same : x ≡ row = cc in
      subst (λ (r : Row). r.inode ≡ i) same (tested x.inode i test)
  by false test rest e = rest e

pub own_row : (rows : List Row) (i : ℕ) (row : Row) → row_of rows i ≡ Some row → row_of rows row.inode ≡ Some row
own_row rows i row e = ap (row_of rows) (numbered rows i row e) ∙ e

-- it stands at the inode's place
pub at_place : (rows : List Row) (i : ℕ) → slice_get rows (place_in rows i) ≡ row_of rows i
at_place [] i = refl
at_place (x ∷ rows) i = by (nat_eq x.inode i) (at_place rows i) where
  by : (b : Bool) → slice_get rows (place_in rows i) ≡ row_of rows i → slice_get (x ∷ rows) (cond b zero (suc (place_in rows i))) ≡ cond b (Some x) (row_of rows i)
  by true rest = refl
  by false rest = rest

-- an inode in use has a row
pub row_in_use : (rows : List Row) (i : ℕ) → IsInUse rows i → (row : Row) × (row_of rows i ≡ Some row)
row_in_use rows i used = by (row_of rows i) refl used where
  by : (o : Option Row) → row_of rows i ≡ o → is_some o ≡ true → (row : Row) × (row_of rows i ≡ Some row)
  by None e used = absurd (cc)
  by (Some row) e used = (row, e)

pub in_use : (rows : List Row) (i : ℕ) (row : Row) → row_of rows i ≡ Some row → IsInUse rows i
in_use rows i row e = ap is_some e

pub place_within : (rows : List Row) (i : ℕ) → IsInUse rows i → place_in rows i < length rows
place_within rows i used = let r = row_in_use rows i used in slice_get_within rows (place_in rows i) r.0 (at_place rows i ∙ r.1)

pub is_place : (rows : List Row) (i : ℕ) (row : Row) → row_of rows i ≡ Some row → IsPlaceOf rows i (place_in rows i)
is_place rows i row e = (row, at_place rows i ∙ e, numbered rows i row e)

-- two inodes have two places
pub places_apart : (rows : List Row) (i j : ℕ) → IsInUse rows i → IsInUse rows j → i ≢ j → place_in rows i ≢ place_in rows j
places_apart rows i j used other apart same =
    let r = row_in_use rows i used in
    let q = row_in_use rows j other in
    let both : Some r.0 ≡ Some q.0 = sym r.1 ∙ sym (at_place rows i) ∙ ap (slice_get rows) same ∙ at_place rows j ∙ q.1 in
    let one : r.0 ≡ q.0 = cc in
    apart (sym (numbered rows i r.0 r.1) ∙ ap (λ (row : Row). row.inode) one ∙ numbered rows j q.0 q.1)

-- ---- a row taken out

-- the rows of the others stay
pub others_stay : (rows : List Row) (i j : ℕ) → i ≢ j → row_of (remove rows (place_in rows i)) j ≡ row_of rows j
others_stay [] i j apart = refl
others_stay (x ∷ rows) i j apart = by (nat_eq x.inode i) refl (others_stay rows i j apart) where
  by : (b : Bool) → nat_eq x.inode i ≡ b → row_of (remove rows (place_in rows i)) j ≡ row_of rows j → row_of (remove (x ∷ rows) (cond b zero (suc (place_in rows i)))) j ≡ cond (nat_eq x.inode j) (Some x) (row_of rows j)
  by true test rest = sym (ap (λ (c : Bool). cond c (Some x) (row_of rows j)) (differs x.inode i j (tested x.inode i test) apart))
  by false test rest = ap (λ (o : Option Row). cond (nat_eq x.inode j) (Some x) o) rest

-- ---- a row written over

-- each inode has the place that it had
pub place_kept : (rows : List Row) (j i : ℕ) (now : Row) → now.inode ≡ j → place_in (set rows (place_in rows j) now) i ≡ place_in rows i
place_kept [] j i now number = refl
place_kept (x ∷ rows) j i now number = by (nat_eq x.inode j) refl (place_kept rows j i now number) where
  by : (b : Bool) → nat_eq x.inode j ≡ b → place_in (set rows (place_in rows j) now) i ≡ place_in rows i → place_in (set (x ∷ rows) (cond b zero (suc (place_in rows j))) now) i ≡ cond (nat_eq x.inode i) zero (suc (place_in rows i))
  by true test rest = ap (λ (n : ℕ). cond (nat_eq n i) zero (suc (place_in rows i))) (number ∙ sym (tested x.inode j test))
  by false test rest = ap (λ (n : ℕ). cond (nat_eq x.inode i) zero (suc n)) rest

-- the row of another number
pub row_of_other : (rows : List Row) (place : ℕ) (row new : Row) (j : ℕ) → slice_get rows place ≡ Some row → j ≢ row.inode → j ≢ new.inode → row_of (set rows place new) j ≡ row_of rows j
row_of_other [] place row new j at apart new_apart = absurd (cc)
row_of_other (x ∷ rows) zero row new j at apart new_apart =
    let same : x ≡ row = cc in
    let number : x.inode ≡ row.inode = ap (λ (r : Row). r.inode) same in
    ap (λ (b : Bool). cond b (Some new) (row_of rows j)) (differs new.inode new.inode j refl (λ e. new_apart (sym e)))
    ∙ ap (λ (b : Bool). cond b (Some x) (row_of rows j)) (sym (differs x.inode row.inode j number (λ e. apart (sym e))))
row_of_other (x ∷ rows) (suc place) row new j at apart new_apart = ap (λ (o : Option Row). cond (nat_eq x.inode j) (Some x) o) (row_of_other rows place row new j at apart new_apart)

-- and its own is the new one
pub own_kept : (rows : List Row) (i : ℕ) (now : Row) → IsInUse rows i → now.inode ≡ i → row_of (set rows (place_in rows i) now) i ≡ Some now
own_kept [] i now used number = absurd (cc)
own_kept (x ∷ rows) i now used number = by (nat_eq x.inode i) refl (λ u. own_kept rows i now u number) used where
  by : (b : Bool) → nat_eq x.inode i ≡ b → (IsInUse rows i → row_of (set rows (place_in rows i) now) i ≡ Some now) → is_some (cond b (Some x) (row_of rows i)) ≡ true → row_of (set (x ∷ rows) (cond b zero (suc (place_in rows i))) now) i ≡ Some now
  by true test rest used = let own : nat_eq now.inode i ≡ true = grind (arith, nat_tests, number) in ap (λ (c : Bool). cond c (Some now) (row_of rows i)) own
  by false test rest used = ap (λ (c : Bool). cond c (Some x) (row_of (set rows (place_in rows i) now) i)) test ∙ rest used

pub number_at : (rows : List Row) (place : ℕ) (row new : Row) → slice_get rows place ≡ Some row → (get_or rows place new).inode ≡ row.inode
number_at rows place row new at = ap (λ (r : Row). r.inode) (get_or_from_slice_get rows place row new at)

-- a row that keeps its number leaves them rising
pub set_rising : (rows : List Row) (place : ℕ) (row now : Row) → Rises row_key rows → slice_get rows place ≡ Some row → now.inode ≡ row.inode → Rises row_key (set rows place now)
set_rising rows place row now rising at number =
    rises_keys row_key rows (set rows place now) (sym (map-set_same row_key rows place now now (ap (λ (n : ℕ). n ∷ []) (number ∙ sym (number_at rows place row now at))))) rising

-- ---- rows that were lent and given back

-- the others have their rows meanwhile
pub others_lent : (old mid : List Row) (i j : ℕ) → i ≢ j → IsInUse old i → IsLent old mid i → row_of mid j ≡ row_of old j
others_lent old mid i j apart used lent =
    let was = row_in_use old i used in
    ap (λ (rs : List Row). row_of rs j) lent.all
    ∙ row_of_other old (place_in old i) was.0 lent.blank j (at_place old i ∙ was.1) (λ e. apart (sym (e ∙ numbered old i was.0 was.1))) (λ e. apart (sym (e ∙ lent.number)))

-- an inode whose row was lent is in use
pub used_lent : (old mid : List Row) (i : ℕ) → IsInUse old i → IsLent old mid i → IsInUse mid i
used_lent old mid i used lent = in_use mid i lent.blank (ap (λ (rs : List Row). row_of rs i) lent.all ∙ own_kept old i lent.blank used lent.number)

-- its place is what it was
pub place_lent : (old mid : List Row) (i j : ℕ) → IsLent old mid i → place_in mid j ≡ place_in old j
place_lent old mid i j lent = ap (λ (rs : List Row). place_in rs j) lent.all ∙ place_kept old i j lent.blank lent.number

-- one row given back
pub back_one : (old mid new : List Row) (i : ℕ) (row : Row) → IsLent old mid i → row.inode ≡ i → new ≡ set mid (place_in mid row.inode) row → new ≡ set old (place_in old i) row
back_one old mid new i row lent number back =
    back ∙ ap (λ (k : ℕ). set mid (place_in mid k) row) number
    ∙ ap (λ (p : ℕ). set mid p row) (place_lent old mid i i lent)
    ∙ ap (λ (rs : List Row). set rs (place_in old i) row) lent.all
    ∙ set-set old (place_in old i) lent.blank row

-- and two: the second was lent last, and given back first
pub back_two : (old mid rest one new : List Row) (i j : ℕ) (row other : Row) → i ≢ j → IsInUse old i → IsInUse old j → IsLent old mid i → IsLent mid rest j → other.inode ≡ j → one ≡ set rest (place_in rest other.inode) other
    → row.inode ≡ i → new ≡ set one (place_in one row.inode) row → new ≡ set (set old (place_in old i) row) (place_in old j) other
back_two old mid rest one new i j row other apart used other_used lent other_lent other_number other_back number back =
    let at = place_in old i in
    let place = place_in old j in
    let first : one ≡ set mid place other = back_one mid rest one j other other_lent other_number other_back ∙ ap (λ (p : ℕ). set mid p other) (place_lent old mid i j lent) in
    let stays : place_in one i ≡ at =
    (ap (λ (rs : List Row). place_in rs i) (back_one mid rest one j other other_lent other_number other_back) ∙ place_kept mid j i other other_number ∙ place_lent old mid i i lent) in
    back ∙ ap (λ (k : ℕ). set one (place_in one k) row) number ∙ ap (λ (p : ℕ). set one p row) stays
    ∙ ap (λ (rs : List Row). set rs at row) (first ∙ ap (λ (rs : List Row). set rs place other) lent.all)
    ∙ set_comm (set old at lent.blank) place at other row (λ e. places_apart old i j used other_used apart (sym e))
    ∙ ap (λ (rs : List Row). set rs place other) (set-set old at lent.blank row)

-- an inode in use stays so where another's row is given back
pub used_back : (rest one : List Row) (i j : ℕ) (row : Row) → i ≢ j → IsInUse rest j → row.inode ≡ j → one ≡ set rest (place_in rest row.inode) row → IsInUse rest i → IsInUse one i
used_back rest one i j row apart there number back used =
    let was = row_in_use rest j there in
    let r = row_in_use rest i used in
    let place : place_in rest row.inode ≡ place_in rest j = ap (place_in rest) number in
    in_use one i r.0
    (ap (λ (rs : List Row). row_of rs i) (back ∙ ap (λ (p : ℕ). set rest p row) place)
    ∙ row_of_other rest (place_in rest j) was.0 row i (at_place rest j ∙ was.1) (λ e. apart (e ∙ numbered rest j was.0 was.1)) (λ e. apart (e ∙ number)) ∙ r.1)
