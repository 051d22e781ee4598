-- The rows that stand in slots by their numbers.
use Rattle.std.proofs.Common.{◌≡◌, ℕ, zero, suc, ◌+◌, ◌<◌, ◌≤◌, nat_eq, true, false, List, [], ◌∷◌, length, length-set, zero-add, get_or, set, slice_get, map, Option, Some, None, IfSome, is_some, refl, sym, ap, ◌∙◌, inl, inr, arith, Contains}
use Rattle.std.specs.List.{insert, remove}
use Rattle.std.proofs.lemmas.Bool.{cases_eq, cases_lt}
use Rattle.std.proofs.lemmas.Bool.Decides.{nat_tests}
use Rattle.std.proofs.lemmas.List.{get_or-set_other, get_or_past}
use Rattle.std.proofs.lemmas.Grind.{get_or-set_at}
use Rattle.nv_super.specs.Order.{Rises}
use Rattle.nv_super.proofs.Members.{stands}
use Rattle.nv_super.proofs.Rising.{Contains-cons, below_first, rises_cons}
use Rattle.nv_scan.specs.declared.piece.Row.{Row}
use Rattle.nv_numbered.specs.Values.{entries_from}
use Rattle.nv_rows.specs.Rows.{row_key, inodes_of, row_of, place_in, HasInserted}
use Rattle.nv_rows.specs.Slots.{rows_in, StandByNumber}

-- what stands behind the first slot
pub later_stand : (first : ℕ) (slot : Option Row) (rest : List (Option Row)) → StandByNumber first (slot ∷ rest) → StandByNumber (first + 1) rest
later_stand first slot rest stand k row at = omega (arith, stand (suc k) row at)

-- a slot that was written
pub stand-set : (first : ℕ) (slots : List (Option Row)) (n : ℕ) (slot : Option Row) → n < length slots → ((row : Row) → slot ≡ Some row → row.inode ≡ first + n) → StandByNumber first slots → StandByNumber first (set slots n slot)
stand-set first slots n slot inside here stand k row at =
    elim (cases_eq k n) [
      | inl same ↦ omega (arith, same, here row (sym (get_or-set_at slots n k slot None same inside) ∙ at))
      | inr differs ↦ stand k row (sym (get_or-set_other slots n k slot None differs) ∙ at)
    ]

-- the slot of its number gets a row
pub stand-filled : (slots : List (Option Row)) (row : Row) → row.inode < length slots → StandByNumber 0 slots → StandByNumber 0 (set slots row.inode (Some row))
stand-filled slots row inside stand =
    stand-set 0 slots row.inode (Some row) inside (λ found is. let same : row ≡ found = cc in ap (λ (r : Row). r.inode) (sym same) ∙ sym (zero-add row.inode)) stand

-- a slot that was emptied
pub stand-emptied : (first : ℕ) (slots : List (Option Row)) (n : ℕ) → StandByNumber first slots → StandByNumber first (set slots n None)
stand-emptied first slots n stand k row at =
    elim (cases_eq k n) [
      | inl same ↦ elim (cases_lt n (length slots)) [
        | inl inside ↦ let none = get_or-set_at slots n k None None same inside in absurd (cc)
        | inr past ↦ let none = get_or_past (set slots n None) k None (omega (arith, same, past, length-set slots n None)) in absurd (cc)
      ]
      | inr differs ↦ stand k row (sym (get_or-set_other slots n k None None differs) ∙ at)
    ]

-- the entries of a table hold these rows
pub rows_of_entries : (first : ℕ) (slots : List (Option Row)) → map (λ (e : ℕ × Row). e.1) (entries_from first slots) ≡ rows_in slots
rows_of_entries first [] = refl
rows_of_entries first (None ∷ rest) = rows_of_entries (first + 1) rest
rows_of_entries first (Some row ∷ rest) = ap (λ (rows : List Row). row ∷ rows) (rows_of_entries (first + 1) rest)

-- under the numbers of these rows
pub numbers_of_entries : (first : ℕ) (slots : List (Option Row)) → StandByNumber first slots → map (λ (e : ℕ × Row). e.0) (entries_from first slots) ≡ inodes_of (rows_in slots)
numbers_of_entries first [] stand = refl
numbers_of_entries first (None ∷ rest) stand = numbers_of_entries (first + 1) rest (later_stand first None rest stand)
numbers_of_entries first (Some row ∷ rest) stand =
    let number : first ≡ row.inode = omega (arith, stand 0 row refl) in
    let later = numbers_of_entries (first + 1) rest (later_stand first (Some row) rest stand) in
    ap (λ (n : ℕ). n ∷ map (λ (e : ℕ × Row). e.0) (entries_from (first + 1) rest)) number ∙ ap (λ (numbers : List ℕ). row.inode ∷ numbers) later

pub count_of_entries : (slots : List (Option Row)) → length (entries_from 0 slots) ≡ length (rows_in slots)
count_of_entries slots = count_from 0 slots
  where
    count_from : (first : ℕ) (rest : List (Option Row)) → length (entries_from first rest) ≡ length (rows_in rest)
    count_from first [] = refl
    count_from first (None ∷ rest) = count_from (first + 1) rest
    count_from first (Some row ∷ rest) = omega (arith, count_from (first + 1) rest)

-- no number is below that of the first slot
pub none_below : (first : ℕ) (slots : List (Option Row)) → StandByNumber first slots → (row : Row) → Contains (rows_in slots) row → first ≤ row.inode
none_below first [] stand row listed = absurd (omega (arith, listed.1))
none_below first (None ∷ rest) stand row listed = omega (arith, none_below (first + 1) rest (later_stand first None rest stand) row listed)
none_below first (Some x ∷ rest) stand row listed =
    elim (Contains-cons x (rows_in rest) row listed) [
      | inl e ↦ omega (arith, stand 0 x refl, ap (λ (r : Row). r.inode) e)
      | inr later ↦ omega (arith, none_below (first + 1) rest (later_stand first (Some x) rest stand) row later)
    ]

-- rows by number rise
pub rows_rise : (first : ℕ) (slots : List (Option Row)) → StandByNumber first slots → Rises row_key (rows_in slots)
rows_rise first [] stand = tt
rows_rise first (None ∷ rest) stand = rows_rise (first + 1) rest (later_stand first None rest stand)
rows_rise first (Some x ∷ rest) stand =
    let later = later_stand first (Some x) rest stand in
    rises_cons row_key x (rows_in rest)
    (λ row listed. below_first x.inode row.inode [] [] (omega (arith, stand 0 x refl, none_below (first + 1) rest later row listed)))
    (rows_rise (first + 1) rest later)

-- a number below that of the first slot has no row
row_below : (first : ℕ) (slots : List (Option Row)) (i : ℕ) → i < first → StandByNumber first slots → row_of (rows_in slots) i ≡ None
row_below first [] i below stand = refl
row_below first (None ∷ rest) i below stand = row_below (first + 1) rest i (omega arith) (later_stand first None rest stand)
row_below first (Some x ∷ rest) i below stand =
    let is : x.inode ≡ first + 0 = stand 0 x refl in
    let test : nat_eq x.inode i ≡ false = grind (arith, nat_tests) in
    rw test (row_below (first + 1) rest i (omega arith) (later_stand first (Some x) rest stand))

-- the row of a number is what its slot has
pub row_in_slot : (first : ℕ) (slots : List (Option Row)) (k : ℕ) → StandByNumber first slots → row_of (rows_in slots) (first + k) ≡ get_or slots k None
row_in_slot first [] k stand = refl
row_in_slot first (None ∷ rest) zero stand = row_below (first + 1) rest (first + 0) (omega arith) (later_stand first None rest stand)
row_in_slot first (None ∷ rest) (suc k) stand =
    let shift : first + suc k ≡ first + 1 + k = omega arith in
    rw shift (row_in_slot (first + 1) rest k (later_stand first None rest stand))
row_in_slot first (Some x ∷ rest) zero stand =
    let is : x.inode ≡ first + 0 = stand 0 x refl in
    let test : nat_eq x.inode (first + 0) ≡ true = grind (arith, nat_tests) in
    rw test refl
row_in_slot first (Some x ∷ rest) (suc k) stand =
    let is : x.inode ≡ first + 0 = stand 0 x refl in
    let test : nat_eq x.inode (first + suc k) ≡ false = grind (arith, nat_tests) in
    let shift : first + suc k ≡ first + 1 + k = omega arith in
    let later : row_of (rows_in rest) (first + suc k) ≡ get_or rest k None = rw shift (row_in_slot (first + 1) rest k (later_stand first (Some x) rest stand)) in
    rw test later

-- the same of a table whose first slot is that of 0
pub row_at_slot : (slots : List (Option Row)) (k : ℕ) → StandByNumber 0 slots → row_of (rows_in slots) k ≡ get_or slots k None
row_at_slot slots k stand = ap (row_of (rows_in slots)) (sym (zero-add k)) ∙ row_in_slot 0 slots k stand

-- ---- a row that comes

-- how many rows stand in front of a slot
abbrev pub rows_before : List (Option Row) → ℕ → ℕ
rows_before [] n = 0
rows_before (slot ∷ rest) zero = 0
rows_before (None ∷ rest) (suc n) = rows_before rest n
rows_before (Some row ∷ rest) (suc n) = suc (rows_before rest n)

rows_before_within : (slots : List (Option Row)) (n : ℕ) → rows_before slots n ≤ length (rows_in slots)
rows_before_within [] n = omega arith
rows_before_within (None ∷ rest) zero = omega arith
rows_before_within (Some row ∷ rest) zero = omega arith
rows_before_within (None ∷ rest) (suc n) = rows_before_within rest n
rows_before_within (Some row ∷ rest) (suc n) = omega (arith, rows_before_within rest n)

row_comes : (slots : List (Option Row)) (n : ℕ) (row : Row) → n < length slots → get_or slots n None ≡ None → rows_in (set slots n (Some row)) ≡ insert (rows_in slots) (rows_before slots n) row
row_comes [] n row inside vacant = absurd (omega (arith, inside))
row_comes (None ∷ rest) zero row inside vacant = refl
row_comes (Some x ∷ rest) zero row inside vacant = absurd (cc)
row_comes (None ∷ rest) (suc n) row inside vacant = row_comes rest n row (omega (arith, inside)) vacant
row_comes (Some x ∷ rest) (suc n) row inside vacant = ap (λ (rows : List Row). x ∷ rows) (row_comes rest n row (omega (arith, inside)) vacant)

-- a row that comes into the slot of its number is put in at its place
pub slot_filled : (slots : List (Option Row)) (row : Row) → row.inode < length slots → get_or slots row.inode None ≡ None → StandByNumber 0 slots → HasInserted (rows_in slots) (rows_in (set slots row.inode (Some row))) row
slot_filled slots row inside vacant stand =
    record {
      place = rows_before slots row.inode;
      inside = rows_before_within slots row.inode;
      all = row_comes slots row.inode row inside vacant;
      rising = rows_rise 0 (set slots row.inode (Some row)) (stand-filled slots row inside stand);
    }

-- ---- a row that goes

-- a number with a row has a slot
pub slot_within : (slots : List (Option Row)) (n : ℕ) → is_some (get_or slots n None) ≡ true → n < length slots
slot_within slots n some =
    elim (cases_lt n (length slots)) [
      | inl inside ↦ inside
      | inr past ↦ let none = ap is_some (get_or_past slots n None past) in absurd (cc)
    ]

-- a row that is taken out has its number, of which holds what holds of each number with a row
pub number_out : (slots : List (Option Row)) (n : ℕ) (P : ℕ → Type 0) (o : Option Row) → o ≡ get_or slots n None → StandByNumber 0 slots → ((i : ℕ) → is_some (get_or slots i None) ≡ true → P i) → IfSome o (λ row. (row.inode ≡ n) × P n)
number_out slots n P None at stand each = tt
number_out slots n P (Some row) at stand each = (stand n row (sym at) ∙ zero-add n, each n (ap is_some (sym at)))

-- the number of an emptied slot has no row
pub row_gone : (slots : List (Option Row)) (n : ℕ) → StandByNumber 0 slots → row_of (rows_in (set slots n None)) n ≡ None
row_gone slots n stand =
    row_at_slot (set slots n None) n (stand-emptied 0 slots n stand)
    ∙ elim (cases_lt n (length slots)) [
      | inl inside ↦ get_or-set_at slots n n None None refl inside
      | inr past ↦ get_or_past (set slots n None) n None (omega (arith, past, length-set slots n None))
    ]

-- an emptied slot takes its row out of the list
pub slot_emptied : (first : ℕ) (slots : List (Option Row)) (n k : ℕ) (row : Row) → StandByNumber first slots → slice_get (rows_in slots) k ≡ Some row → row.inode ≡ first + n → rows_in (set slots n None) ≡ remove (rows_in slots) k
slot_emptied first [] n k row stand at is = absurd (cc)
slot_emptied first (None ∷ rest) zero k row stand at is =
    absurd (omega (arith, is, none_below (first + 1) rest (later_stand first None rest stand) row (stands (rows_in rest) k row at)))
slot_emptied first (None ∷ rest) (suc n) k row stand at is =
    slot_emptied (first + 1) rest n k row (later_stand first None rest stand) at (omega (arith, is))
slot_emptied first (Some x ∷ rest) zero zero row stand at is = refl
slot_emptied first (Some x ∷ rest) zero (suc k) row stand at is =
    absurd (omega (arith, is, none_below (first + 1) rest (later_stand first (Some x) rest stand) row (stands (rows_in rest) k row at)))
slot_emptied first (Some x ∷ rest) (suc n) zero row stand at is =
    let same : x ≡ row = cc in
    absurd (omega (arith, is, stand 0 x refl, ap (λ (r : Row). r.inode) same))
slot_emptied first (Some x ∷ rest) (suc n) (suc k) row stand at is =
    ap (λ (rows : List Row). x ∷ rows) (slot_emptied (first + 1) rest n k row (later_stand first (Some x) rest stand) at (omega (arith, is)))

-- ---- a row that is exchanged for another

-- it stands where the other stood
pub slot_exchanged : (first : ℕ) (slots : List (Option Row)) (n : ℕ) (was row : Row) → StandByNumber first slots → get_or slots n None ≡ Some was → rows_in (set slots n (Some row)) ≡ set (rows_in slots) (place_in (rows_in slots) (first + n)) row
slot_exchanged first [] n was row stand at = absurd (cc)
slot_exchanged first (None ∷ rest) zero was row stand at = absurd (cc)
slot_exchanged first (None ∷ rest) (suc k) was row stand at =
    let shift : first + suc k ≡ first + 1 + k = omega arith in
    rw shift (slot_exchanged (first + 1) rest k was row (later_stand first None rest stand) at)
slot_exchanged first (Some x ∷ rest) zero was row stand at =
    let is : x.inode ≡ first + 0 = stand 0 x refl in
    let test : nat_eq x.inode (first + 0) ≡ true = grind (arith, nat_tests) in
    rw test refl
slot_exchanged first (Some x ∷ rest) (suc k) was row stand at =
    let is : x.inode ≡ first + 0 = stand 0 x refl in
    let test : nat_eq x.inode (first + suc k) ≡ false = grind (arith, nat_tests) in
    let shift : first + suc k ≡ first + 1 + k = omega arith in
    let later : rows_in (set rest k (Some row)) ≡ set (rows_in rest) (place_in (rows_in rest) (first + suc k)) row = rw shift (slot_exchanged (first + 1) rest k was row (later_stand first (Some x) rest stand) at) in
    rw test (ap (λ (rows : List Row). x ∷ rows) later)
