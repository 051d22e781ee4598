-- Listings as they are stored: rows, and places of lists of names.
use Rattle.std.proofs.Common.{◌≡◌, ℕ, zero, suc, ◌+◌, ◌<◌, Bool, true, false, not, eqb-true, Some, None, List, [], ◌∷◌, ◌++◌, length, get_or, map, take, slice_get, refl, ap, sym, ◌∙◌, subst, arith}
use Rattle.std.proofs.lemmas.Bool.{true≢false}
use Rattle.std.specs.List.{AllZip}
use Rattle.std.specs.declared.vec.Vec.{Vec}
use Rattle.std.specs.declared.alloc.Global.{Global}
use Rattle.std.proofs.lemmas.List.{get_or_default, length-append, map-append, take_more}
use Rattle.std.proofs.lemmas.Option.{get_or_from_slice_get}
use Rattle.nv_names.specs.Names.{line_of, HasNames}
use Rattle.nv_names.specs.declared.named.Named.{Named}
use Rattle.nv_scan.specs.Heads.{heads_of}
use Rattle.nv_scan.specs.declared.piece.Row.{Row}
use Rattle.nv_scan.specs.declared.row_list.RowHead.{RowHead}
use Rattle.nv_scan.proofs.RowHeads.{row_of_head}
use Rattle.nv_cross_check.specs.Listing.{Listing}
use Rattle.nv_cross_check.specs.Listings.{AreListings}
use Rattle.nv_cross_check.specs.NameLists.{NameLists, items_of, names_by, listing_with, listings_in, is_list, HaveLists, HasEmpty, IsNamed, AreNamed, Extends}
use Rattle.nv_cross_check.specs.Steps.{IsAt, HasHead, HasNamesAt, IsNameless}

-- there are as many listings as rows
pub as_long : (rows : List Row) (places : List ℕ) (lists : NameLists) → length places ≡ length rows → length (listings_in rows places lists) ≡ length rows
unfolding listings_in
as_long [] places lists long = refl
as_long (r ∷ rows) [] lists long = absurd (omega (arith, long))
as_long (r ∷ rows) (place ∷ places) lists long = ap suc (as_long rows places lists (omega (arith, long)))

-- the listing of the row at a place
pub listed_at : (rows : List Row) (places : List ℕ) (lists : NameLists) (k : ℕ) (row : Row) → length places ≡ length rows → slice_get rows k ≡ Some row → IsAt (listings_in rows places lists) k (listing_with row (names_by lists (get_or places k 0)))
unfolding listings_in
listed_at [] places lists k row long is = absurd (let none : None ≡ Some row = is in cc)
listed_at (r ∷ rows) [] lists k row long is = absurd (omega (arith, long))
listed_at (r ∷ rows) (place ∷ places) lists zero row long is =
    let same : r ≡ row = (let one : Some r ≡ Some row = is in cc) in (omega arith, ap (λ (x : Row). listing_with x (names_by lists place)) same)
listed_at (r ∷ rows) (place ∷ places) lists (suc k) row long is = let h = listed_at rows places lists k row (omega (arith, long)) is in (let lt = h.0 in omega (arith, lt), h.1)

pub element_at : {A : Type 0} (xs : List A) (k : ℕ) → k < length xs → (x : A) × (slice_get xs k ≡ Some x)
element_at [] k lt = absurd (omega (arith, lt))
element_at (x ∷ xs) zero lt = (x, refl)
element_at (x ∷ xs) (suc k) lt = element_at xs k (omega (arith, lt))

not_false : (b : Bool) → not b ≡ false → b ≡ true
not_false true e = refl
not_false false e = absurd (true≢false e)

module _ (rows : List Row) (places : List ℕ) (lists : NameLists) (k : ℕ) (long : length places ≡ length rows) where
  pub head_there : (head : RowHead) → slice_get (heads_of rows) k ≡ Some head → HasHead (listings_in rows places lists) k head
  head_there head is =
      let w = row_of_head rows k head is in (
        listing_with w.0 (names_by lists (get_or places k 0)),
        listed_at rows places lists k w.0 long w.1,
        ap (λ (h : RowHead). h.inode) w.2,
        ap (λ (h : RowHead). h.kind) w.2,
        ap (λ (h : RowHead). h.links) w.2,
      )

  pub names_there : (names : List Named) → k < length (listings_in rows places lists) → names ≡ names_by lists (get_or places k 0) → HasNamesAt (listings_in rows places lists) k names
  names_there names lt is =
      let w = element_at rows k (omega (arith, lt, as_long rows places lists long)) in (listing_with w.0 (names_by lists (get_or places k 0)), listed_at rows places lists k w.0 long w.1, is)

  -- the first list has no names
  pub nameless_there : HasEmpty lists → k < length (listings_in rows places lists) → is_list (get_or places k 0) ≡ false → IsNameless (listings_in rows places lists) k
  nameless_there empty lt first l at =
      let w = element_at rows k (omega (arith, lt, as_long rows places lists long)) in
      let here = listed_at rows places lists k w.0 long w.1 in
      let zero : get_or places k 0 ≡ 0 = eqb-true _ 0 (not_false _ first) in
      ap (λ (z : Listing). z.names) (sym at.1 ∙ get_or_default _ k l (listing_with w.0 (names_by lists (get_or places k 0))) at.0 ∙ here.1) ∙ ap (names_by lists) zero ∙ empty.1

-- the names of a list that is there
pub list_names : (lists : NameLists) (place : ℕ) (list : Vec Named Global) → place < length lists → list ≡ get_or lists place list → list.items ≡ names_by lists place
list_names lists place list lt is =
    let w = element_at lists place lt in
    let same : list ≡ w.0 = is ∙ get_or_from_slice_get lists place w.0 list w.1 in
    ap (λ (v : Vec Named Global). v.items) same ∙ sym (ap items_of w.1)

last_list : (lists : NameLists) (list : Vec Named Global) → slice_get (lists ++ list ∷ []) (length lists) ≡ Some list
last_list [] list = refl
last_list (other ∷ lists) list = last_list lists list

-- a list that was put behind the others
pub last_names : (old new : NameLists) (list : Vec Named Global) (place : ℕ) → new ≡ old ++ list ∷ [] → place ≡ length old → (place < length new) × (names_by new place ≡ list.items)
last_names old new list place e is = (
  omega (arith, is, ap length e, length-append old (list ∷ [])),
  ap (names_by new) is ∙ ap (λ (lists : NameLists). names_by lists (length old)) e ∙ ap items_of (last_list old list),
)

early : (lists more : NameLists) (place : ℕ) → place < length lists → slice_get (lists ++ more) place ≡ slice_get lists place
early [] more place lt = absurd (omega (arith, lt))
early (list ∷ lists) more zero lt = refl
early (list ∷ lists) more (suc place) lt = early lists more place (omega (arith, lt))

still : (lists more : NameLists) (place : ℕ) → place < length lists → names_by (lists ++ more) place ≡ names_by lists place
still lists more place lt = ap items_of (early lists more place lt)

named_still : (lists more : NameLists) (row : Row) (place : ℕ) → IsNamed lists row place → IsNamed (lists ++ more) row place
named_still lists more row place h = (
  (let lt = h.0 in omega (arith, lt, length-append lists more)),
  subst (λ (names : List Named). HasNames row.names (map line_of names)) (sym (still lists more place h.0)) h.1,
)

all_still : (rows : List Row) (places : List ℕ) (lists more : NameLists) → AreNamed rows places lists → AreNamed rows places (lists ++ more)
all_still [] [] lists more h = tt
all_still [] (place ∷ places) lists more h = absurd h
all_still (r ∷ rows) [] lists more h = absurd h
all_still (r ∷ rows) (place ∷ places) lists more h = (named_still lists more r place h.0, all_still rows places lists more h.1)

-- the first list stays empty
pub empty_still : (old new : NameLists) → Extends old new → HasEmpty old → HasEmpty new
empty_still old new more h = subst HasEmpty (sym more.1) ((let lt = h.0 in omega (arith, lt, length-append old more.0)), still old more.0 0 h.0 ∙ h.1)

zip_push : {A B : Type 0} (R : A → B → Type 0) (xs : List A) (ys : List B) (x : A) (y : B) → AllZip R xs ys → R x y → AllZip R (xs ++ x ∷ []) (ys ++ y ∷ [])
zip_push R [] [] x y h r = (r, tt)
zip_push R [] (b ∷ ys) x y h r = absurd h
zip_push R (a ∷ xs) [] x y h r = absurd h
zip_push R (a ∷ xs) (b ∷ ys) x y h r = (h.0, zip_push R xs ys x y h.1 r)

-- one row more
pub named_more : (rows : List Row) (k : ℕ) (old new : List ℕ) (before after : NameLists) (place : ℕ) → k < length rows → Extends before after → new ≡ old ++ place ∷ []
    → AreNamed (take k rows) old before → (row : Row) → slice_get rows k ≡ Some row → IsNamed after row place → AreNamed (take (k + 1) rows) new after
named_more rows k old new before after place lt more e h row is one =
    let next : take (k + 1) rows ≡ take k rows ++ row ∷ [] = take_more rows k row lt ∙ ap (λ (x : Row). take k rows ++ x ∷ []) (get_or_from_slice_get rows k row row is) in
    let first : AreNamed (take k rows) old after = subst (AreNamed (take k rows) old) (sym more.1) (all_still (take k rows) old before more.0 h) in
    let P : List Row → Type 0 = λ rs. AreNamed rs new after in let Q : List ℕ → Type 0 = λ ps. AreNamed (take k rows ++ row ∷ []) ps after in
    subst P (sym next) (subst Q (sym e) (zip_push (IsNamed after) (take k rows) old row place first one))

-- each row has a place
pub named_long : (rows : List Row) (places : List ℕ) (lists : NameLists) → AreNamed rows places lists → length places ≡ length rows
named_long [] [] lists h = refl
named_long [] (place ∷ places) lists h = absurd h
named_long (r ∷ rows) [] lists h = absurd h
named_long (r ∷ rows) (place ∷ places) lists h = ap suc (named_long rows places lists h.1)

one_more : (lists : NameLists) (place : ℕ) (places : List ℕ) → place < length lists → HaveLists lists places → HaveLists lists (place ∷ places)
one_more lists place places here others zero lt = here
one_more lists place places here others (suc k) lt = others k (omega (arith, lt))

-- each place has a list
pub named_within : (rows : List Row) (places : List ℕ) (lists : NameLists) → AreNamed rows places lists → HaveLists lists places
named_within [] [] lists h = λ k lt. absurd (omega (arith, lt))
named_within [] (place ∷ places) lists h = absurd h
named_within (r ∷ rows) [] lists h = absurd h
named_within (r ∷ rows) (place ∷ places) lists h = one_more lists place places h.0.0 (named_within rows places lists h.1)

pub named_listed : (rows : List Row) (places : List ℕ) (lists : NameLists) → AreNamed rows places lists → AreListings rows (listings_in rows places lists)
unfolding listings_in
named_listed [] [] lists h = tt
named_listed [] (place ∷ places) lists h = absurd h
named_listed (r ∷ rows) [] lists h = absurd h
named_listed (r ∷ rows) (place ∷ places) lists h = (record { inode = refl; kind = refl; links = refl; names = h.0.1 }, named_listed rows places lists h.1)

-- one row more of which it is told whether it has names
pub told_more : (named before : List Bool) (places old : List ℕ) (place : ℕ) → named ≡ before ++ is_list place ∷ [] → places ≡ old ++ place ∷ [] → before ≡ map is_list old → named ≡ map is_list places
told_more named before places old place e f h = e ∙ ap (λ (bs : List Bool). bs ++ is_list place ∷ []) h ∙ sym (ap (map is_list) f ∙ map-append is_list old (place ∷ []))
