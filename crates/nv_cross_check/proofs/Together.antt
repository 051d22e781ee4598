-- The faults of each kind are all faults between the rows.
use Rattle.std.proofs.Common.{◌≡◌, ◌≢◌, ℕ, ◌<◌, ◌⊎◌, inl, inr, eqb, Bool, true, false, if◌then◌else◌, Option, Some, None, List, [], ◌∷◌, ◌++◌, length, get_or, refl, ap, sym, ◌∙◌, subst, arith, eqb-true, eq-eqb}
use Rattle.std.specs.Prelude.{is_some}
use Rattle.std.specs.List.{Contains, filter_map, cons_option, list_any}
use Rattle.std.proofs.lemmas.Bool.{true≢false, ne_eqb}
use Rattle.std.proofs.lemmas.List.Folds.{list_any_at, Any-from_list_any}
use Rattle.std.proofs.lemmas.List.Elements.{Contains-append_left, Contains-append_right, Contains-append_cases}
use Rattle.std.proofs.lemmas.Option.{same_Some}
use Rattle.nv_super.specs.declared.kind.Kind.{Kind}
use Rattle.nv_super.specs.declared.kind.Kind.TheVariants.{File, Directory}
use Rattle.nv_super.specs.declared.faults.Fault.{Fault}
use Rattle.nv_super.specs.declared.faults.Fault.TheVariants as faults
use Rattle.nv_super.proofs.Rising.{Contains-cons, Contains-head, Contains-tail}
use Rattle.nv_super.proofs.Members.{from_flat, into_flat}
use Rattle.nv_names.specs.declared.named.Named.{Named}
use Rattle.nv_cross_check.specs.Listing.{Listing}
use Rattle.nv_cross_check.specs.Listings.{target, names_of, IsReached, IsUnused, IsFault, c1, c2, c2_root, c3, c4, c5}
use Rattle.nv_cross_check.specs.Steps.{IsAt, place_of, ArePlaces, unused_fault, unused_of, unused_faults, count_fault, count_fault_of, is_root, is_root_of, root_faults, Adds, IsUnmarkedBelow, IsFar, unreached, no_root, AreReached}
use Rattle.nv_cross_check.proofs.Follow.{inode_at, row_at, row_place, place_row, same_place, same_row}
use Rattle.nv_cross_check.proofs.PlaceTable.{none_some}

pub from_options : {A B : Type 0} (f : A → Option B) (xs : List A) (y : B) → Contains (filter_map f xs) y → (x : A) × Contains xs x × (f x ≡ Some y)
from_options f [] y c = absurd (omega (arith, c.1))
from_options {A} {B} f (x ∷ xs) y c = elim (f x) as (λ o. f x ≡ o → Contains (cons_option o (filter_map f xs)) y → (z : A) × Contains (x ∷ xs) z × (f z ≡ Some y)) [
  | None ↦ λ e d. (let w = from_options f xs y d in (w.0, Contains-tail x xs w.0 w.1, w.2))
  | Some u ↦ λ e d. elim (Contains-cons u (filter_map f xs) y d) [
    | inl v ↦ (x, Contains-head x xs, e ∙ ap Some (sym v))
    | inr v ↦ (let w = from_options f xs y v in (w.0, Contains-tail x xs w.0 w.1, w.2))
  ]
] refl c

pub into_options : {A B : Type 0} (f : A → Option B) (xs : List A) (x : A) (y : B) → Contains xs x → f x ≡ Some y → Contains (filter_map f xs) y
into_options f [] x y c e = absurd (omega (arith, c.1))
into_options {A} {B} f (z ∷ xs) x y c e = elim (Contains-cons z xs x c) [
  | inl w ↦ (let here : f z ≡ Some y = ap f (sym w) ∙ e in let P : Option B → Type 0 = λ o. Contains (cons_option o (filter_map f xs)) y in subst P (sym here) (Contains-head y (filter_map f xs)))
  | inr w ↦ skip (f z) (into_options f xs x y w e)
] where
  skip : (o : Option B) → Contains (filter_map f xs) y → Contains (cons_option o (filter_map f xs)) y
  skip None d = d
  skip (Some u) d = Contains-tail u (filter_map f xs) y d

unequal : (a b : ℕ) → eqb a b ≡ false → a ≢ b
unequal a b e q = true≢false (sym (eq-eqb a b q) ∙ e)

-- a name of an inode that isn't in use
unused_when : (t : Bool) (d at : ℕ) (f : Fault) → (if t then None else Some (faults.C1 d at)) ≡ Some f → (t ≡ false) × (f ≡ faults.C1 d at)
unused_when true d at f e = none_some f e
unused_when false d at f e = (refl, sym (same_Some _ _ e))

module _ (listings : List Listing) (table : List (Option ℕ)) (places : ArePlaces listings table) where
  placed : (l : Listing) (i : ℕ) → Contains listings l → l.inode ≡ i → is_some (place_of table i) ≡ true
  placed l i c e = ap is_some (ap (place_of table) (sym e) ∙ row_place listings table places c.0 l (c.1, c.2))

  unplaced : (d : Listing) (i : ℕ) → IsUnused listings i → is_some (place_of table i) ≡ false
  unplaced d i un = test (place_of table i) refl where
    test : (o : Option ℕ) → place_of table i ≡ o → is_some o ≡ false
    test None e = refl
    test (Some k) e = absurd (let w = places.at i k e in let at = row_at listings k d w.0 in
        un (get_or listings k d) (k, at.0, at.1) (sym (inode_at listings k (get_or listings k d) at) ∙ w.1))

  unused_is : (f : Fault) → Contains (unused_faults table listings) f → IsFault listings f
  unused_is f c =
      let d = from_flat (unused_of table) listings f c in
      let x = from_options (unused_fault table d.0.inode) d.0.names f d.2 in
      let u = unused_when (is_some (place_of table x.0.inode)) d.0.inode x.0.place f x.2 in
      let P : Fault → Type 0 = λ g. IsFault listings g in
      subst P (sym u.1) (c1 d.0 x.0 d.1 x.1 (λ l lc e. true≢false (sym (placed l x.0.inode lc e) ∙ u.0)))

  is_unused : (d : Listing) (x : Named) → Contains listings d → Contains d.names x → IsUnused listings (target x) → Contains (unused_faults table listings) (faults.C1 d.inode x.place)
  is_unused d x dc xc un =
      let off : is_some (place_of table x.inode) ≡ false = unplaced d x.inode un in
      let e : unused_fault table d.inode x ≡ Some (faults.C1 d.inode x.place) = ap (λ (t : Bool). if t then None else Some (faults.C1 d.inode x.place)) off in
      into_flat (unused_of table) listings d _ dc (into_options (unused_fault table d.inode) d.names x _ xc e)

-- a wrong number of names
one_when : (t : Bool) (g f : Fault) → (if t then None else Some g) ≡ Some f → (t ≡ false) × (f ≡ g)
one_when true g f e = none_some f e
one_when false g f e = (refl, sym (same_Some _ _ e))

dir_when : (s t u : Bool) (g f : Fault) → (if s then (if t then None else Some g) else (if u then None else Some g)) ≡ Some f → ((s ≡ true) × (t ≡ false) × (f ≡ g)) ⊎ ((s ≡ false) × (u ≡ false) × (f ≡ g))
dir_when true t u g f e = let w = one_when t g f e in inl (refl, w.0, w.1)
dir_when false t u g f e = let w = one_when u g f e in inr (refl, w.0, w.1)

above : {n : ℕ} → n ≢ 0 → 0 < n
above ne = omega (arith, ne)

count_is : (listings : List Listing) (l : Listing) (f : Fault) → Contains listings l → count_fault listings l ≡ Some f → IsFault listings f
count_is listings l f c e = kinds l.kind refl e where
  P : Fault → Type 0
  P g = IsFault listings g

  kinds : (k : Kind) → l.kind ≡ k → count_fault_of k l.inode l.links (names_of listings l.inode) ≡ Some f → IsFault listings f
  kinds Directory dir q = elim (dir_when (eqb l.inode 1) (eqb (names_of listings l.inode) 0) (eqb (names_of listings l.inode) 1) (faults.C2 l.inode) f q) [
    | inl w ↦ subst P (sym w.2) (c2_root l c dir (eqb-true _ _ w.0) (let ne = unequal (names_of listings l.inode) 0 w.1 in above ne))
    | inr w ↦ subst P (sym w.2) (c2 l c dir (unequal _ _ w.0) (unequal _ _ w.1))
  ]
  kinds File file q = let w = one_when (eqb l.links (names_of listings l.inode)) (faults.C3 l.inode) f q in subst P (sym w.1) (c3 l c file (unequal _ _ w.0))

-- no root
root_when : (listings : List Listing) (t : Bool) (f : Fault) → Contains (if t then [] else (faults.C5 ∷ [])) f → (t ≡ false) × (f ≡ faults.C5)
root_when listings true f c = absurd (omega (arith, c.1))
root_when listings false f c = (refl, elim (Contains-cons faults.C5 [] f c) [ inl w ↦ w | inr w ↦ absurd (omega (arith, w.1)) ])

root_test : (l : Listing) → l.kind ≡ Directory → l.inode ≡ 1 → is_root l ≡ true
root_test l dir one = λ i. is_root_of (dir i) (one i)

root_of : (k : Kind) (i : ℕ) → is_root_of k i ≡ true → (k ≡ Directory) × (i ≡ 1)
root_of Directory i e = (refl, eqb-true i 1 e)
root_of File i e = absurd (true≢false (sym e))

root_is : (listings : List Listing) (f : Fault) → Contains (root_faults listings) f → IsFar listings f
root_is listings f c =
    let w = root_when listings (list_any is_root listings) f c in
    let P : Fault → Type 0 = λ g. IsFar listings g in
    subst P (sym w.1) (no_root (λ l lc one dir. true≢false (sym (list_any_at is_root listings lc.0 l lc.1 (ap is_root lc.2 ∙ root_test l dir one)) ∙ w.0)))

is_no_root : (listings : List Listing) → ((l : Listing) → Contains listings l → l.inode ≡ 1 → l.kind ≡ Directory → ⊥) → Contains (root_faults listings) faults.C5
is_no_root listings h = test (list_any is_root listings) refl where
  test : (t : Bool) → list_any is_root listings ≡ t → Contains (root_faults listings) faults.C5
  test true e = absurd (let w = Any-from_list_any is_root listings e in let k = root_of w.1.kind w.1.inode w.4 in h w.1 (w.0, w.2, w.3) k.1 k.0)
  test false e = let P : Bool → Type 0 = λ t. Contains (if t then [] else (faults.C5 ∷ [])) faults.C5 in subst P (sym e) (Contains-head faults.C5 [])

-- not reached
unreached_is : (listings : List Listing) (marks : List Bool) (f : Fault) → AreReached listings marks → IsUnmarkedBelow listings marks (length listings) f → IsFar listings f
unreached_is listings marks f h w = let P : Fault → Type 0 = λ g. IsFar listings g in
    subst P (sym w.5) (unreached w.1 (w.0, w.3.0, w.3.1) (λ reached. true≢false (sym (h.all w.0 w.1 w.3 reached) ∙ w.4)))

is_unreached : (listings : List Listing) (marks : List Bool) (l : Listing) → AreReached listings marks → Contains listings l → (IsReached listings l.inode → ⊥) → IsUnmarkedBelow listings marks (length listings) (faults.C4 l.inode)
is_unreached listings marks l h c out = (c.0, l, c.1, (c.1, c.2), off (get_or marks c.0 false) refl, refl) where
  off : (t : Bool) → get_or marks c.0 false ≡ t → get_or marks c.0 false ≡ false
  off true e = absurd (out (h.sound c.0 l (c.1, c.2) e))
  off false e = e

pub far_added : (listings : List Listing) (marks : List Bool) (old mid new : List Fault) → AreReached listings marks → Adds (IsUnmarkedBelow listings marks (length listings)) old mid → new ≡ mid ++ root_faults listings → Adds (IsFar listings) old new
far_added listings marks old mid new h a e = record {
  each = λ f c. elim (Contains-append_cases mid _ f (let P : List Fault → Type 0 = λ xs. Contains xs f in subst P e c)) [
    | inl w ↦ elim (a.each f w) [ inl v ↦ inl v | inr v ↦ inr (unreached_is listings marks f h v) ]
    | inr w ↦ inr (root_is listings f w)
  ];
  kept = λ f c. of_mid f (a.kept f c);
  all = far;
} where
  of_mid : (f : Fault) → Contains mid f → Contains new f
  of_mid f c = let P : List Fault → Type 0 = λ xs. Contains xs f in subst P (sym e) (Contains-append_left mid _ f c)

  far : (f : Fault) → IsFar listings f → Contains new f
  far f (unreached l c out) = of_mid (faults.C4 l.inode) (a.all _ (is_unreached listings marks l h c out))
  far f (no_root out) = let P : List Fault → Type 0 = λ xs. Contains xs faults.C5 in subst P (sym e) (Contains-append_right mid _ _ (is_no_root listings out))

by_kind_of : (listings : List Listing) (l : Listing) (k : Kind) → l.kind ≡ k → count_fault listings l ≡ count_fault_of k l.inode l.links (names_of listings l.inode)
by_kind_of listings l k e = ap (λ (q : Kind). count_fault_of q l.inode l.links (names_of listings l.inode)) e

two_cases : {s u : Bool} {g : Fault} (t : Bool) → s ≡ false → u ≡ false → (if s then (if t then None else Some g) else (if u then None else Some g)) ≡ Some g
two_cases {s} {u} {g} t e h = ap (λ (b : Bool). if b then (if t then None else Some g) else (if u then None else Some g)) e ∙ ap (λ (b : Bool). if b then None else Some g) h

root_case : {s t : Bool} {g : Fault} (u : Bool) → s ≡ true → t ≡ false → (if s then (if t then None else Some g) else (if u then None else Some g)) ≡ Some g
root_case {s} {t} {g} u e h = ap (λ (b : Bool). if b then (if t then None else Some g) else (if u then None else Some g)) e ∙ ap (λ (b : Bool). if b then None else Some g) h

lost : {n : ℕ} → n ≡ 0 → 0 < n → ⊥
lost z some = omega (arith, z, some)

-- the faults of rows one by one, with those of the paths from the root, are all
pub all_faults : (listings : List Listing) (table : List (Option ℕ)) (places : ArePlaces listings table) (near every : List Fault)
    → ((f : Fault) → Contains near f → Contains (unused_faults table listings) f ⊎ Contains (filter_map (count_fault listings) listings) f)
    → ((f : Fault) → Contains (unused_faults table listings) f ⊎ Contains (filter_map (count_fault listings) listings) f → Contains near f)
    → Adds (IsFar listings) near every → (f : Fault) → (Contains every f → IsFault listings f) × (IsFault listings f → Contains every f)
all_faults listings table places near every from into a f = (there f, back f) where
  of_far : (f : Fault) → IsFar listings f → IsFault listings f
  of_far f (unreached l c out) = c4 l c out
  of_far f (no_root out) = c5 out

  there : (f : Fault) → Contains every f → IsFault listings f
  there f c = elim (a.each f c) [
    | inl v ↦ elim (from f v) [
      | inl w ↦ unused_is listings table places f w
      | inr w ↦ (let x = from_options (count_fault listings) listings f w in count_is listings x.0 f x.1 x.2)
    ]
    | inr v ↦ of_far f v
  ]

  of_count : (l : Listing) (f : Fault) → Contains listings l → count_fault listings l ≡ Some f → Contains every f
  of_count l f c e = a.kept f (into f (inr (into_options (count_fault listings) listings l f c e)))

  back : (f : Fault) → IsFault listings f → Contains every f
  back f (c1 d x dc xc un) = a.kept _ (into _ (inl (is_unused listings table places d x dc xc un)))
  back f (c2 l c dir other not_one) = of_count l _ c (by_kind_of listings l Directory dir ∙ two_cases _ (ne_eqb l.inode 1 other) (ne_eqb (names_of listings l.inode) 1 not_one))
  back f (c2_root l c dir one some) = of_count l _ c (by_kind_of listings l Directory dir ∙ root_case _ (eq-eqb l.inode 1 one) (ne_eqb (names_of listings l.inode) 0 (λ z. lost z some)))
  back f (c3 l c file differ) = of_count l _ c (by_kind_of listings l File file ∙ ap (λ (t : Bool). if t then None else Some (faults.C3 l.inode)) (ne_eqb l.links (names_of listings l.inode) differ))
  back f (c4 l c out) = a.all _ (unreached l c out)
  back f (c5 out) = a.all _ (no_root out)

-- what stands in two lists, one behind the other
pub from_both : (near one two : List Fault) → near ≡ one ++ two → (f : Fault) → Contains near f → Contains one f ⊎ Contains two f
from_both near one two e f c = Contains-append_cases one two f (let P : List Fault → Type 0 = λ xs. Contains xs f in subst P e c)

pub into_both : (near one two : List Fault) → near ≡ one ++ two → (f : Fault) → Contains one f ⊎ Contains two f → Contains near f
into_both near one two e f c = let P : List Fault → Type 0 = λ xs. Contains xs f in subst P (sym e) (elim c [ inl w ↦ Contains-append_left one two f w | inr w ↦ Contains-append_right one two f w ])

-- whether there is a root
module _ (listings : List Listing) (table : List (Option ℕ)) (places : ArePlaces listings table) where
  pub root_there : (k : ℕ) (l : Listing) → IsAt listings k l → place_of table 1 ≡ Some k → l.kind ≡ Directory → true ≡ list_any is_root listings
  root_there k l at e dir = sym (list_any_at is_root listings k l at.0 (ap is_root at.1 ∙ root_test l dir (place_row listings table places 1 k l e at)))

  no_root_any : ((l : Listing) (k : ℕ) → IsAt listings k l → l.inode ≡ 1 → l.kind ≡ Directory → ⊥) → false ≡ list_any is_root listings
  no_root_any h = test (list_any is_root listings) refl where
    test : (t : Bool) → list_any is_root listings ≡ t → false ≡ list_any is_root listings
    test true e = absurd (let w = Any-from_list_any is_root listings e in let k = root_of w.1.kind w.1.inode w.4 in h w.1 w.0 (w.2, w.3) k.1 k.0)
    test false e = sym e

  -- inode 1 is a file
  pub root_a_file : (k : ℕ) (l : Listing) → IsAt listings k l → place_of table 1 ≡ Some k → l.kind ≡ File → false ≡ list_any is_root listings
  root_a_file k l at e file = no_root_any (λ q j here one dir. (
      let same : j ≡ k = same_place listings table places j k q l here at (one ∙ sym (place_row listings table places 1 k l e at)) in
      let P : ℕ → Type 0 = λ i. IsAt listings i q in
      let row : q ≡ l = same_row listings k q l (subst P same here) at in
      let clash : Directory ≡ File = sym dir ∙ ap (λ (z : Listing). z.kind) row ∙ file in cc))

  -- inode 1 isn't in use
  pub root_unused : place_of table 1 ≡ None → false ≡ list_any is_root listings
  root_unused e = no_root_any (λ q j here one dir. none_some j (sym e ∙ ap (place_of table) (sym one) ∙ row_place listings table places j q here))
