-- What is wrong between the listed rows is what is wrong between the rows.
use Rattle.std.proofs.Common.{◌≡◌, ℕ, ◌<◌, eqb, Bool, true, false, cond, Some, List, [], ◌∷◌, length, map, refl, ap, sym, ◌∙◌, subst, arith, eqb-true, eq-eqb}
use Rattle.std.specs.List.{Contains, flat_map, filter, count_by}
use Rattle.std.proofs.lemmas.List.Sums.{sum_by-cons, sum_by-append}
use Rattle.std.proofs.lemmas.List.{length-append}
use Rattle.nv_super.specs.Order.{Lists, SortedOf, fault_key}
use Rattle.nv_super.specs.declared.faults.Fault.{Fault}
use Rattle.nv_super.specs.declared.faults.Fault.TheVariants as faults
use Rattle.nv_super.proofs.Rising.{Contains-head, Contains-tail, Lists-only}
use Rattle.nv_super.proofs.Filters.{from_filter, into_filter}
use Rattle.nv_super.proofs.Members.{from_flat, into_flat, from_map, into_map}
use Rattle.nv_names.specs.Names.{name_at, line_of}
use Rattle.nv_names.specs.declared.named.Named.{Named}
use Rattle.nv_scan.specs.declared.piece.Row.{Row}
use Rattle.nv_numbered.specs.Values.{AreNumbersBelow}
use Rattle.nv_cross_check.specs.Listing.{Listing}
use Rattle.nv_cross_check.specs.Cross as cross
use Rattle.nv_cross_check.specs.Cross.{HasNameIn, IsUnusedIn, AreNamesIn, IsReachedIn, IsCrossFaultIn}
use Rattle.nv_cross_check.specs.Listings as listed
use Rattle.nv_cross_check.specs.Listings.{IsListing, AreListings, target, targets, names_of, IsReached, IsUnused, IsFault}
use Rattle.nv_cross_check.specs.Steps.{AreFaults}
use Rattle.nv_cross_check.proofs.Ordered.{Apart, apart_append, apart_numbers, Walked, names_walked, InOrder, in_order}
use Rattle.nv_cross_check.proofs.Rows.{listing_of, row_of, listed_apart}

abbrev Line : Type 0
Line = List ℕ × ℕ × ℕ

abbrev name_of : Line → List ℕ
name_of x = x.0

abbrev lines : Listing → List Line
lines l = map line_of l.names

abbrev pair_key : ℕ × List ℕ → List ℕ
pair_key x = x.0 ∷ x.1

abbrev listing_key : Listing → List ℕ
listing_key l = l.inode ∷ []

-- the names of inode i among these of directory d, as directory and name
abbrev pairs_among : ℕ → ℕ → List Line → List (ℕ × List ℕ)
pairs_among i d ns = map (λ (x : Line). (d, x.0)) (filter (λ (x : Line). eqb x.1 i) ns)

abbrev pairs_of : ℕ → Listing → List (ℕ × List ℕ)
pairs_of i l = pairs_among i l.inode (lines l)

-- over all rows
abbrev pairs_in : ℕ → List Listing → List (ℕ × List ℕ)
pairs_in i listings = flat_map (pairs_of i) listings

pair_from : (i d : ℕ) (ns : List Line) (y : ℕ × List ℕ) → Contains (pairs_among i d ns) y → (x : Line) × Contains ns x × (x.1 ≡ i) × (y ≡ (d, x.0))
pair_from i d ns y c = let m = from_map (λ (x : Line). (d, x.0)) (filter (λ (x : Line). eqb x.1 i) ns) y c in let f = from_filter (λ (x : Line). eqb x.1 i) ns m.0 m.1 in (m.0, f.0, eqb-true m.0.1 i f.1, m.2)

-- pairs that are one are of one directory and one name
same_name : (d e : ℕ) (u v : List ℕ) → d ∷ u ≡ e ∷ v → u ≡ v
same_name d e u v h = cc

same_directory : (d e : ℕ) (u v : List ℕ) → d ∷ u ≡ e ∷ v → d ≡ e
same_directory d e u v h = cc

row_apart : (i d : ℕ) (ns : List Line) → Apart name_of ns → Apart pair_key (pairs_among i d ns)
row_apart i d [] a = tt
row_apart i d (x ∷ ns) a = test (eqb x.1 i) (row_apart i d ns a.1) where
  test : (t : Bool) → Apart pair_key (pairs_among i d ns) → Apart pair_key (map (λ (y : Line). (d, y.0)) (cond t (x ∷ filter (λ (y : Line). eqb y.1 i) ns) (filter (λ (y : Line). eqb y.1 i) ns)))
  test true h = (
    λ y c same. (let w = pair_from i d ns y c in
        let P : ℕ × List ℕ → Type 0 = λ z. d ∷ x.0 ≡ pair_key z in
        a.0 w.0 w.1 (same_name d d x.0 w.0.0 (subst P w.3 same))),
    h,
  )
  test false h = h

row_count : (i d : ℕ) (xs : List Named) → length {A = ℕ × List ℕ} (pairs_among i d (map line_of xs)) ≡ count_by (λ t. eqb t i) (map target xs)
row_count i d [] = refl
row_count i d (x ∷ xs) = test (eqb x.inode i) refl (row_count i d xs) where
  ns : List Line
  ns = map line_of xs

  test : (t : Bool) → eqb x.inode i ≡ t → length {A = ℕ × List ℕ} (pairs_among i d ns) ≡ count_by (λ t. eqb t i) (map target xs)
      → length {A = ℕ × List ℕ} (map (λ (y : Line). (d, y.0)) (cond t (line_of x ∷ filter (λ (y : Line). eqb y.1 i) ns) (filter (λ (y : Line). eqb y.1 i) ns))) ≡ count_by (λ t. eqb t i) (map target (x ∷ xs))
  test true e h = let s = sum_by-cons (λ t. cond (eqb t i) 1 0) (target x) (map target xs) in let c : cond {A = ℕ} (eqb (target x) i) 1 0 ≡ 1 = ap (λ (b : Bool). cond b 1 0) e in omega (arith, s, c, h)
  test false e h = let s = sum_by-cons (λ t. cond (eqb t i) 1 0) (target x) (map target xs) in let c : cond {A = ℕ} (eqb (target x) i) 1 0 ≡ 0 = ap (λ (b : Bool). cond b 1 0) e in omega (arith, s, c, h)

pairs_count : (i : ℕ) (listings : List Listing) → length (pairs_in i listings) ≡ names_of listings i
pairs_count i [] = refl
pairs_count i (l ∷ listings) =
    let n = length-append (pairs_of i l) (pairs_in i listings) in let one = row_count i l.inode l.names in let rest = pairs_count i listings in
    let s = sum_by-append (λ t. cond (eqb t i) 1 0) (map target l.names) (targets listings) in omega (arith, n, one, rest, s)

module _ (rows : List Row) (listings : List Listing) (are : AreListings rows listings) (apart : Apart listing_key listings) where
  names_in : (r : Row) (l : Listing) → IsListing r l → Walked r.names (lines l)
  names_in r l h = names_walked r.names (lines l) h.names

  has_name : (r : Row) (l : Listing) (x : Named) → IsListing r l → Contains l.names x → name_at r.names x.name.now ≡ Some (x.inode, x.place)
  has_name r l x h c = (names_in r l h).each (line_of x) (into_map line_of l.names x c)

  -- the listing of a name
  record Found (d i at : ℕ) (name : List ℕ) : Type 0 where
    listing : Listing
    here : Contains listings listing
    line : Named
    has : Contains listing.names line
    inode : listing.inode ≡ d
    is : (name, i, at) ≡ line_of line

  found : (d i at : ℕ) (name : List ℕ) → HasNameIn rows d name i at → Found d i at name
  found d i at name h =
      let w = listing_of IsListing rows listings h.0 are h.1 in
      let m = from_map line_of w.0.names (name, i, at) ((names_in h.0 w.0 w.2).all (name, i, at) h.3) in
      record { listing = w.0; here = w.1; line = m.0; has = m.1; inode = w.2.inode ∙ h.2; is = m.2 }

  listing : (r : Row) → Contains rows r → (l : Listing) × Contains listings l × IsListing r l
  listing r c = listing_of IsListing rows listings r are c

  row : (l : Listing) → Contains listings l → (r : Row) × Contains rows r × IsListing r l
  row l c = row_of IsListing rows listings l are c

  unused_there : (i : ℕ) → IsUnused listings i → IsUnusedIn rows i
  unused_there i un r c e = let w = listing r c in un w.0 w.1 (w.2.inode ∙ e)

  unused_back : (i : ℕ) → IsUnusedIn rows i → IsUnused listings i
  unused_back i un l c e = let w = row l c in un w.0 w.1 (sym w.2.inode ∙ e)

  -- what a listed name says of its row
  says : (d : Listing) (x : Named) (i : ℕ) → Contains listings d → Contains d.names x → i ≡ target x → HasNameIn rows d.inode x.name.now i x.place
  says d x i dc xc e = let w = row d dc in (w.0, w.1, sym w.2.inode, has_name w.0 d x w.2 xc ∙ ap (λ (j : ℕ). Some (j, x.place)) (sym e))

  reached_there : (i : ℕ) → IsReached listings i → IsReachedIn rows i
  reached_there i (listed.root l c one dir) = let w = row l c in
      let P : ℕ → Type 0 = λ j. IsReachedIn rows j in subst P (sym one) (cross.root w.0 w.1 (sym w.2.inode ∙ one) (sym w.2.kind ∙ dir))
  reached_there i (listed.step d l x rd dc xc lc e) = let w = row l lc in
      cross.step x.name.now x.place w.0 (reached_there d.inode rd) (says d x l.inode dc xc e) w.1 (sym w.2.inode)

  reached_back : (i : ℕ) → IsReachedIn rows i → IsReached listings i
  reached_back i (cross.root r c one dir) = let w = listing r c in let P : ℕ → Type 0 = λ j. IsReached listings j in
      subst P (w.2.inode ∙ one) (listed.root w.0 w.1 (w.2.inode ∙ one) (w.2.kind ∙ dir))
  reached_back i (cross.step {d = d} name at r rd h rc e) =
      let s = found d i at name h in let w = listing r rc in
      let P : ℕ → Type 0 = λ j. IsReached listings j in
      subst P (w.2.inode ∙ e) (listed.step s.listing w.0 s.line (subst P (sym s.inode) (reached_back d rd)) s.here s.has w.1 (w.2.inode ∙ e ∙ ap (λ (z : Line). z.1) s.is))

  pairs_apart : (i : ℕ) (some : List Listing) → Apart listing_key some → ((l : Listing) → Contains some l → Contains listings l) → Apart pair_key (pairs_in i some)
  pairs_apart i [] a sub = tt
  pairs_apart i (x ∷ some) a sub = apart_append pair_key (pairs_of i x) (pairs_in i some)
      (let w = row x (sub x (Contains-head x some)) in row_apart i x.inode (lines x) (names_in w.0 x w.2).apart)
      (pairs_apart i some a.1 (λ q c. sub q (Contains-tail x some q c)))
      (λ u v c d same. (
      let m = pair_from i x.inode (lines x) u c in
      let f = from_flat (pairs_of i) some v d in
      let n = pair_from i f.0.inode (lines f.0) v f.2 in
      let P : ℕ × List ℕ → Type 0 = λ z. pair_key z ≡ pair_key v in
      let Q : ℕ × List ℕ → Type 0 = λ z. x.inode ∷ m.0.0 ≡ pair_key z in
      let one : x.inode ≡ f.0.inode = same_directory x.inode f.0.inode m.0.0 n.0.0 (subst Q n.3 (subst P m.3 same)) in
      a.0 f.0 f.1 (ap (λ (j : ℕ). j ∷ []) one)))

  -- the names of inode i, in order
  sorted : (i : ℕ) → (ys : List (ℕ × List ℕ)) × InOrder pair_key (pairs_in i listings) ys
  sorted i = in_order pair_key (pairs_in i listings) (pairs_apart i listings apart (λ l c. c))

  abbrev ordered : ℕ → List (ℕ × List ℕ)
  ordered i = (sorted i).0

  count : (i : ℕ) → length (ordered i) ≡ names_of listings i
  count i = (sorted i).1.count ∙ pairs_count i listings

  names_are : (i : ℕ) → AreNamesIn rows i (ordered i)
  names_are i = record {
    rising = (sorted i).1.sorted.rising;
    each = λ y c. (
        let f = from_flat (pairs_of i) listings y ((sorted i).1.sorted.from y c) in let m = pair_from i f.0.inode (lines f.0) y f.2 in
        let x = from_map line_of f.0.names m.0 m.1 in
        let P : ℕ × List ℕ → Type 0 = λ z. (at : ℕ) × HasNameIn rows z.0 z.1 i at in
        let N : List ℕ → Type 0 = λ q. HasNameIn rows f.0.inode q i x.0.place in
        subst P (sym m.3) (x.0.place, subst N (sym (ap name_of x.2)) (says f.0 x.0 i f.1 x.1 (sym m.2 ∙ ap (λ (z : Line). z.1) x.2))));
    all = λ y h. (
        let s = found y.0 i h.0 y.1 h.1 in
        let e : (s.listing.inode, y.1) ≡ y = (λ j. (s.inode j, y.1)) in
        let P : ℕ × List ℕ → Type 0 = λ z. Contains (pairs_in i listings) z in
        let L : Line → Type 0 = λ z. Contains (lines s.listing) z in
        let line : Contains (lines s.listing) (y.1, i, h.0) = subst L (sym s.is) (into_map line_of s.listing.names s.line s.has) in
        (sorted i).1.sorted.kept y (subst P e (into_flat (pairs_of i) listings s.listing (s.listing.inode, y.1) s.here
        (into_map (λ (x : Line). (s.listing.inode, x.0)) (filter (λ (x : Line). eqb x.1 i) (lines s.listing)) (y.1, i, h.0) (into_filter (λ (x : Line). eqb x.1 i) (lines s.listing) (y.1, i, h.0) line (eq-eqb i i refl))))));
  }

  names_count : (i : ℕ) (names : List (ℕ × List ℕ)) → AreNamesIn rows i names → length names ≡ names_of listings i
  names_count i names h = ap length (Lists-only pair_key (λ x. (at : ℕ) × HasNameIn rows x.0 x.1 i at) names (ordered i) h (names_are i)) ∙ count i

  pub cross_there : (f : Fault) → IsFault listings f → IsCrossFaultIn rows f
  cross_there f (listed.c1 d x dc xc un) = cross.c1 x.name.now x.inode (says d x x.inode dc xc refl) (unused_there x.inode un)
  cross_there f (listed.c2 l c dir other ne) = let w = row l c in
      let P : ℕ → Type 0 = λ j. IsCrossFaultIn rows (faults.C2 j) in
      subst P (sym w.2.inode) (cross.c2 w.0 (ordered w.0.inode) w.1 (sym w.2.kind ∙ dir) (λ e. other (w.2.inode ∙ e)) (names_are w.0.inode) (λ e. ne (ap (names_of listings) w.2.inode ∙ sym (count w.0.inode) ∙ e)))
  cross_there f (listed.c2_root l c dir one some) = let w = row l c in
      let P : ℕ → Type 0 = λ j. IsCrossFaultIn rows (faults.C2 j) in let N : ℕ → Type 0 = λ j. 0 < names_of listings j in
      subst P (sym one) (cross.c2_root w.0 (ordered 1) w.1 (sym w.2.kind ∙ dir) (sym w.2.inode ∙ one) (names_are 1) (let n = count 1 in let g = subst N one some in omega (arith, n, g)))
  cross_there f (listed.c3 l c file ne) = let w = row l c in
      let P : ℕ → Type 0 = λ j. IsCrossFaultIn rows (faults.C3 j) in
      subst P (sym w.2.inode) (cross.c3 w.0 (ordered w.0.inode) w.1 (sym w.2.kind ∙ file) (names_are w.0.inode) (λ e. ne (w.2.links ∙ e ∙ count w.0.inode ∙ ap (names_of listings) (sym w.2.inode))))
  cross_there f (listed.c4 l c out) = let w = row l c in
      let P : ℕ → Type 0 = λ j. IsCrossFaultIn rows (faults.C4 j) in let Q : ℕ → Type 0 = λ j. IsReached listings j in
      subst P (sym w.2.inode) (cross.c4 w.0 w.1 (λ u. out (subst Q (sym w.2.inode) (reached_back w.0.inode u))))
  cross_there f (listed.c5 out) = cross.c5 (λ r c one dir. (let w = listing r c in out w.0 w.1 (w.2.inode ∙ one) (w.2.kind ∙ dir)))

  pub cross_back : (f : Fault) → IsCrossFaultIn rows f → IsFault listings f
  cross_back f (cross.c1 {d = d} {at = at} name i h un) = let s = found d i at name h in
      let e = s.is in
      let place : s.line.place ≡ at = sym (ap (λ (z : Line). z.2) e) in let to : i ≡ s.line.inode = ap (λ (z : Line). z.1) e in
      let P : ℕ → Type 0 = λ j. IsFault listings (faults.C1 j at) in let Q : ℕ → Type 0 = λ a. IsFault listings (faults.C1 s.listing.inode a) in let U : ℕ → Type 0 = λ j. IsUnused listings j in
      subst P s.inode (subst Q place (listed.c1 s.listing s.line s.here s.has (subst U to (unused_back i un))))
  cross_back f (cross.c2 r names c dir other are_names ne) = let w = listing r c in
      let P : ℕ → Type 0 = λ j. IsFault listings (faults.C2 j) in
      subst P w.2.inode (listed.c2 w.0 w.1 (w.2.kind ∙ dir) (λ e. other (sym w.2.inode ∙ e)) (λ e. ne (names_count r.inode names are_names ∙ ap (names_of listings) (sym w.2.inode) ∙ e)))
  cross_back f (cross.c2_root r names c dir one are_names some) = let w = listing r c in
      let P : ℕ → Type 0 = λ j. IsFault listings (faults.C2 j) in let N : ℕ → Type 0 = λ j. 0 < names_of listings j in
      subst P (w.2.inode ∙ one) (listed.c2_root w.0 w.1 (w.2.kind ∙ dir) (w.2.inode ∙ one) (subst N (sym (w.2.inode ∙ one)) (let n = names_count 1 names are_names in omega (arith, n, some))))
  cross_back f (cross.c3 r names c file are_names ne) = let w = listing r c in
      let P : ℕ → Type 0 = λ j. IsFault listings (faults.C3 j) in
      subst P w.2.inode (listed.c3 w.0 w.1 (w.2.kind ∙ file) (λ e. ne (sym w.2.links ∙ e ∙ ap (names_of listings) w.2.inode ∙ sym (names_count r.inode names are_names))))
  cross_back f (cross.c4 r c out) = let w = listing r c in
      let P : ℕ → Type 0 = λ j. IsFault listings (faults.C4 j) in let Q : ℕ → Type 0 = λ j. IsReachedIn rows j in
      subst P w.2.inode (listed.c4 w.0 w.1 (λ u. out (subst Q w.2.inode (reached_there w.0.inode u))))
  cross_back f (cross.c5 out) = listed.c5 (λ l c one dir. (let w = row l c in out w.0 w.1 (sym w.2.inode ∙ one) (sym w.2.kind ∙ dir)))

-- the faults between the listed rows, sorted
pub sorted_listed : (listings : List Listing) (every new : List Fault) → AreFaults listings every → SortedOf fault_key every new → Lists fault_key (IsFault listings) new
sorted_listed listings every new all s = record {
  rising = s.rising;
  each = λ f c. (all f).0 (s.from f c);
  all = λ f h. s.kept f ((all f).1 h);
}

-- the faults between the listed rows are those between the rows
pub cross_listed : (limit : ℕ) (rows : List Row) (listings : List Listing) (are : AreListings rows listings) (apart : AreNumbersBelow limit (map (λ (r : Row). r.inode) rows)) (found : List Fault)
    → Lists fault_key (IsFault listings) found → Lists fault_key (IsCrossFaultIn rows) found
cross_listed limit rows listings are apart found l = record {
  rising = l.rising;
  each = λ f c. cross_there rows listings are other f (l.each f c);
  all = λ f h. l.all f (cross_back rows listings are other f h);
} where
  other : Apart listing_key listings
  other = apart_numbers (λ (l : Listing). l.inode) listings (listed_apart limit rows listings are apart).once
