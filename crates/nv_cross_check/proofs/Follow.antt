-- Following names from the root.
use Rattle.std.proofs.Common.{◌≡◌, ℕ, suc, ◌<◌, inl, inr, Bool, true, false, Option, Some, None, List, [], ◌∷◌, ◌++◌, length, get_or, map, replicate, refl, ap, sym, ◌∙◌, subst, arith}
use Rattle.std.proofs.Math.ListN.{set, length-set}
use Rattle.std.proofs.lemmas.Bool.{true≢false}
use Rattle.std.specs.List.{Contains}
use Rattle.std.proofs.lemmas.List.{get_or-map, get_or_default, length-replicate}
use Rattle.std.proofs.lemmas.List.Elements.{Contains-append_left, Contains-push, Contains-push_cases}
use Rattle.std.proofs.lemmas.Option.{same_Some}
use Rattle.nv_blockset.proofs.Sets.{blank_at}
use Rattle.nv_super.proofs.Rising.{Contains-cons, Contains-head}
use Rattle.nv_super.specs.declared.kind.Kind.TheVariants.{File, Directory}
use Rattle.nv_super.proofs.Members.{from_map, into_map, none_in}
use Rattle.nv_numbered.specs.Values.{AreNumbersBelow}
use Rattle.nv_names.specs.declared.named.Named.{Named}
use Rattle.nv_scan.specs.declared.row_list.RowHead.{RowHead}
use Rattle.nv_cross_check.specs.Listing.{Listing}
use Rattle.nv_cross_check.specs.Listings.{inodes_of, target, targets, IsReached, root, step}
use Rattle.nv_cross_check.specs.Steps.{HasHead, place_of, ArePlaces, IsTable, IsMarked, IsNameless, Spreads, Reaching, AreReached, IsAt, NamesMarked, AreCounts, AreNumbersOfNames}
use Rattle.nv_cross_check.proofs.PlaceTable.{none_some, equal_or}
use Rattle.nv_cross_check.proofs.Spread.{marked_at, marked_else}

pub inodes_len : (listings : List Listing) → length (inodes_of listings) ≡ length listings
inodes_len [] = refl
inodes_len (l ∷ listings) = ap suc (inodes_len listings)

-- the number at a row's place
pub inode_at : (listings : List Listing) (k : ℕ) (l : Listing) → IsAt listings k l → get_or (inodes_of listings) k 0 ≡ l.inode
inode_at listings k l h = get_or-map (λ (x : Listing). x.inode) listings k l 0 h.0 ∙ ap (λ (x : Listing). x.inode) h.1

-- each row's number is below the limit
pub below_limit : (limit : ℕ) (listings : List Listing) (k : ℕ) (l : Listing) → AreNumbersBelow limit (inodes_of listings) → IsAt listings k l → l.inode < limit
below_limit limit listings k l apart at = subst (λ i. i < limit) (inode_at listings k l at) (apart.below k (omega (arith, at.0, inodes_len listings)))

-- the number of the row at a place, by its head
pub head_at : (listings : List Listing) (k : ℕ) (h : RowHead) → HasHead listings k h → get_or (inodes_of listings) k 0 ≡ h.inode
head_at listings k h here = inode_at listings k here.0 here.1 ∙ sym here.2

pub head_below : (limit : ℕ) (listings : List Listing) (k : ℕ) (h : RowHead) → AreNumbersBelow limit (inodes_of listings) → HasHead listings k h → h.inode < limit
head_below limit listings k h apart here = subst (λ i. i < limit) (sym here.2) (below_limit limit listings k here.0 apart here.1)

blank : Listing
blank = record { inode = 0; kind = File; links = 0; names = [] }

-- each place has a row
pub some_row : (listings : List Listing) (k : ℕ) → k < length listings → (l : Listing) × IsAt listings k l
some_row listings k lt = (get_or listings k blank, (lt, get_or_default listings k (get_or listings k blank) blank lt))

-- one place has one row
pub same_row : (listings : List Listing) (k : ℕ) (l m : Listing) → IsAt listings k l → IsAt listings k m → l ≡ m
same_row listings k l m h g = sym h.1 ∙ get_or_default listings k l m h.0 ∙ g.1

pub row_at : (listings : List Listing) (k : ℕ) (d : Listing) → k < length listings → IsAt listings k (get_or listings k d)
row_at listings k d lt = (lt, get_or_default listings k (get_or listings k d) d lt)

module _ (listings : List Listing) (table : List (Option ℕ)) (places : ArePlaces listings table) where
  -- the inode of the row at an inode's place
  pub place_row : (i k : ℕ) (l : Listing) → place_of table i ≡ Some k → IsAt listings k l → l.inode ≡ i
  place_row i k l e at = sym (inode_at listings k l at) ∙ (places.at i k e).1

  pub row_place : (k : ℕ) (l : Listing) → IsAt listings k l → place_of table l.inode ≡ Some k
  row_place k l at = ap (place_of table) (sym (inode_at listings k l at)) ∙ places.all k at.0

  -- one inode has one place
  pub same_place : (j k : ℕ) (l m : Listing) → IsAt listings j l → IsAt listings k m → l.inode ≡ m.inode → j ≡ k
  same_place j k l m h g e = same_Some j k (sym (row_place j l h) ∙ ap (place_of table) e ∙ row_place k m g)

  pub is_table : IsTable (length listings) table
  is_table = record { within = λ i k e. (places.at i k e).0; once = λ i j k e f. sym (places.at i k e).1 ∙ (places.at j k f).1 }

  pub numbers_of_names : (counts : List ℕ) → AreCounts (length listings) table (targets listings) counts → AreNumbersOfNames listings counts
  numbers_of_names counts h = record { same = h.same; each = λ k l lt is. h.each l.inode k (row_place k l (lt, is)) }

pub reaching_step : (listings : List Listing) (table : List (Option ℕ)) (places : ArePlaces listings table) (marks marks' : List Bool) (todo todo' : List ℕ) (place : ℕ) (d : Listing) → IsAt listings place d
    → Reaching listings table marks (todo ++ place ∷ []) → Spreads listings table (map target d.names) marks todo marks' todo' → Reaching listings table marks' todo'
reaching_step listings table places marks marks' todo todo' place d at h s = record {
  same = s.same ∙ h.same;
  sound = λ k l is m. elim (s.from k m) [
    | inl w ↦ h.sound k l is w
    | inr w ↦ (let x = from_map target d.names w.1 w.2 in
        step d l x.0 (h.sound place d at here.0) (place, at.0, at.1) x.1 (k, is.0, is.1) (place_row listings table places w.1 k l w.3 is ∙ x.2))
  ];
  todo_marked = λ k c. elim (s.todo_from k c) [
    | inl w ↦ (let v = h.todo_marked k (Contains-append_left todo (place ∷ []) k w) in (s.kept k v.0, v.1))
    | inr w ↦ (w.0, (let n = h.same in let lt = w.1 in omega (arith, n, lt)))
  ];
  closed = λ k l is m. elim (s.from k m) [
    | inl w ↦ elim (h.closed k l is w) [
      | inl v ↦ elim (Contains-push_cases todo place k v) [
        | inl u ↦ inl (s.todo_kept k u)
        | inr u ↦ inr (let P : ℕ → Type 0 = λ j. IsAt listings j d in
            let same : l ≡ d = same_row listings k l d is (subst P u at) in
            let Q : Listing → Type 0 = λ q. NamesMarked table marks' q in
            subst Q (sym same) (λ x c j e. s.all (target x) j (into_map target d.names x c) e))
      ]
      | inr v ↦ inr (λ x c j e. s.kept j (v x c j e))
    ]
    | inr w ↦ elim w.0 [ inl v ↦ inl v | inr v ↦ inr (nameless_marked k l is v) ]
  ];
  root = λ k l is one dir. s.kept k (h.root k l is one dir);
} where
  -- all that a row without names names is marked, since it names nothing
  nameless_marked : (k : ℕ) (l : Listing) → IsAt listings k l → IsNameless listings k → NamesMarked table marks' l
  nameless_marked k l is none x c j e = absurd (none_in x (subst (λ (xs : List Named). Contains xs x) (none l is) c))

  here : IsMarked marks place × (place < length listings)
  here = h.todo_marked place (Contains-push todo place)

-- when nothing is left to follow, all that is reached is marked
pub reaching_done : (listings : List Listing) (table : List (Option ℕ)) (places : ArePlaces listings table) (marks : List Bool) → Reaching listings table marks [] → AreReached listings marks
reaching_done listings table places marks h = record { same = h.same; sound = h.sound; all = λ k l is reached. marked l.inode reached k l is refl } where
  marked : (i : ℕ) → IsReached listings i → (k : ℕ) (l : Listing) → IsAt listings k l → l.inode ≡ i → IsMarked marks k
  marked i (root q c one dir) k l is e =
      let same : k ≡ c.0 = same_place listings table places k c.0 l q is (c.1, c.2) e in
      let P : ℕ → Type 0 = λ j. IsMarked marks j in subst P (sym same) (h.root c.0 q (c.1, c.2) one dir)
  marked i (step d q x reached dc xc qc names) k l is e =
      elim (h.closed dc.0 d (dc.1, dc.2) (marked d.inode reached dc.0 d (dc.1, dc.2) refl)) [
        | inl w ↦ absurd (omega (arith, w.1))
        | inr w ↦ w x xc k (ap (place_of table) (sym (e ∙ names)) ∙ row_place listings table places k l is)
      ]

module _ (listings : List Listing) (table : List (Option ℕ)) (places : ArePlaces listings table) (marks : List Bool) (clear : marks ≡ replicate (length listings) false) where
  unmarked_at : (k : ℕ) → IsMarked marks k → ⊥
  unmarked_at k m = true≢false (sym m ∙ ap (λ (ms : List Bool). get_or ms k false) clear ∙ blank_at {A = Bool} (length listings) k false)

  pub as_long : length marks ≡ length listings
  as_long = ap length clear ∙ length-replicate {A = Bool} (length listings) false

  no_root : (todo : List ℕ) → todo ≡ [] → ((k : ℕ) (l : Listing) → IsAt listings k l → l.inode ≡ 1 → l.kind ≡ Directory → ⊥) → Reaching listings table marks todo
  no_root todo none h = record {
    same = as_long;
    sound = λ k l is m. absurd (unmarked_at k m);
    todo_marked = λ k c. absurd (let n = ap length none in let lt = c.1 in omega (arith, n, lt));
    closed = λ k l is m. absurd (unmarked_at k m);
    root = λ k l is one dir. absurd (h k l is one dir);
  }

  pub with_root : (todo todo' : List ℕ) (place : ℕ) (l : Listing) → IsAt listings place l → place_of table 1 ≡ Some place → l.kind ≡ Directory → todo ≡ [] → todo' ≡ todo ++ place ∷ [] → Reaching listings table (set marks place true) todo'
  with_root todo todo' place l at e dir none is = record {
    same = length-set marks place true ∙ as_long;
    sound = λ k q iq m. equal_or k place (λ w. (let P : ℕ → Type 0 = λ j. IsAt listings j q in let same : q ≡ l = same_row listings place q l (subst P w iq) at in let Q : Listing → Type 0 = λ z. IsReached listings z.inode in subst Q (sym same) (root l (place, at.0, at.1) one dir)))
        (λ ne. absurd (unmarked_at k (sym (marked_else marks place k ne) ∙ m)));
    todo_marked = λ k c. (let e = only k c in ((let P : ℕ → Type 0 = λ j. IsMarked (set marks place true) j in subst P (sym e) here), (let P : ℕ → Type 0 = λ j. j < length listings in subst P (sym e) at.0)));
    closed = λ k q iq m. equal_or k place (λ w. inl (let P : ℕ → Type 0 = λ j. Contains todo' j in subst P (sym w) is_todo)) (λ ne. absurd (unmarked_at k (sym (marked_else marks place k ne) ∙ m)));
    root = λ k q iq o d. (let same : k ≡ place = same_place listings table places k place q l iq at (o ∙ sym one) in let P : ℕ → Type 0 = λ j. IsMarked (set marks place true) j in subst P (sym same) here);
  } where
    one : l.inode ≡ 1
    one = place_row listings table places 1 place l e at

    single : todo' ≡ place ∷ []
    single = is ∙ ap (λ (xs : List ℕ). xs ++ place ∷ []) none

    is_todo : Contains todo' place
    is_todo = let P : List ℕ → Type 0 = λ xs. Contains xs place in subst P (sym single) (Contains-head place [])

    only : (k : ℕ) → Contains todo' k → k ≡ place
    only k c = elim (Contains-cons place [] k (let P : List ℕ → Type 0 = λ xs. Contains xs k in subst P single c)) [ inl w ↦ w | inr w ↦ absurd (omega (arith, w.1)) ]

    within : place < length marks
    within = let n = as_long in let lt = at.0 in omega (arith, n, lt)

    here : IsMarked (set marks place true) place
    here = marked_at marks place within

  -- no inode 1
  pub without_one : (todo : List ℕ) → todo ≡ [] → place_of table 1 ≡ None → Reaching listings table marks todo
  without_one todo none e = no_root todo none (λ k l is one dir. none_some k (sym e ∙ ap (place_of table) (sym one) ∙ row_place listings table places k l is))

  -- inode 1 is a file
  pub with_file : (todo : List ℕ) (place : ℕ) (l : Listing) → IsAt listings place l → place_of table 1 ≡ Some place → l.kind ≡ File → todo ≡ [] → Reaching listings table marks todo
  with_file todo place l at e file none = no_root todo none (λ k q is o dir. (
      let same : k ≡ place = same_place listings table places k place q l is at (o ∙ sym (place_row listings table places 1 place l e at)) in
      let P : ℕ → Type 0 = λ j. IsAt listings j q in
      let row : q ≡ l = same_row listings place q l (subst P same is) at in
      let clash : Directory ≡ File = sym dir ∙ ap (λ (z : Listing). z.kind) row ∙ file in cc))
