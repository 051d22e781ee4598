-- One step of the way through directories.
use Rattle.std.proofs.Common.{◌≡◌, ◌≢◌, ◌==◌, ◌||◌, ℕ, true, false, Bool, List, [], ◌∷◌, ◌++◌, map, reverse, flat_map, Option, Some, None, is_some, refl, sym, ap, subst, ◌∙◌, append-nil, append_assoc, true≢false, inl, inr, arith}
use Rattle.std.specs.Prelude.{eqb, nat_le, length}
use Rattle.std.specs.BTreeSet.{BTreeSet, Updates, contains}
use Rattle.std.specs.List.{Contains, list_any}
use Rattle.std.specs.Ordering.{is_eq, nat_cmp}
use Rattle.std.specs.Option.{option_map, option_map_or}
use Rattle.std.proofs.lemmas.Bool.{ne_eqb}
use Rattle.std.proofs.lemmas.Bool.Decides.{eqb_tells, nat_tests}
use Rattle.std.proofs.lemmas.List.{map-append, reverse-append, reverse-reverse}
use Rattle.std.proofs.lemmas.List.Folds.{list_any-append}
use Rattle.std.proofs.lemmas.List.Elements.{Contains-append_cases}
use Rattle.nv_super.proofs.Members.{none_in}
use Rattle.nv_super.proofs.Rising.{Contains-cons, Contains-head, Contains-tail}
use Rattle.nv_super.specs.declared.kind.Kind.{Kind}
use Rattle.nv_super.specs.declared.kind.Kind.TheVariants.{File, Directory}
use Rattle.nv_tree.specs.Tree.{Node, Tree, is_directory}
use Rattle.nv_tree.specs.Refusals.{is_directory_at}
use Rattle.nv_members.specs.Members.{IsUsed, kind_of}
use Rattle.nv_folders.specs.Folders.{AreBelow, AreFolders, none, again, first, Spot, path_in, spot_of, spots_of}
use Rattle.nv_folders.specs.Walk.{IsReady, LeadsOn, numbers_in, waiting}
use Rattle.nv_folders.specs.declared.folder.Folder.{Folder}

-- ---- what waits

map-reverse : {X Y : Type 0} (f : X → Y) (xs : List X) → map f (reverse xs) ≡ reverse (map f xs)
map-reverse f [] = refl
map-reverse f (x ∷ xs) = ap (map f) (reverse-append (x ∷ []) xs) ∙ map-append f (reverse xs) (x ∷ []) ∙ ap (λ l. l ++ f x ∷ []) (map-reverse f xs) ∙ sym (reverse-append (f x ∷ []) (map f xs))

pub on_top : (pending : List Folder) (next : Folder) → waiting (pending ++ next ∷ []) ≡ spot_of next ∷ waiting pending
on_top pending next = ap reverse (map-append spot_of pending (next ∷ [])) ∙ reverse-append (map spot_of pending) (spot_of next ∷ [])

pub in_front : (pending below : List Folder) → waiting (pending ++ reverse below) ≡ map spot_of below ++ waiting pending
in_front pending below = ap reverse (map-append spot_of pending (reverse below)) ∙ reverse-append (map spot_of pending) (map spot_of (reverse below))
    ∙ ap (λ l. l ++ waiting pending) (ap reverse (map-reverse spot_of below) ∙ reverse-reverse (map spot_of below))

-- ---- which numbers stand

-- one number more is among those that are known
abbrev pub IsWith : (ℕ → Bool) → (ℕ → Bool) → ℕ → Type 0
IsWith now seen i = (now i ≡ true) × ((k : ℕ) → k ≢ i → now k ≡ seen k)

any_true : (b : Bool) → (b || true) ≡ true
any_true true = refl
any_true false = refl

no_more : (b : Bool) → (b || false) ≡ b
no_more true = refl
no_more false = refl

one_more : (folders : List Folder) (next : Folder) (seen now : ℕ → Bool) → ((i : ℕ) → seen i ≡ list_any (eqb i) (numbers_in folders)) → IsWith now seen next.inode
    → (i : ℕ) → now i ≡ list_any (eqb i) (numbers_in (folders ++ next ∷ []))
one_more folders next seen now told with_it i = elim (eqb_tells i next.inode) [
  | inl same ↦ ap now same.1 ∙ with_it.0 ∙ sym (all ∙ ap (λ b. list_any (eqb i) (numbers_in folders) || (b || false)) same.0 ∙ any_true (list_any (eqb i) (numbers_in folders)))
  | inr other ↦ with_it.1 i other.1 ∙ told i ∙ sym (all ∙ ap (λ b. list_any (eqb i) (numbers_in folders) || (b || false)) other.0 ∙ no_more (list_any (eqb i) (numbers_in folders)))
]
  where
    all : list_any (eqb i) (numbers_in (folders ++ next ∷ [])) ≡ (list_any (eqb i) (numbers_in folders) || (eqb i next.inode || false))
    all = ap (list_any (eqb i)) (map-append (λ (folder : Folder). folder.inode) folders (next ∷ [])) ∙ list_any-append (eqb i) (numbers_in folders) (next.inode ∷ [])

other_key : (i k : ℕ) → (i == k) ≡ false → is_eq (nat_cmp i k) ≡ false
other_key i k other = grind (arith, nat_tests)

-- a set that has one number more
pub with_key : (old new : BTreeSet ℕ) (i : ℕ) → Updates nat_cmp old new i true → IsWith (contains nat_cmp new) (contains nat_cmp old) i
with_key old new i updates = (updates.1, λ k other. updates.2 k (other_key i k (ne_eqb i k (λ same. other (sym same)))))

-- ---- directories

-- one in use, by its kind
pub by_kind : (t : Tree) (i : ℕ) → is_directory_at t i ≡ true → option_map kind_of (t i) ≡ Some Directory
by_kind t i is = by (t i) is where
  of : (k : Kind) → is_directory k ≡ true → Some k ≡ Some Directory
  of File is = absurd (true≢false (sym is))
  of Directory is = refl

  by : (o : Option Node) → option_map_or (λ (node : Node). is_directory node.kind) o false ≡ true → option_map kind_of o ≡ Some Directory
  by None is = absurd (true≢false (sym is))
  by (Some node) is = of node.kind is

pub of_kind : (t : Tree) (i : ℕ) → option_map kind_of (t i) ≡ Some Directory → is_directory_at t i ≡ true
of_kind t i is = by (t i) is where
  by : (o : Option Node) → option_map kind_of o ≡ Some Directory → option_map_or (λ (node : Node). is_directory node.kind) o false ≡ true
  by None is = absurd (true≢false (sym (ap is_some is)))
  by (Some node) is = (let k : node.kind ≡ Directory = cc in rw k refl)

pub in_use : (t : Tree) (i : ℕ) → is_directory_at t i ≡ true → IsUsed t i
in_use t i is = by (t i) is where
  by : (o : Option Node) → option_map_or (λ (node : Node). is_directory node.kind) o false ≡ true → is_some o ≡ true
  by None is = absurd (true≢false (sym is))
  by (Some node) is = refl

module _ (t : Tree) where
  -- what names lead to are directories
  spot_is : (above : List ℕ) (e : List ℕ × ℕ) (x : Spot) → Contains (spots_of t above e) x → is_directory_at t x.1 ≡ true
  spot_is above e x c = by (is_directory_at t e.1) refl (nat_le (length (path_in above e.0)) 4096) refl c where
    by : (b : Bool) → is_directory_at t e.1 ≡ b → (short : Bool) → nat_le (length (path_in above e.0)) 4096 ≡ short → Contains (spots_of t above e) x → is_directory_at t x.1 ≡ true
    by true is true short c = elim (Contains-cons (path_in above e.0, e.1) [] x (rw (is, short) at c)) [
      | inl h ↦ subst (λ (y : Spot). is_directory_at t y.1 ≡ true) (sym h) is
      | inr h ↦ absurd (none_in x h)
    ]
    by true is false short c = absurd (none_in x (rw (is, short) at c))
    by false is b short c = absurd (none_in x (rw is at c))

  spots_are : (above : List ℕ) (listed : List (List ℕ × ℕ)) (x : Spot) → Contains (flat_map (spots_of t above) listed) x → is_directory_at t x.1 ≡ true
  spots_are above [] x c = absurd (none_in x c)
  spots_are above (e ∷ listed) x c = elim (Contains-append_cases (spots_of t above e) (flat_map (spots_of t above) listed) x c) [
    | inl here ↦ spot_is above e x here
    | inr there ↦ spots_are above listed x there
  ]

  -- ---- what is left is ready

  pub less_ready : (folders pending : List Folder) (next : Folder) (seen : ℕ → Bool) → IsReady t folders (pending ++ next ∷ []) seen → IsReady t folders pending seen
  less_ready folders pending next seen r = record {
    directories = λ x c. r.directories x (subst (λ (w : List Spot). Contains w x) (sym (on_top pending next)) (Contains-tail (spot_of next) (waiting pending) x c));
    told = r.told;
  }

  pub top_ready : (folders pending : List Folder) (next : Folder) (seen : ℕ → Bool) → IsReady t folders (pending ++ next ∷ []) seen → is_directory_at t next.inode ≡ true
  top_ready folders pending next seen r = r.directories (spot_of next) (subst (λ (w : List Spot). Contains w (spot_of next)) (sym (on_top pending next)) (Contains-head (spot_of next) (waiting pending)))

  pub more_ready : (folders pending below : List Folder) (next : Folder) (seen now : ℕ → Bool) → IsReady t folders (pending ++ next ∷ []) seen → AreBelow t (spot_of next) (map spot_of below)
      → IsWith now seen next.inode → IsReady t (folders ++ next ∷ []) (pending ++ reverse below) now
  more_ready folders pending below next seen now r are with_it = record {
    directories = λ x c. elim (Contains-append_cases (map spot_of below) (waiting pending) x (subst (λ (w : List Spot). Contains w x) (in_front pending below) c)) [
      | inl here ↦ spots_are next.path.items are.0 x (subst (λ (l : List Spot). Contains l x) are.2 here)
      | inr there ↦ (less_ready folders pending next seen r).directories x there
    ];
    told = one_more folders next seen now r.told with_it;
  }

  -- ---- it leads on

  pub again_on : (folders pending : List Folder) (next : Folder) → list_any (eqb next.inode) (numbers_in folders) ≡ true → LeadsOn t folders folders (pending ++ next ∷ []) pending
  again_on folders pending next is = record {
    found = [];
    adds = sym (append-nil (map spot_of folders));
    goes = λ rest are. subst (λ (w : List Spot). AreFolders t (numbers_in folders) w rest) (sym (on_top pending next)) (again (spot_of next) is are);
  }

  pub first_on : (folders pending below : List Folder) (next : Folder) → list_any (eqb next.inode) (numbers_in folders) ≡ false → AreBelow t (spot_of next) (map spot_of below)
      → LeadsOn t folders (folders ++ next ∷ []) (pending ++ next ∷ []) (pending ++ reverse below)
  first_on folders pending below next is are = record {
    found = spot_of next ∷ [];
    adds = map-append spot_of folders (next ∷ []);
    goes = λ rest on. subst (λ (w : List Spot). AreFolders t (numbers_in folders) w (spot_of next ∷ rest)) (sym (on_top pending next))
        (first (spot_of next) (map spot_of below) is are
        (subst (λ (b : List ℕ). AreFolders t b (map spot_of below ++ waiting pending) rest) (map-append (λ (folder : Folder). folder.inode) folders (next ∷ []))
        (subst (λ (w : List Spot). AreFolders t (numbers_in (folders ++ next ∷ [])) w rest) (in_front pending below) on)));
  }

  pub none_on : (folders pending : List Folder) → LeadsOn t folders folders pending pending
  none_on folders pending = record { found = []; adds = sym (append-nil (map spot_of folders)); goes = λ rest are. are }

  pub both_on : (a b c p q r : List Folder) → LeadsOn t a b p q → LeadsOn t b c q r → LeadsOn t a c p r
  both_on a b c p q r x y = record {
    found = x.found ++ y.found;
    adds = y.adds ∙ ap (λ l. l ++ y.found) x.adds ∙ append_assoc (map spot_of a) x.found y.found;
    goes = λ rest are. subst (λ (l : List Spot). AreFolders t (numbers_in a) (waiting p) l) (sym (append_assoc x.found y.found rest)) (x.goes (y.found ++ rest) (y.goes rest are));
  }

  -- all that one leads to
  pub all_on : (old new pending left : List Folder) (start : Folder) → old ≡ [] → pending ≡ start ∷ [] → left ≡ [] → LeadsOn t old new pending left → AreFolders t [] (spot_of start ∷ []) (map spot_of new)
  all_on old new pending left start none_yet alone done on =
      let all : map spot_of new ≡ on.found ++ [] = on.adds ∙ ap (λ l. map spot_of l ++ on.found) none_yet ∙ sym (append-nil on.found) in
      let goes = subst (λ (w : List Folder). AreFolders t (numbers_in old) (waiting w) (on.found ++ [])) alone (on.goes [] (subst (λ (w : List Folder). AreFolders t (numbers_in new) (waiting w) []) (sym done) none)) in
      subst (λ (l : List Spot). AreFolders t [] (spot_of start ∷ []) l) (sym all) (subst (λ (w : List Folder). AreFolders t (numbers_in w) (spot_of start ∷ []) (on.found ++ [])) none_yet goes)
