-- One step of the way through two trees.
use Rattle.std.proofs.Common.{◌≡◌, ◌≢◌, ◌∙◌, ℕ, Bool, true, false, List, [], ◌∷◌, ◌++◌, map, reverse, flat_map, Option, Some, None, length, refl, sym, ap, subst, append-nil, append_assoc, inl, inr}
use Rattle.std.specs.Prelude.{nat_le}
use Rattle.std.specs.List.{Contains}
use Rattle.std.proofs.lemmas.List.{map-append, reverse-append, reverse-reverse}
use Rattle.std.proofs.lemmas.List.Elements.{Contains-append_cases}
use Rattle.nv_super.proofs.Members.{none_in}
use Rattle.nv_super.proofs.Rising.{Contains-cons, Contains-head, Contains-tail}
use Rattle.nv_tree.specs.Tree.{Tree, name_in}
use Rattle.nv_tree.specs.Refusals.{is_directory_at}
use Rattle.nv_folders.specs.Folders.{path_in}
use Rattle.nv_difference.specs.Pairs.{AreVisited, none, again, passed, compared, ArePairsBelow, Both, are_new, both_of, pair_at, pairs_of, partner_of}
use Rattle.nv_difference.specs.Walk.{AreDirectories, AreTables, IsReady, Known, LeadsOn, IsVisitable, AreVisitable, compared_in, seen_in, visit_of, waiting}
use Rattle.nv_difference.specs.declared.pair.Pair.{Pair}
use Rattle.nv_difference.specs.declared.pair.Visit.{Visit}
use Rattle.nv_difference.proofs.Tables.{none_compared}

-- ---- what waits

map-reverse : {X Y : Type 0} (f : X → Y) (xs : List X) → map f (reverse xs) ≡ reverse (map f xs)
map-reverse f [] = refl
map-reverse f (x ∷ xs) = ap (map f) (reverse-append (x ∷ []) xs) ∙ map-append f (reverse xs) (x ∷ []) ∙ ap (λ l. l ++ f x ∷ []) (map-reverse f xs) ∙ sym (reverse-append (f x ∷ []) (map f xs))

pub on_top : (pending : List Pair) (next : Pair) → waiting (pending ++ next ∷ []) ≡ both_of next ∷ waiting pending
on_top pending next = ap reverse (map-append both_of pending (next ∷ [])) ∙ reverse-append (map both_of pending) (both_of next ∷ [])

in_front : (pending below : List Pair) → waiting (pending ++ reverse below) ≡ map both_of below ++ waiting pending
in_front pending below = ap reverse (map-append both_of pending (reverse below)) ∙ reverse-append (map both_of pending) (map both_of (reverse below))
    ∙ ap (λ l. l ++ waiting pending) (ap reverse (map-reverse both_of below) ∙ reverse-reverse (map both_of below))

-- ---- what was seen

-- one visit more stands first
seen_more : (visits : List Visit) (v : Visit) → seen_in (visits ++ v ∷ []) ≡ compared_in (visit_of v ∷ reverse (map visit_of visits))
seen_more visits v = ap compared_in (ap reverse (map-append visit_of visits (v ∷ [])) ∙ reverse-append (map visit_of visits) (visit_of v ∷ []))

seen_compared : (visits : List Visit) (x : Pair) → seen_in (visits ++ record { pair = x; compared = true } ∷ []) ≡ both_of x ∷ seen_in visits
seen_compared visits x = seen_more visits (record { pair = x; compared = true })

seen_passed : (visits : List Visit) (x : Pair) → seen_in (visits ++ record { pair = x; compared = false } ∷ []) ≡ seen_in visits
seen_passed visits x = seen_more visits (record { pair = x; compared = false })

module _ (t u : Tree) where
  -- ---- what names lead to are directories

  pair_is : (path : List ℕ) (i : ℕ) (o : Option ℕ) (x : Both) → Contains (pair_at t u path i o) x → (is_directory_at t x.1 ≡ true) × (is_directory_at u x.2 ≡ true)
  pair_is path i None x c = absurd (none_in x c)
  pair_is path i (Some j) x c = by (is_directory_at t i) refl (is_directory_at u j) refl (nat_le (length path) 4096) refl c where
    by : (a : Bool) → is_directory_at t i ≡ a → (b : Bool) → is_directory_at u j ≡ b → (short : Bool) → nat_le (length path) 4096 ≡ short → Contains (pair_at t u path i (Some j)) x
        → (is_directory_at t x.1 ≡ true) × (is_directory_at u x.2 ≡ true)
    by true a true b true short c = elim (Contains-cons (path, i, j) [] x (rw (a, b, short) at c)) [
      | inl h ↦ (subst (λ (y : Both). is_directory_at t y.1 ≡ true) (sym h) a, subst (λ (y : Both). is_directory_at u y.2 ≡ true) (sym h) b)
      | inr h ↦ absurd (none_in x h)
    ]
    by true a true b false short c = absurd (none_in x (rw (a, b, short) at c))
    by true a false b d short c = absurd (none_in x (rw (a, b) at c))
    by false a b is d short c = absurd (none_in x (rw a at c))

  pub roots_are : (path : List ℕ) (i : ℕ) (o : Option ℕ) → AreDirectories t u (pair_at t u path i o)
  roots_are path i o = pair_is path i o

  pairs_are : (above : Both) (listed : List (List ℕ × ℕ)) → AreDirectories t u (flat_map (pairs_of t u above) listed)
  pairs_are above [] x c = absurd (none_in x c)
  pairs_are above (e ∷ listed) x c = elim (Contains-append_cases (pairs_of t u above e) (flat_map (pairs_of t u above) listed) x c) [
    | inl here ↦ pair_is (path_in above.0 e.0) e.1 (name_in u above.2 e.0) x here
    | inr there ↦ pairs_are above listed x there
  ]

  below_are : (x : Both) (below : List Both) → ArePairsBelow t u x below → AreDirectories t u below
  below_are x below are = subst (AreDirectories t u) (sym are.2) (pairs_are x are.0)

  -- all that is visited are directories
  pub visited_are : (seen pending : List Both) (visits : List (Both × Bool)) → AreVisited t u seen pending visits → AreDirectories t u pending → AreVisitable t u visits
  visited_are seen pending visits none are v c = absurd (none_in v c)
  visited_are seen pending visits (again {rest} x is on) are v c = visited_are seen rest visits on (λ y there. are y (Contains-tail x rest y there)) v c
  visited_are seen pending visits (passed {rest} {visits = more} x is old on) are v c = elim (Contains-cons (x, false) more v c) [
    | inl here ↦ subst (IsVisitable t u) (sym here) (are x (Contains-head x rest))
    | inr there ↦ visited_are seen rest more on (λ y w. are y (Contains-tail x rest y w)) v there
  ]
  visited_are seen pending visits (compared {rest} {visits = more} x below new is on) are v c = elim (Contains-cons (x, true) more v c) [
    | inl here ↦ subst (IsVisitable t u) (sym here) (are x (Contains-head x rest))
    | inr there ↦ visited_are (x ∷ seen) (below ++ rest) more on (λ y w. elim (Contains-append_cases below rest y w) [
      | inl first ↦ below_are x below is y first
      | inr behind ↦ are y (Contains-tail x rest y behind)
    ]) v there
  ]

  -- ---- what is left is ready

  module _ (visits : List Visit) (pending : List Pair) (next : Pair) (partners owners : Known) (r : IsReady t u visits (pending ++ next ∷ []) partners owners) where
    left_are : AreDirectories t u (waiting pending)
    left_are x c = r.directories x (subst (λ (w : List Both). Contains w x) (sym (on_top pending next)) (Contains-tail (both_of next) (waiting pending) x c))

    pub top_is : (is_directory_at t next.a ≡ true) × (is_directory_at u next.b ≡ true)
    top_is = r.directories (both_of next) (subst (λ (w : List Both). Contains w (both_of next)) (sym (on_top pending next)) (Contains-head (both_of next) (waiting pending)))

    pub less_ready : IsReady t u visits pending partners owners
    less_ready = record { tables = r.tables; directories = left_are }

    pub passed_ready : IsReady t u (visits ++ record { pair = next; compared = false } ∷ []) pending partners owners
    passed_ready = record {
      tables = subst (λ (seen : List Both). AreTables seen partners owners) (sym (seen_passed visits next)) r.tables;
      directories = left_are;
    }

    pub compared_ready : (below : List Pair) (more others : Known) → ArePairsBelow t u (both_of next) (map both_of below) → AreTables (both_of next ∷ seen_in visits) more others
        → IsReady t u (visits ++ record { pair = next; compared = true } ∷ []) (pending ++ reverse below) more others
    compared_ready below more others are tables = record {
      tables = subst (λ (seen : List Both). AreTables seen more others) (sym (seen_compared visits next)) tables;
      directories = λ x c. elim (Contains-append_cases (map both_of below) (waiting pending) x (subst (λ (w : List Both). Contains w x) (in_front pending below) c)) [
        | inl here ↦ below_are (both_of next) (map both_of below) are x here
        | inr there ↦ left_are x there
      ];
    }

  pub start_ready : (visits : List Visit) (pending : List Pair) (partners owners : Known) → visits ≡ [] → ((i : ℕ) → partners i ≡ None) → ((j : ℕ) → owners j ≡ None) → AreDirectories t u (waiting pending)
      → IsReady t u visits pending partners owners
  start_ready visits pending partners owners none_yet first second are = record {
    tables = subst (λ (l : List Visit). AreTables (seen_in l) partners owners) (sym none_yet) (none_compared partners owners first second);
    directories = are;
  }

  -- ---- it leads on

  pub again_on : (visits : List Visit) (pending : List Pair) (next : Pair) → partner_of (seen_in visits) next.a ≡ Some next.b → LeadsOn t u visits visits (pending ++ next ∷ []) pending
  again_on visits pending next is = record {
    found = [];
    adds = sym (append-nil (map visit_of visits));
    goes = λ rest on. subst (λ (w : List Both). AreVisited t u (seen_in visits) w rest) (sym (on_top pending next)) (again (both_of next) is on);
  }

  pub passed_on : (visits : List Visit) (pending : List Pair) (next : Pair) → partner_of (seen_in visits) next.a ≢ Some next.b → are_new (seen_in visits) (both_of next) ≡ false
      → LeadsOn t u visits (visits ++ record { pair = next; compared = false } ∷ []) (pending ++ next ∷ []) pending
  passed_on visits pending next other old = record {
    found = (both_of next, false) ∷ [];
    adds = map-append visit_of visits (record { pair = next; compared = false } ∷ []);
    goes = λ rest on. subst (λ (w : List Both). AreVisited t u (seen_in visits) w ((both_of next, false) ∷ rest)) (sym (on_top pending next))
        (passed (both_of next) other old (subst (λ (seen : List Both). AreVisited t u seen (waiting pending) rest) (seen_passed visits next) on));
  }

  pub compared_on : (visits : List Visit) (pending below : List Pair) (next : Pair) → are_new (seen_in visits) (both_of next) ≡ true → ArePairsBelow t u (both_of next) (map both_of below)
      → LeadsOn t u visits (visits ++ record { pair = next; compared = true } ∷ []) (pending ++ next ∷ []) (pending ++ reverse below)
  compared_on visits pending below next new are = record {
    found = (both_of next, true) ∷ [];
    adds = map-append visit_of visits (record { pair = next; compared = true } ∷ []);
    goes = λ rest on. subst (λ (w : List Both). AreVisited t u (seen_in visits) w ((both_of next, true) ∷ rest)) (sym (on_top pending next))
        (compared (both_of next) (map both_of below) new are
        (subst (λ (seen : List Both). AreVisited t u seen (map both_of below ++ waiting pending) rest) (seen_compared visits next)
        (subst (λ (w : List Both). AreVisited t u (seen_in (visits ++ record { pair = next; compared = true } ∷ [])) w rest) (in_front pending below) on)));
  }

  pub none_on : (visits : List Visit) (pending : List Pair) → LeadsOn t u visits visits pending pending
  none_on visits pending = record { found = []; adds = sym (append-nil (map visit_of visits)); goes = λ rest on. on }

  pub both_on : (a b c : List Visit) (p q r : List Pair) → LeadsOn t u a b p q → LeadsOn t u b c q r → LeadsOn t u a c p r
  both_on a b c p q r x y = record {
    found = x.found ++ y.found;
    adds = y.adds ∙ ap (λ l. l ++ y.found) x.adds ∙ append_assoc (map visit_of a) x.found y.found;
    goes = λ rest on. subst (λ (l : List (Both × Bool)). AreVisited t u (seen_in a) (waiting p) l) (sym (append_assoc x.found y.found rest)) (x.goes (y.found ++ rest) (y.goes rest on));
  }

  -- all that some lead to
  pub all_on : (old new : List Visit) (pending left : List Pair) → old ≡ [] → left ≡ [] → LeadsOn t u old new pending left → AreVisited t u [] (waiting pending) (map visit_of new)
  all_on old new pending left none_yet done on =
      let all : map visit_of new ≡ on.found ++ [] = on.adds ∙ ap (λ l. map visit_of l ++ on.found) none_yet ∙ sym (append-nil on.found) in
      let end : AreVisited t u (seen_in new) (waiting left) [] = subst (λ (w : List Pair). AreVisited t u (seen_in new) (waiting w) []) (sym done) none in
      subst (λ (l : List (Both × Bool)). AreVisited t u [] (waiting pending) l) (sym all) (subst (λ (l : List Visit). AreVisited t u (seen_in l) (waiting pending) (on.found ++ [])) none_yet (on.goes [] end))
