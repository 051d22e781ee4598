-- Where paths lead after a name that stood for no inode in use was set, while all inodes in use stay so.
use Rattle.std.proofs.Common.{◌≡◌, ℕ, ◌⊎◌, Bool, true, false, cond, is_some, List, [], ◌∷◌, Option, Some, None, Result, Ok, Err, refl, sym, ◌∙◌, ap, inl, inr}
use Rattle.std.specs.Option.{option_map}
use Rattle.std.proofs.lemmas.Bool.{cases_eq, eq-eqb, ne_eqb}
use Rattle.nv_tree.specs.declared.refusal.Refusal.{Refusal}
use Rattle.nv_tree.specs.declared.refusal.Refusal.TheVariants.{NotDirectory}
use Rattle.nv_tree.specs.Path.{last_name}
use Rattle.nv_tree.specs.Tree.{Node, Tree, is_directory, name_in, as_directory, and_then, or_not_found, walk, in_use, last_in, found}
use Rattle.nv_tree.specs.Calls.{put_node, edit}
use Rattle.nv_tree.specs.Laws.{SetsName}

-- each inode in use stays so, with its kind
pub record StaysInUse (t u : Tree) : Type 0 where
  pub stays : (j : ℕ) (a : Node) → t j ≡ Some a → (b : Node) × (u j ≡ Some b) × (a.kind ≡ b.kind)

pub put_stays : (t : Tree) (i : ℕ) (o : Option Node) → t i ≡ None → StaysInUse t (put_node i o t)
put_stays t i o unused = record { stays = λ j a used. by j a used (cases_eq j i) }
  where
    by : (j : ℕ) (a : Node) → t j ≡ Some a → (j ≡ i) ⊎ (j ≡ i → ⊥) → (b : Node) × (put_node i o t j ≡ Some b) × (a.kind ≡ b.kind)
    by j a used (inl is) = let none : t j ≡ None = ap t is ∙ unused in absurd (cc)
    by j a used (inr differs) = (a, ap (λ b. cond b o (t j)) (ne_eqb j i differs) ∙ used, refl)

pub edit_stays : (t : Tree) (d : ℕ) (f : Node → Node) → ((a : Node) → a.kind ≡ (f a).kind) → StaysInUse t (edit d f t)
edit_stays t d f kinds = record { stays = λ j a used. by j a used (cases_eq j d) }
  where
    by : (j : ℕ) (a : Node) → t j ≡ Some a → (j ≡ d) ⊎ (j ≡ d → ⊥) → (b : Node) × (edit d f t j ≡ Some b) × (a.kind ≡ b.kind)
    by j a used (inl is) =
        let here : t d ≡ Some a = ap t (sym is) ∙ used in
        (f a, ap (λ b. cond b (option_map f (t d)) (t j)) (eq-eqb j d is) ∙ ap (option_map f) here, kinds a)
    by j a used (inr differs) = (a, ap (λ b. cond b (option_map f (t d)) (t j)) (ne_eqb j d differs) ∙ used, refl)

pub stays_on : (t s u : Tree) → StaysInUse t s → StaysInUse s u → StaysInUse t u
stays_on t s u first second = record {
  stays = λ j a used.
      let b = first.stays j a used in
      let c = second.stays j b.0 b.1 in
      (c.0, c.1, b.2 ∙ c.2);
}

-- ---- what a step of a walk tells

-- it ended at a directory in use
pub ended : (e k : ℕ) (o : Option Node) → as_directory e o ≡ Ok k → (a : Node) × (o ≡ Some a) × (is_directory a.kind ≡ true) × (e ≡ k)
ended e k None h = absurd (cc)
ended e k (Some a) h = by (is_directory a.kind) refl h
  where
    by : (b : Bool) → is_directory a.kind ≡ b → cond b (Ok e) (Err NotDirectory) ≡ Ok k → (c : Node) × (Some a ≡ Some c) × (is_directory c.kind ≡ true) × (e ≡ k)
    by true is is_k = (a, refl, is, cc)
    by false is is_k = absurd (cc)

pub went_on : (r : Result ℕ Refusal) (f : ℕ → Result ℕ Refusal) (k : ℕ) → and_then r f ≡ Ok k → (i : ℕ) × (r ≡ Ok i) × (f i ≡ Ok k)
went_on (Err refusal) f k h = absurd (cc)
went_on (Ok i) f k h = (i, refl, h)

pub had_name : (o : Option ℕ) (j : ℕ) → or_not_found o ≡ Ok j → o ≡ Some j
had_name None j h = absurd (cc)
had_name (Some i) j h = cc

-- where a walk begins, and where it ends, an inode is in use
walk_begins : (t : Tree) (e : ℕ) (name : List ℕ) (names : List (List ℕ)) (k : ℕ) → walk t e (name ∷ names) ≡ Ok k → (a : Node) × (t e ≡ Some a)
walk_begins t e name [] k h = let r = ended e k (t e) h in (r.0, r.1)
walk_begins t e name (next ∷ names) k h =
    let s = went_on (as_directory e (t e)) (λ c. and_then (or_not_found (name_in t c name)) (λ i. walk t i (next ∷ names))) k h in
    let r = ended e s.0 (t e) s.1 in
    (r.0, r.1)

pub walk_ends : (t : Tree) (e : ℕ) (name : List ℕ) (names : List (List ℕ)) (k : ℕ) → walk t e (name ∷ names) ≡ Ok k → (a : Node) × (t k ≡ Some a)
walk_ends t e name [] k h = let r = ended e k (t e) h in (r.0, ap t (sym r.3) ∙ r.1)
walk_ends t e name (next ∷ names) k h =
    let s = went_on (as_directory e (t e)) (λ c. and_then (or_not_found (name_in t c name)) (λ i. walk t i (next ∷ names))) k h in
    let r = went_on (or_not_found (name_in t s.0 name)) (λ i. walk t i (next ∷ names)) k s.2 in
    walk_ends t r.0 next names k r.2

-- what is found is in use
pub used_now : (t : Tree) (o : Option ℕ) (j : ℕ) → in_use t o ≡ Some j → (a : Node) × (o ≡ Some j) × (t j ≡ Some a)
used_now t None j h = absurd (cc)
used_now t (Some i) j h = by (t i) refl h
  where
    by : (p : Option Node) → t i ≡ p → cond (is_some p) (Some i) None ≡ Some j → (a : Node) × (Some i ≡ Some j) × (t j ≡ Some a)
    by None e is = absurd (cc)
    by (Some a) e is = let same : i ≡ j = cc in (a, is, ap t (sym same) ∙ e)

pub in_use_at : (u : Tree) (j : ℕ) (b : Node) → u j ≡ Some b → in_use u (Some j) ≡ Some j
in_use_at u j b used =
    let chosen : Option Node → Option ℕ = λ o. cond (is_some o) (Some j) None in
    ap chosen used

-- ---- after the name was set

-- The name stood for no inode in use, and stands for another now; all inodes in use stay so.
pub record GrowsName (t : Tree) (d : ℕ) (name : List ℕ) (i : ℕ) (u : Tree) : Type 0 where
  pub sets : SetsName t d name (Some i) u
  pub kept : StaysInUse t u
  pub free : in_use t (name_in t d name) ≡ None

-- a name that stood for an inode in use still does
name_stays : (t : Tree) (d : ℕ) (name : List ℕ) (i : ℕ) (u : Tree) → GrowsName t d name i u → (e : ℕ) (q : List ℕ) (j : ℕ) (a : Node) → name_in t e q ≡ Some j → t j ≡ Some a → name_in u e q ≡ Some j
name_stays t d name i u g e q j a is used = g.sets.others e q other ∙ is
  where
    other : e ≡ d → q ≡ name → ⊥
    other at key =
        let was : name_in t d name ≡ Some j = ap (λ k. name_in t k name) (sym at) ∙ ap (λ k. name_in t e k) (sym key) ∙ is in
        let found : in_use t (name_in t d name) ≡ Some j = ap (in_use t) was ∙ in_use_at t j a used in
        let none = g.free in
        cc

directory_stays : (t u : Tree) → StaysInUse t u → (e k : ℕ) → as_directory e (t e) ≡ Ok k → as_directory e (u e) ≡ Ok k
directory_stays t u kept e k h =
    let r = ended e k (t e) h in
    let b = kept.stays e r.0 r.1 in
    let result : Bool → Result ℕ Refusal = λ v. cond v (Ok e) (Err NotDirectory) in
    ap (as_directory e) b.1 ∙ ap result (ap is_directory (sym b.2) ∙ r.2) ∙ ap (λ x. Ok x) r.3

pub walk_stays : (t : Tree) (d : ℕ) (name : List ℕ) (i : ℕ) (u : Tree) → GrowsName t d name i u → (e : ℕ) (names : List (List ℕ)) (k : ℕ) → walk t e names ≡ Ok k → walk u e names ≡ Ok k
walk_stays t d name i u g e [] k h = h
walk_stays t d name i u g e (n ∷ []) k h = directory_stays t u g.kept e k h
walk_stays t d name i u g e (n ∷ next ∷ names) k h =
    let s = went_on (as_directory e (t e)) (λ c. and_then (or_not_found (name_in t c n)) (λ j. walk t j (next ∷ names))) k h in
    let r = went_on (or_not_found (name_in t s.0 n)) (λ j. walk t j (next ∷ names)) k s.2 in
    let a = walk_begins t r.0 next names k r.2 in
    let step : name_in u s.0 n ≡ Some r.0 = name_stays t d name i u g s.0 n r.0 a.0 (had_name (name_in t s.0 n) r.0 r.1) a.1 in
    ap (λ x. and_then x (λ c. and_then (or_not_found (name_in u c n)) (λ j. walk u j (next ∷ names)))) (directory_stays t u g.kept e s.0 s.1)
    ∙ ap (λ o. and_then (or_not_found o) (λ j. walk u j (next ∷ names))) step
    ∙ walk_stays t d name i u g r.0 (next ∷ names) k r.2

-- each path that led to an inode leads there still
pub path_stays : (t : Tree) (d : ℕ) (name : List ℕ) (i : ℕ) (u : Tree) → GrowsName t d name i u → (path : List (List ℕ)) (j : ℕ) → found t path ≡ Some j → found u path ≡ Some j
path_stays t d name i u g [] j h =
    let a = used_now t (Some 1) j h in
    let b = g.kept.stays j a.0 a.2 in
    ap (in_use u) a.1 ∙ in_use_at u j b.0 b.1
path_stays t d name i u g (n ∷ names) j h = by (walk t 1 (n ∷ names)) refl h
  where
    by : (r : Result ℕ Refusal) → walk t 1 (n ∷ names) ≡ r → in_use t (last_in t r (n ∷ names)) ≡ Some j → found u (n ∷ names) ≡ Some j
    by (Err refusal) e is = absurd (cc)
    by (Ok k) e is =
        let a = used_now t (name_in t k (last_name (n ∷ names))) j is in
        let b = g.kept.stays j a.0 a.2 in
        ap (λ r. in_use u (last_in u r (n ∷ names))) (walk_stays t d name i u g 1 (n ∷ names) k e)
        ∙ ap (in_use u) (name_stays t d name i u g k (last_name (n ∷ names)) j a.0 a.1 a.2)
        ∙ in_use_at u j b.0 b.1

-- the path of the name leads to the new inode
pub path_grows : (t : Tree) (d i : ℕ) (u : Tree) (name : List ℕ) (names : List (List ℕ)) → GrowsName t d (last_name (name ∷ names)) i u → (b : Node) → u i ≡ Some b → walk t 1 (name ∷ names) ≡ Ok d → found u (name ∷ names) ≡ Some i
path_grows t d i u name names g b used way =
    ap (λ r. in_use u (last_in u r (name ∷ names))) (walk_stays t d (last_name (name ∷ names)) i u g 1 (name ∷ names) d way)
    ∙ ap (in_use u) g.sets.here
    ∙ in_use_at u i b used

-- a path that led nowhere, from where its walk ended
pub stood_for_none : (t : Tree) (d : ℕ) (names : List (List ℕ)) → walk t 1 names ≡ Ok d → in_use t (last_in t (walk t 1 names) names) ≡ None → in_use t (name_in t d (last_name names)) ≡ None
stood_for_none t d names way none = ap (λ r. in_use t (last_in t r names)) (sym way) ∙ none
