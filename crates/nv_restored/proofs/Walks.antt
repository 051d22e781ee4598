-- Where a path with one name more leads, and that each front of a path leads somewhere.
use Rattle.std.proofs.Common.{◌≡◌, ℕ, Bool, true, cond, List, [], ◌∷◌, ◌++◌, Some, None, Result, Ok, Err, refl, sym, ◌∙◌, ap}
use Rattle.nv_tree.specs.declared.refusal.Refusal.{Refusal}
use Rattle.nv_tree.specs.declared.refusal.Refusal.TheVariants.{NotDirectory}
use Rattle.nv_tree.specs.Path.{last_name}
use Rattle.nv_tree.specs.Tree.{Node, Tree, is_directory, name_in, as_directory, and_then, or_not_found, walk, in_use, last_in, found}
use Rattle.nv_tree.proofs.Leads.{ended, had_name, in_use_at, used_now, went_on}

-- ---- one name more

-- goes on from where a walk ended, by a name
abbrev on_from : Tree → List ℕ → List (List ℕ) → ℕ → Result ℕ Refusal
on_from t name names c = and_then (or_not_found (name_in t c name)) (λ i. walk t i names)

pub last_more : (front : List (List ℕ)) (q : List ℕ) → last_name (front ++ q ∷ []) ≡ q
last_more [] q = refl
last_more (n ∷ []) q = refl
last_more (n ∷ next ∷ names) q = last_more (next ∷ names) q

walk_on : (t : Tree) (d : ℕ) (n : List ℕ) (names : List (List ℕ)) (q : List ℕ) (c e : ℕ) → walk t d (n ∷ names) ≡ Ok c → name_in t c (last_name (n ∷ names)) ≡ Some e
    → walk t d ((n ∷ names) ++ q ∷ []) ≡ as_directory e (t e)
walk_on t d n [] q c e way is = ap (λ r. and_then r (on_from t n (q ∷ []))) way ∙ ap (λ o. and_then (or_not_found o) (λ i. walk t i (q ∷ []))) is
walk_on t d n (next ∷ names) q c e way is =
    let s = went_on (as_directory d (t d)) (on_from t n (next ∷ names)) c way in
    let r = went_on (or_not_found (name_in t s.0 n)) (λ i. walk t i (next ∷ names)) c s.2 in
    ap (λ x. and_then x (on_from t n ((next ∷ names) ++ q ∷ []))) s.1
    ∙ ap (λ x. and_then x (λ i. walk t i ((next ∷ names) ++ q ∷ []))) r.1
    ∙ walk_on t r.0 next names q c e r.2 is

-- the directory of the last name, from what the names before it lead to
pub walk_more : (t : Tree) (front : List (List ℕ)) (q : List ℕ) (e : ℕ) → found t front ≡ Some e → walk t 1 (front ++ q ∷ []) ≡ as_directory e (t e)
walk_more t [] q e led = let s = used_now t (Some 1) e led in let same : 1 ≡ e = cc in ap (λ i. as_directory i (t i)) same
walk_more t (n ∷ names) q e led = by (walk t 1 (n ∷ names)) refl
  where
    by : (r : Result ℕ Refusal) → walk t 1 (n ∷ names) ≡ r → walk t 1 ((n ∷ names) ++ q ∷ []) ≡ as_directory e (t e)
    by (Err refusal) is = let never : None ≡ Some e = sym (ap (λ r. in_use t (last_in t r (n ∷ names))) is) ∙ led in absurd (cc)
    by (Ok c) is =
        let s = used_now t (name_in t c (last_name (n ∷ names))) e (sym (ap (λ r. in_use t (last_in t r (n ∷ names))) is) ∙ led) in
        walk_on t 1 n names q c e is s.1

pub directory_ok : (t : Tree) (e : ℕ) (a : Node) → t e ≡ Some a → is_directory a.kind ≡ true → as_directory e (t e) ≡ Ok e
directory_ok t e a there is =
    let result : Bool → Result ℕ Refusal = λ v. cond v (Ok e) (Err NotDirectory) in
    ap (as_directory e) there ∙ ap result is

found_by : (t : Tree) (names : List (List ℕ)) (q : List ℕ) (d : ℕ) → walk t 1 (names ++ q ∷ []) ≡ Ok d → found t (names ++ q ∷ []) ≡ in_use t (name_in t d q)
found_by t [] q d way = ap (λ r. in_use t (last_in t r (q ∷ []))) way
found_by t (n ∷ names) q d way = ap (λ r. in_use t (last_in t r (n ∷ names ++ q ∷ []))) way ∙ ap (λ m. in_use t (name_in t d m)) (last_more (n ∷ names) q)

-- what a name of what a path leads to stands for, the longer path leads to
pub found_more : (t : Tree) (names : List (List ℕ)) (q : List ℕ) (d : ℕ) (a : Node) → found t names ≡ Some d → t d ≡ Some a → is_directory a.kind ≡ true → found t (names ++ q ∷ []) ≡ in_use t (name_in t d q)
found_more t names q d a led there is = found_by t names q d (walk_more t names q d led ∙ directory_ok t d a there is)

-- ---- fronts

-- where a walk goes on behind a front, the front leads to an inode in use
front_on : (t : Tree) (d : ℕ) (n : List ℕ) (names : List (List ℕ)) (m : List ℕ) (more : List (List ℕ)) (c : ℕ) → walk t d ((n ∷ names) ++ m ∷ more) ≡ Ok c
    → (e : ℕ) × (i : ℕ) × (a : Node) × (walk t d (n ∷ names) ≡ Ok e) × (name_in t e (last_name (n ∷ names)) ≡ Some i) × (t i ≡ Some a)
front_on t d n [] m more c way =
    let s = went_on (as_directory d (t d)) (on_from t n (m ∷ more)) c way in
    let r = went_on (or_not_found (name_in t s.0 n)) (λ i. walk t i (m ∷ more)) c s.2 in
    let a = begins m more r.0 r.2 in
    (s.0, r.0, a.0, s.1, had_name (name_in t s.0 n) r.0 r.1, a.1)
  where
    begins : (m : List ℕ) (more : List (List ℕ)) (e : ℕ) → walk t e (m ∷ more) ≡ Ok c → (a : Node) × (t e ≡ Some a)
    begins m [] e h = let r = ended e c (t e) h in (r.0, r.1)
    begins m (next ∷ more) e h =
        let s = went_on (as_directory e (t e)) (on_from t m (next ∷ more)) c h in
        let r = ended e s.0 (t e) s.1 in
        (r.0, r.1)
front_on t d n (next ∷ names) m more c way =
    let s = went_on (as_directory d (t d)) (on_from t n ((next ∷ names) ++ m ∷ more)) c way in
    let r = went_on (or_not_found (name_in t s.0 n)) (λ i. walk t i ((next ∷ names) ++ m ∷ more)) c s.2 in
    let f = front_on t r.0 next names m more c r.2 in
    (f.0, f.1, f.2, ap (λ x. and_then x (on_from t n (next ∷ names))) s.1 ∙ ap (λ x. and_then x (λ i. walk t i (next ∷ names))) r.1 ∙ f.3, f.4, f.5)

pub front_found : (t : Tree) (n : List ℕ) (names : List (List ℕ)) (m : List ℕ) (more : List (List ℕ)) (c : ℕ) → walk t 1 ((n ∷ names) ++ m ∷ more) ≡ Ok c → (i : ℕ) × (found t (n ∷ names) ≡ Some i)
front_found t n names m more c way =
    let f = front_on t 1 n names m more c way in
    (f.1, ap (λ r. in_use t (last_in t r (n ∷ names))) f.3 ∙ ap (in_use t) f.4 ∙ in_use_at t f.1 f.2 f.5)

-- ---- the last name of a path

found_nowhere : (t : Tree) (names : List (List ℕ)) (q : List ℕ) (r : Refusal) → walk t 1 (names ++ q ∷ []) ≡ Err r → found t (names ++ q ∷ []) ≡ None
found_nowhere t [] q r way = ap (λ x. in_use t (last_in t x (q ∷ []))) way
found_nowhere t (n ∷ names) q r way = ap (λ x. in_use t (last_in t x (n ∷ names ++ q ∷ []))) way

-- the last name of a path stands for what the path leads to
pub last_step : (t : Tree) (names : List (List ℕ)) (q : List ℕ) (e j : ℕ) → found t names ≡ Some e → found t (names ++ q ∷ []) ≡ Some j → name_in t e q ≡ Some j
last_step t names q e j led longer = by (as_directory e (t e)) refl
  where
    by : (r : Result ℕ Refusal) → as_directory e (t e) ≡ r → name_in t e q ≡ Some j
    by (Err r) is = let never : None ≡ Some j = sym (found_nowhere t names q r (walk_more t names q e led ∙ is)) ∙ longer in absurd (cc)
    by (Ok k) is =
        let s = used_now t (name_in t k q) j (sym (found_by t names q k (walk_more t names q e led ∙ is)) ∙ longer) in
        ap (λ (i : ℕ). name_in t i q) (ended e k (t e) is).3 ∙ s.1
