-- Where paths lead after a name was cut whose inode has no names, while all other inodes in use stay so.
use Rattle.std.proofs.Common.{◌≡◌, ◌≢◌, ℕ, Bool, cond, List, [], ◌∷◌, Some, None, Result, Ok, Err, sym, ◌∙◌, ap}
use Rattle.nv_tree.specs.declared.refusal.Refusal.{Refusal}
use Rattle.nv_tree.specs.declared.refusal.Refusal.TheVariants.{NotDirectory}
use Rattle.nv_tree.specs.Path.{last_name}
use Rattle.nv_tree.specs.Tree.{Node, Tree, is_directory, name_in, as_directory, and_then, or_not_found, walk, in_use, last_in, found}
use Rattle.nv_tree.specs.Laws.{HasNoNames, SetsName}
use Rattle.nv_tree.proofs.Leads.{ended, had_name, in_use_at, used_now, went_on}

-- The name stood for inode j, which has no names, and stands for nothing now. All other inodes in use stay so.
pub record CutsName (t : Tree) (e : ℕ) (name : List ℕ) (j : ℕ) (u : Tree) : Type 0 where
  pub stood : name_in t e name ≡ Some j
  pub bare : HasNoNames t j
  pub cuts : SetsName t e name None u
  pub kept : (k : ℕ) (a : Node) → k ≢ j → t k ≡ Some a → (b : Node) × (u k ≡ Some b) × (a.kind ≡ b.kind)

-- what has a name isn't an inode without names
pub named_differs : (t : Tree) (j c k : ℕ) (q : List ℕ) → HasNoNames t j → name_in t c q ≡ Some k → c ≢ j
named_differs t j c k q bare is same = let none : name_in t c q ≡ None = ap (λ (m : ℕ). name_in t m q) same ∙ bare q in absurd (cc)

-- a walk from an inode without names ends there
ends_there : (t : Tree) (j : ℕ) (next : List ℕ) (names : List (List ℕ)) (k : ℕ) → HasNoNames t j → walk t j (next ∷ names) ≡ Ok k → j ≡ k
ends_there t j next [] k bare h = (ended j k (t j) h).3
ends_there t j next (m ∷ names) k bare h =
    let s = went_on (as_directory j (t j)) (λ c. and_then (or_not_found (name_in t c next)) (λ i. walk t i (m ∷ names))) k h in
    let r = went_on (or_not_found (name_in t s.0 next)) (λ i. walk t i (m ∷ names)) k s.2 in
    let at : j ≡ s.0 = (ended j s.0 (t j) s.1).3 in
    absurd (named_differs t j s.0 r.0 next bare (had_name (name_in t s.0 next) r.0 r.1) (sym at))

directory_kept : (t : Tree) (e : ℕ) (name : List ℕ) (j : ℕ) (u : Tree) → CutsName t e name j u → (c k : ℕ) → c ≢ j → as_directory c (t c) ≡ Ok k → as_directory c (u c) ≡ Ok k
directory_kept t e name j u g c k ne h =
    let r = ended c k (t c) h in
    let b = g.kept c r.0 ne r.1 in
    let result : Bool → Result ℕ Refusal = λ v. cond v (Ok c) (Err NotDirectory) in
    ap (as_directory c) b.1 ∙ ap result (ap is_directory (sym b.2) ∙ r.2) ∙ ap (λ x. Ok x) r.3

-- a name that stood for another inode still does
name_kept : (t : Tree) (e : ℕ) (name : List ℕ) (j : ℕ) (u : Tree) → CutsName t e name j u → (c : ℕ) (q : List ℕ) (k : ℕ) → k ≢ j → name_in t c q ≡ Some k → name_in u c q ≡ Some k
name_kept t e name j u g c q k ne is = g.cuts.others c q other ∙ is
  where
    other : c ≡ e → q ≡ name → ⊥
    other at key =
        let was : name_in t e name ≡ Some k = ap (λ m. name_in t m name) (sym at) ∙ ap (λ m. name_in t c m) (sym key) ∙ is in
        let there = g.stood in
        let same : k ≡ j = cc in
        ne same

pub cut_walk : (t : Tree) (e : ℕ) (name : List ℕ) (j : ℕ) (u : Tree) → CutsName t e name j u → (c : ℕ) (names : List (List ℕ)) (k : ℕ) → k ≢ j → walk t c names ≡ Ok k → walk u c names ≡ Ok k
cut_walk t e name j u g c [] k ne h = h
cut_walk t e name j u g c (n ∷ []) k ne h = directory_kept t e name j u g c k (λ at. ne (sym (ended c k (t c) h).3 ∙ at)) h
cut_walk t e name j u g c (n ∷ next ∷ names) k ne h =
    let s = went_on (as_directory c (t c)) (λ m. and_then (or_not_found (name_in t m n)) (λ i. walk t i (next ∷ names))) k h in
    let r = went_on (or_not_found (name_in t s.0 n)) (λ i. walk t i (next ∷ names)) k s.2 in
    let here : c ≡ s.0 = (ended c s.0 (t c) s.1).3 in
    let had : name_in t s.0 n ≡ Some r.0 = had_name (name_in t s.0 n) r.0 r.1 in
    let other : r.0 ≢ j = λ at. ne (sym (ends_there t j next names k g.bare (ap (λ m. walk t m (next ∷ names)) (sym at) ∙ r.2))) in
    let step : name_in u s.0 n ≡ Some r.0 = name_kept t e name j u g s.0 n r.0 other had in
    ap (λ x. and_then x (λ m. and_then (or_not_found (name_in u m n)) (λ i. walk u i (next ∷ names)))) (directory_kept t e name j u g c s.0 (λ at. named_differs t j s.0 r.0 n g.bare had (sym here ∙ at)) s.1)
    ∙ ap (λ o. and_then (or_not_found o) (λ i. walk u i (next ∷ names))) step
    ∙ cut_walk t e name j u g r.0 (next ∷ names) k ne r.2

-- what a path's last name stood for
pub last_stood : (t : Tree) (n : List ℕ) (names : List (List ℕ)) (c k : ℕ) → walk t 1 (n ∷ names) ≡ Ok c → found t (n ∷ names) ≡ Some k → (a : Node) × (name_in t c (last_name (n ∷ names)) ≡ Some k) × (t k ≡ Some a)
last_stood t n names c k way led = used_now t (name_in t c (last_name (n ∷ names))) k (ap (λ r. in_use t (last_in t r (n ∷ names))) (sym way) ∙ led)

-- a path that led to another inode leads there still
pub cut_found : (t : Tree) (e : ℕ) (name : List ℕ) (j : ℕ) (u : Tree) → CutsName t e name j u → (n : List ℕ) (names : List (List ℕ)) (c k : ℕ) → k ≢ j → walk t 1 (n ∷ names) ≡ Ok c → found t (n ∷ names) ≡ Some k → found u (n ∷ names) ≡ Some k
cut_found t e name j u g n names c k ne way led =
    let a = last_stood t n names c k way led in
    let b = g.kept k a.0 ne a.2 in
    ap (λ r. in_use u (last_in u r (n ∷ names))) (cut_walk t e name j u g 1 (n ∷ names) c (named_differs t j c k (last_name (n ∷ names)) g.bare a.1) way)
    ∙ ap (in_use u) (name_kept t e name j u g c (last_name (n ∷ names)) k ne a.1)
    ∙ in_use_at u k b.0 b.1
