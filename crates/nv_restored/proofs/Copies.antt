-- A tree that has a copy of a part of another, by a table of numbers, and what single changes make of it.
use Rattle.std.proofs.Common.{◌≡◌, ℕ, ◌⊎◌, Bool, true, false, cond, eqb, List, Option, Some, None, refl, sym, ◌∙◌, ap, subst, inl, inr}
use Rattle.std.specs.Option.{option_map}
use Rattle.std.specs.Cmp.Lexicographic.{pointwise, bytes_decides}
use Rattle.std.proofs.lemmas.Bool.{cases_eq, eq-eqb, ne_eqb}
use Rattle.nv_tree.specs.Tree.{Node, Tree, SameNode, SameNodes, SameTree, name_in}
use Rattle.nv_tree.specs.Calls.{put_node, edit}
use Rattle.nv_tree.specs.Laws.{SetsName}
use Rattle.nv_tree.proofs.Alike.{name_alike}
use Rattle.nv_tree.proofs.Leads.{StaysInUse}

-- The second tree has a copy of each inode that the table has a number for, with those of its names that were made.
pub record IsCopy (t : Tree) (made : ℕ → List ℕ → Type 0) (f : ℕ → Option ℕ) (v : Tree) : Type 0 where
  pub root : f 1 ≡ Some 1
  pub one : (i k j : ℕ) → f i ≡ Some j → f k ≡ Some j → i ≡ k
  pub nodes : (i j : ℕ) → f i ≡ Some j → (a : Node) × (b : Node) × (t i ≡ Some a) × (v j ≡ Some b) × (a.kind ≡ b.kind)
  pub used : (j : ℕ) (b : Node) → v j ≡ Some b → (i : ℕ) × (f i ≡ Some j)
  pub there : (d i : ℕ) (q : List ℕ) → made d q → name_in t d q ≡ Some i → (e : ℕ) × (j : ℕ) × (f d ≡ Some e) × (f i ≡ Some j) × (name_in v e q ≡ Some j)
  pub only : (e j : ℕ) (q : List ℕ) → name_in v e q ≡ Some j → (d : ℕ) × (i : ℕ) × (f d ≡ Some e) × (f i ≡ Some j) × made d q × (name_in t d q ≡ Some i)

-- this is known of the copy of each inode
abbrev pub HoldsFor : (ℕ → Option ℕ) → Tree → (ℕ → Node → Type 0) → Type 0
HoldsFor f v P = (i j : ℕ) (b : Node) → f i ≡ Some j → v j ≡ Some b → P i b

-- what is known of a copy is known of one that nobody can tell from it
abbrev pub IsStable : (ℕ → Node → Type 0) → Type 0
IsStable P = (i : ℕ) (b c : Node) → SameNode b c → P i b → P i c

-- ---- trees that nobody can tell apart

pub used_alike : (v w : Tree) → SameTree v w → (j : ℕ) (b : Node) → v j ≡ Some b → (c : Node) × (w j ≡ Some c) × SameNode b c
used_alike v w same j b there = by (v j) (w j) refl refl (same j)
  where
    by : (o p : Option Node) → v j ≡ o → w j ≡ p → SameNodes o p → (c : Node) × (w j ≡ Some c) × SameNode b c
    by None p is at s = absurd (let never : None ≡ Some b = sym is ∙ there in cc)
    by (Some a) None is at s = absurd s
    by (Some a) (Some c) is at s = let here : a ≡ b = some_same a b (sym is ∙ there) in (c, at, subst (λ (x : Node). SameNode x c) here s)
      where
        some_same : (x y : Node) → Some x ≡ Some y → x ≡ y
        some_same x y h = cc

pub copy_alike : (t : Tree) (made : ℕ → List ℕ → Type 0) (f : ℕ → Option ℕ) (v w : Tree) → SameTree v w → SameTree w v → IsCopy t made f v → IsCopy t made f w
copy_alike t made f v w same other c = record {
  root = c.root;
  one = c.one;
  nodes = λ i j is.
      let n = c.nodes i j is in
      let b = used_alike v w same j n.1 n.3 in
      (n.0, b.0, n.2, b.1, n.4 ∙ b.2.kind);
  used = λ j b is. let a = used_alike w v other j b is in c.used j a.0 a.1;
  there = λ d i q is name. let n = c.there d i q is name in (n.0, n.1, n.2, n.3, sym (name_alike v w same n.0 q) ∙ n.4);
  only = λ e j q is. c.only e j q (name_alike v w same e q ∙ is);
}

pub holds_alike : (f : ℕ → Option ℕ) (v w : Tree) (P : ℕ → Node → Type 0) → IsStable P → SameTree v w → SameTree w v → HoldsFor f v P → HoldsFor f w P
holds_alike f v w P stable same other h i j b is there =
    let a = used_alike w v other j b there in
    let c = used_alike v w same j a.0 a.1 in
    let here : c.0 ≡ b = some_same c.0 b (sym c.1 ∙ there) in
    subst (λ (x : Node). P i x) here (stable i a.0 c.0 c.2 (h i j a.0 is a.1))
  where
    some_same : (x y : Node) → Some x ≡ Some y → x ≡ y
    some_same x y e = cc

-- ---- one inode changed or put

pub edit_at : (v : Tree) (j : ℕ) (change : Node → Node) (b : Node) → v j ≡ Some b → edit j change v j ≡ Some (change b)
edit_at v j change b there = ap (λ x. cond x (option_map change (v j)) (v j)) (eq-eqb j j refl) ∙ ap (option_map change) there

pub edit_off : (v : Tree) (j : ℕ) (change : Node → Node) (k : ℕ) → (k ≡ j → ⊥) → edit j change v k ≡ v k
edit_off v j change k differs = ap (λ x. cond x (option_map change (v j)) (v k)) (ne_eqb k j differs)

pub put_at : (v : Tree) (n : ℕ) (o : Option Node) → put_node n o v n ≡ o
put_at v n o = ap (λ x. cond x o (v n)) (eq-eqb n n refl)

put_off : (v : Tree) (n : ℕ) (o : Option Node) (k : ℕ) → (k ≡ n → ⊥) → put_node n o v k ≡ v k
put_off v n o k differs = ap (λ x. cond x o (v k)) (ne_eqb k n differs)

pub same_node : (a b : Node) → Some a ≡ Some b → a ≡ b
same_node a b h = cc

had : (o : Option Node) (change : Node → Node) (b : Node) → option_map change o ≡ Some b → (c : Node) × (o ≡ Some c)
had None change b h = absurd (cc)
had (Some c) change b h = (c, refl)

-- what is in use after a change was before
pub edit_used : (v : Tree) (j : ℕ) (change : Node → Node) (k : ℕ) (b : Node) → edit j change v k ≡ Some b → (c : Node) × (v k ≡ Some c)
edit_used v j change k b there = by (cases_eq k j)
  where
    by : (k ≡ j) ⊎ (k ≡ j → ⊥) → (c : Node) × (v k ≡ Some c)
    by (inl is) =
        let here : option_map change (v j) ≡ Some b = sym (ap (λ x. cond x (option_map change (v j)) (v k)) (eq-eqb k j is)) ∙ there in
        let c = had (v j) change b here in
        (c.0, ap v is ∙ c.1)
    by (inr differs) = (b, sym (edit_off v j change k differs) ∙ there)

pub put_used : (v : Tree) (n : ℕ) (o : Option Node) (k : ℕ) (b : Node) → put_node n o v k ≡ Some b → (k ≡ n) ⊎ (v k ≡ Some b)
put_used v n o k b there = by (cases_eq k n)
  where
    by : (k ≡ n) ⊎ (k ≡ n → ⊥) → (k ≡ n) ⊎ (v k ≡ Some b)
    by (inl is) = inl is
    by (inr differs) = inr (sym (put_off v n o k differs) ∙ there)

-- one copy is changed
pub holds_edit : (f : ℕ → Option ℕ) (v : Tree) (P Q : ℕ → Node → Type 0) → ((i k j : ℕ) → f i ≡ Some j → f k ≡ Some j → i ≡ k) → HoldsFor f v P → (i : ℕ) (j : ℕ) (change : Node → Node) → f i ≡ Some j
    → ((k : ℕ) (b : Node) → (k ≡ i → ⊥) → P k b → Q k b) → ((b : Node) → P i b → Q i (change b)) → HoldsFor f (edit j change v) Q
holds_edit f v P Q one h i j change is others here k m b at there = by (cases_eq m j)
  where
    by : (m ≡ j) ⊎ (m ≡ j → ⊥) → Q k b
    by (inl same) =
        let k_is : k ≡ i = one k i j (at ∙ ap (λ (x : ℕ). Some x) same) is in
        let c = edit_used v j change m b there in
        let c_at : v j ≡ Some c.0 = sym (ap v same) ∙ c.1 in
        let now : edit j change v m ≡ Some (change c.0) = ap (edit j change v) same ∙ edit_at v j change c.0 c_at in
        let b_is : change c.0 ≡ b = same_node (change c.0) b (sym now ∙ there) in
        subst (λ (x : ℕ). Q x b) (sym k_is) (subst (λ (x : Node). Q i x) b_is (here c.0 (h i j c.0 is c_at)))
    by (inr differs) =
        let was : v m ≡ Some b = sym (edit_off v j change m differs) ∙ there in
        others k b (λ k_is. differs (some_number m j (sym at ∙ ap f k_is ∙ is))) (h k m b at was)
      where
        some_number : (x y : ℕ) → Some x ≡ Some y → x ≡ y
        some_number x y e = cc

-- ---- a table with one number more

abbrev pub add : (ℕ → Option ℕ) → ℕ → ℕ → ℕ → Option ℕ
add f i n k = cond (eqb k i) (Some n) (f k)

pub add_at : (f : ℕ → Option ℕ) (i n : ℕ) → add f i n i ≡ Some n
add_at f i n = ap (λ x. cond x (Some n) (f i)) (eq-eqb i i refl)

pub add_off : (f : ℕ → Option ℕ) (i n k : ℕ) → (k ≡ i → ⊥) → add f i n k ≡ f k
add_off f i n k differs = ap (λ x. cond x (Some n) (f k)) (ne_eqb k i differs)

-- what had a number still has it
pub add_keeps : (f : ℕ → Option ℕ) (i n : ℕ) → f i ≡ None → (k j : ℕ) → f k ≡ Some j → add f i n k ≡ Some j
add_keeps f i n none k j is = add_off f i n k (λ same. let never : Some j ≡ None = sym is ∙ ap f same ∙ none in absurd (cc)) ∙ is

pub add_cases : (f : ℕ → Option ℕ) (i n k j : ℕ) → add f i n k ≡ Some j → ((k ≡ i) × (j ≡ n)) ⊎ (f k ≡ Some j)
add_cases f i n k j is = by (cases_eq k i)
  where
    by : (k ≡ i) ⊎ (k ≡ i → ⊥) → ((k ≡ i) × (j ≡ n)) ⊎ (f k ≡ Some j)
    by (inl same) = let now : Some n ≡ Some j = sym (ap (add f i n) same ∙ add_at f i n) ∙ is in inl (same, cc)
    by (inr differs) = inr (sym (add_off f i n k differs) ∙ is)

-- a new copy is put
pub holds_put : (f : ℕ → Option ℕ) (v : Tree) (P Q : ℕ → Node → Type 0) → HoldsFor f v P → ((i j : ℕ) → f i ≡ Some j → (b : Node) × (v j ≡ Some b)) → (i n : ℕ) (new : Node) → f i ≡ None → v n ≡ None
    → ((k : ℕ) (b : Node) → (k ≡ i → ⊥) → P k b → Q k b) → Q i new → HoldsFor (add f i n) (put_node n (Some new) v) Q
holds_put f v P Q h used i n new none free others here k j b at there = by (add_cases f i n k j at)
  where
    by : ((k ≡ i) × (j ≡ n)) ⊎ (f k ≡ Some j) → Q k b
    by (inl is) =
        let now : put_node n (Some new) v j ≡ Some new = ap (put_node n (Some new) v) is.1 ∙ put_at v n (Some new) in
        let b_is : new ≡ b = same_node new b (sym now ∙ there) in
        subst (λ (x : ℕ). Q x b) (sym is.0) (subst (λ (x : Node). Q i x) b_is here)
    by (inr was) =
        let c = used k j was in
        let differs : j ≡ n → ⊥ = λ same. let never : None ≡ Some c.0 = sym free ∙ ap v (sym same) ∙ c.1 in absurd (cc) in
        others k b (λ same. let never : None ≡ Some j = sym none ∙ ap f (sym same) ∙ was in absurd (cc)) (h k j b was (sym (put_off v n (Some new) j differs) ∙ there))

-- ---- one name more

-- A name was made: it stood for nothing, and stands for the copy of what it stands for in the first tree.
pub record IsNamed (t : Tree) (before after : ℕ → List ℕ → Type 0) (f g : ℕ → Option ℕ) (v w : Tree) (d i : ℕ) (q : List ℕ) (e n : ℕ) : Type 0 where
  pub keeps : (c : ℕ) (r : List ℕ) → before c r → after c r
  pub here : after d q
  pub else_was : (c : ℕ) (r : List ℕ) → after c r → before c r ⊎ ((c ≡ d) × (r ≡ q))
  pub name : name_in t d q ≡ Some i
  pub way : f d ≡ Some e
  pub on : (k j : ℕ) → f k ≡ Some j → g k ≡ Some j
  pub at : g i ≡ Some n
  pub sets : SetsName v e q (Some n) w
  pub free : name_in v e q ≡ None

pub key_cases : (q r : List ℕ) → (q ≡ r) ⊎ (q ≡ r → ⊥)
key_cases q r = by (pointwise eqb q r) refl
  where
    by : (b : Bool) → pointwise eqb q r ≡ b → (q ≡ r) ⊎ (q ≡ r → ⊥)
    by true e = inl ((bytes_decides q r).0 e)
    by false e = inr (λ same. let yes_it_is = (bytes_decides q r).1 same in absurd (cc))

module _ (t : Tree) (before after : ℕ → List ℕ → Type 0) (f g : ℕ → Option ℕ) (v w : Tree) (d i : ℕ) (q : List ℕ) (e n : ℕ) (c : IsCopy t before f v) (g_is : IsNamed t before after f g v w d i q e n) where
  named_there : (x k : ℕ) (r : List ℕ) → after x r → name_in t x r ≡ Some k → (y : ℕ) × (j : ℕ) × (g x ≡ Some y) × (g k ≡ Some j) × (name_in w y r ≡ Some j)
  named_there x k r is name = by (g_is.else_was x r is)
    where
      by : before x r ⊎ ((x ≡ d) × (r ≡ q)) → (y : ℕ) × (j : ℕ) × (g x ≡ Some y) × (g k ≡ Some j) × (name_in w y r ≡ Some j)
      by (inl was) =
          let s = c.there x k r was name in
          let other : s.0 ≡ e → r ≡ q → ⊥ = λ at key. let never : Some s.1 ≡ None = sym s.4 ∙ ap (λ m. name_in v m r) at ∙ ap (name_in v e) key ∙ g_is.free in absurd (cc) in
          (s.0, s.1, g_is.on x s.0 s.2, g_is.on k s.1 s.3, g_is.sets.others s.0 r other ∙ s.4)
      by (inr is) =
          let k_is : Some i ≡ Some k = sym g_is.name ∙ sym (ap (λ m. name_in t m q) is.0) ∙ sym (ap (name_in t x) is.1) ∙ name in
          let same : i ≡ k = cc in
          (e, n, ap g is.0 ∙ g_is.on d e g_is.way, ap g (sym same) ∙ g_is.at, ap (name_in w e) is.1 ∙ g_is.sets.here)

  named_only : (y j : ℕ) (r : List ℕ) → name_in w y r ≡ Some j → (x : ℕ) × (k : ℕ) × (g x ≡ Some y) × (g k ≡ Some j) × after x r × (name_in t x r ≡ Some k)
  named_only y j r is = by (cases_eq y e) (key_cases r q)
    where
      old : (y ≡ e → r ≡ q → ⊥) → (x : ℕ) × (k : ℕ) × (g x ≡ Some y) × (g k ≡ Some j) × after x r × (name_in t x r ≡ Some k)
      old other =
          let s = c.only y j r (sym (g_is.sets.others y r other) ∙ is) in
          (s.0, s.1, g_is.on s.0 y s.2, g_is.on s.1 j s.3, g_is.keeps s.0 r s.4, s.5)

      by : (y ≡ e) ⊎ (y ≡ e → ⊥) → (r ≡ q) ⊎ (r ≡ q → ⊥) → (x : ℕ) × (k : ℕ) × (g x ≡ Some y) × (g k ≡ Some j) × after x r × (name_in t x r ≡ Some k)
      by (inr differs) key = old (λ at k. differs at)
      by (inl at) (inr differs) = old (λ a k. differs k)
      by (inl at) (inl key) =
          let now : Some n ≡ Some j = sym g_is.sets.here ∙ ap (name_in w e) (sym key) ∙ ap (λ m. name_in w m r) (sym at) ∙ is in
          let same : n ≡ j = cc in
          (d, i, g_is.on d e g_is.way ∙ ap (λ (x : ℕ). Some x) (sym at), g_is.at ∙ ap (λ (x : ℕ). Some x) same, subst (λ (x : List ℕ). after d x) (sym key) g_is.here, ap (name_in t d) key ∙ g_is.name)

-- the same inodes with one name more
pub copy_linked : (t : Tree) (before after : ℕ → List ℕ → Type 0) (f : ℕ → Option ℕ) (v w : Tree) (d i : ℕ) (q : List ℕ) (e n : ℕ) → IsCopy t before f v → IsNamed t before after f f v w d i q e n → StaysInUse v w
    → ((j : ℕ) (b : Node) → w j ≡ Some b → (a : Node) × (v j ≡ Some a)) → IsCopy t after f w
copy_linked t before after f v w d i q e n c named stays were = record {
  root = c.root;
  one = c.one;
  nodes = λ k j is.
      let s = c.nodes k j is in
      let b = stays.stays j s.1 s.3 in
      (s.0, b.0, s.2, b.1, s.4 ∙ b.2);
  used = λ j b is. let a = were j b is in c.used j a.0 a.1;
  there = named_there t before after f f v w d i q e n c named;
  only = named_only t before after f f v w d i q e n c named;
}

-- one inode more with its first name
pub copy_created : (t : Tree) (before after : ℕ → List ℕ → Type 0) (f : ℕ → Option ℕ) (v w : Tree) (d i : ℕ) (q : List ℕ) (e n : ℕ) → IsCopy t before f v → IsNamed t before after f (add f i n) v w d i q e n → StaysInUse v w
    → f i ≡ None → v n ≡ None → (a b : Node) → t i ≡ Some a → w n ≡ Some b → a.kind ≡ b.kind
    → ((j : ℕ) (b : Node) → w j ≡ Some b → (j ≡ n) ⊎ ((a : Node) × (v j ≡ Some a))) → IsCopy t after (add f i n) w
copy_created t before after f v w d i q e n c named stays none free a b shows new kind were = record {
  root = add_keeps f i n none 1 1 c.root;
  one = λ k m j is at. one k m j (add_cases f i n k j is) (add_cases f i n m j at);
  nodes = λ k j is. nodes k j (add_cases f i n k j is);
  used = λ j x is. used j (were j x is);
  there = named_there t before after f (add f i n) v w d i q e n c named;
  only = named_only t before after f (add f i n) v w d i q e n c named;
}
  where
    -- no copy has the new number
    off_new : (k j : ℕ) → f k ≡ Some j → j ≡ n → ⊥
    off_new k j is same = let s = c.nodes k j is in let never : None ≡ Some s.1 = sym free ∙ ap v (sym same) ∙ s.3 in cc

    one : (k m j : ℕ) → ((k ≡ i) × (j ≡ n)) ⊎ (f k ≡ Some j) → ((m ≡ i) × (j ≡ n)) ⊎ (f m ≡ Some j) → k ≡ m
    one k m j (inl x) (inl y) = x.0 ∙ sym y.0
    one k m j (inl x) (inr y) = absurd (off_new m j y x.1)
    one k m j (inr x) (inl y) = absurd (off_new k j x y.1)
    one k m j (inr x) (inr y) = c.one k m j x y

    nodes : (k j : ℕ) → ((k ≡ i) × (j ≡ n)) ⊎ (f k ≡ Some j) → (x : Node) × (y : Node) × (t k ≡ Some x) × (w j ≡ Some y) × (x.kind ≡ y.kind)
    nodes k j (inl is) = (a, b, ap t is.0 ∙ shows, ap w is.1 ∙ new, kind)
    nodes k j (inr is) =
        let s = c.nodes k j is in
        let r = stays.stays j s.1 s.3 in
        (s.0, r.0, s.2, r.1, s.4 ∙ r.2)

    used : (j : ℕ) → (j ≡ n) ⊎ ((x : Node) × (v j ≡ Some x)) → (k : ℕ) × (add f i n k ≡ Some j)
    used j (inl is) = (i, add_at f i n ∙ ap (λ (x : ℕ). Some x) (sym is))
    used j (inr is) = let s = c.used j is.0 is.1 in (s.0, add_keeps f i n none s.0 j s.1)

-- ---- a change that leaves names and kind

pub copy_edited : (t : Tree) (made : ℕ → List ℕ → Type 0) (f : ℕ → Option ℕ) (v w : Tree) → IsCopy t made f v → StaysInUse v w → ((j : ℕ) (b : Node) → w j ≡ Some b → (a : Node) × (v j ≡ Some a))
    → ((e : ℕ) (q : List ℕ) → name_in w e q ≡ name_in v e q) → IsCopy t made f w
copy_edited t made f v w c stays were names = record {
  root = c.root;
  one = c.one;
  nodes = λ k j is.
      let s = c.nodes k j is in
      let b = stays.stays j s.1 s.3 in
      (s.0, b.0, s.2, b.1, s.4 ∙ b.2);
  used = λ j b is. let a = were j b is in c.used j a.0 a.1;
  there = λ d i q is name. let s = c.there d i q is name in (s.0, s.1, s.2, s.3, names s.0 q ∙ s.4);
  only = λ e j q is. c.only e j q (sym (names e q) ∙ is);
}
