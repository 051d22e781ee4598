-- What names stand for after one name of one directory was set.
use Rattle.std.proofs.Common.{◌≡◌, ℕ, ◌⊎◌, Bool, true, false, cond, eqb, List, Option, Some, None, refl, sym, ◌∙◌, ap, subst, inl, inr}
use Rattle.std.specs.Option.{option_and_then, option_map}
use Rattle.std.specs.Cmp.Lexicographic.{pointwise, bytes_decides}
use Rattle.std.proofs.lemmas.Bool.{cases_eq, eq-eqb, ne_eqb}
use Rattle.nv_tree.specs.Tree.{Node, Tree, name_in}
use Rattle.nv_tree.specs.Calls.{put_node, edit, with_name, without_name}
use Rattle.nv_tree.specs.Laws.{SetsName}

-- what a name of an inode stands for, where it is in use
abbrev named : List ℕ → Option Node → Option ℕ
named name o = option_and_then (λ (node : Node). node.names name) o

-- ---- names as keys

pub at_key : (name : List ℕ) → pointwise eqb name name ≡ true
at_key name = (bytes_decides name name).1 refl

pub off_key : (q name : List ℕ) → (q ≡ name → ⊥) → pointwise eqb q name ≡ false
off_key q name ne = by (pointwise eqb q name) refl
  where
    by : (b : Bool) → pointwise eqb q name ≡ b → b ≡ false
    by true e = absurd (ne ((bytes_decides q name).0 e))
    by false e = refl

-- ---- an inode put

at_put : (t : Tree) (i : ℕ) (o : Option Node) (q : List ℕ) → name_in (put_node i o t) i q ≡ named q o
at_put t i o q = ap (λ b. named q (cond b o (t i))) (eq-eqb i i refl)

off_put : (t : Tree) (i : ℕ) (o : Option Node) (e : ℕ) (q : List ℕ) → (e ≡ i → ⊥) → name_in (put_node i o t) e q ≡ name_in t e q
off_put t i o e q ne = ap (λ b. named q (cond b o (t e))) (ne_eqb e i ne)

-- where the inode's names are as before, all names are
pub put_same : (t : Tree) (i : ℕ) (o : Option Node) → ((q : List ℕ) → option_and_then (λ (node : Node). node.names q) o ≡ name_in t i q) → (e : ℕ) (q : List ℕ) → name_in (put_node i o t) e q ≡ name_in t e q
put_same t i o h e q = by (cases_eq e i)
  where
    by : (e ≡ i) ⊎ (e ≡ i → ⊥) → name_in (put_node i o t) e q ≡ name_in t e q
    by (inl is) = subst (λ k. name_in (put_node i o t) k q ≡ name_in t k q) (sym is) (at_put t i o q ∙ h q)
    by (inr ne) = off_put t i o e q ne

mapped_same : (f : Node → Node) (q : List ℕ) → ((a : Node) → (f a).names q ≡ a.names q) → (o : Option Node) → named q (option_map f o) ≡ named q o
mapped_same f q h None = refl
mapped_same f q h (Some a) = h a

pub edit_same : (t : Tree) (i : ℕ) (f : Node → Node) → ((a : Node) (q : List ℕ) → (f a).names q ≡ a.names q) → (e : ℕ) (q : List ℕ) → name_in (edit i f t) e q ≡ name_in t e q
edit_same t i f h e q = put_same t i (option_map f (t i)) (λ r. mapped_same f r (λ a. h a r) (t i)) e q

-- What a change of one inode leaves of each, all show as before.
pub edit_leaves : {A : Type 0} (p : Node → A) (t : Tree) (d : ℕ) (f : Node → Node) → ((a : Node) → p (f a) ≡ p a) → (k : ℕ) → option_map p (edit d f t k) ≡ option_map p (t k)
edit_leaves p t d f leaves k = by (cases_eq k d)
  where
    mapped : (o : Option Node) → option_map p (option_map f o) ≡ option_map p o
    mapped None = refl
    mapped (Some a) = ap (λ x. Some x) (leaves a)

    by : (k ≡ d) ⊎ (k ≡ d → ⊥) → option_map p (edit d f t k) ≡ option_map p (t k)
    by (inl is) = ap (λ b. option_map p (cond b (option_map f (t d)) (t k))) (eq-eqb k d is) ∙ mapped (t d) ∙ ap (λ e. option_map p (t e)) (sym is)
    by (inr ne) = ap (λ b. option_map p (cond b (option_map f (t d)) (t k))) (ne_eqb k d ne)

-- a change of one inode that sets one name
edit_sets : (t : Tree) (d : ℕ) (f : Node → Node) (name : List ℕ) (to : Option ℕ) → option_and_then (λ (node : Node). node.names name) (option_map f (t d)) ≡ to
    → ((a : Node) (q : List ℕ) → (q ≡ name → ⊥) → (f a).names q ≡ a.names q) → SetsName t d name to (edit d f t)
edit_sets t d f name to here others = record {
  here = at_put t d (option_map f (t d)) name ∙ here;
  others = λ e q ne. by e q ne (cases_eq e d);
}
  where
    by : (e : ℕ) (q : List ℕ) → (e ≡ d → q ≡ name → ⊥) → (e ≡ d) ⊎ (e ≡ d → ⊥) → name_in (edit d f t) e q ≡ name_in t e q
    by e q ne (inl is) = subst (λ k. name_in (edit d f t) k q ≡ name_in t k q) (sym is) (at_put t d (option_map f (t d)) q ∙ mapped_same f q (λ a. others a q (ne is)) (t d))
    by e q ne (inr differs) = off_put t d (option_map f (t d)) e q differs

pub name_set : (t : Tree) (d : ℕ) (a : Node) (name : List ℕ) (i time : ℕ) → t d ≡ Some a → SetsName t d name (Some i) (edit d (with_name name i time) t)
name_set t d a name i time used = edit_sets t d (with_name name i time) name (Some i)
    (ap (λ o. named name (option_map (with_name name i time) o)) used ∙ ap (λ b. cond b (Some i) (a.names name)) (at_key name))
    (λ b q ne. ap (λ v. cond v (Some i) (b.names q)) (off_key q name ne))

pub name_cut : (t : Tree) (d : ℕ) (name : List ℕ) (time : ℕ) → SetsName t d name None (edit d (without_name name time) t)
name_cut t d name time = edit_sets t d (without_name name time) name None (here (t d))
    (λ b q ne. ap (λ v. cond v None (b.names q)) (off_key q name ne))
  where
    here : (o : Option Node) → named name (option_map (without_name name time) o) ≡ None
    here None = refl
    here (Some a) = ap (λ b. cond b None (a.names name)) (at_key name)

-- a step before that leaves all names
pub set_after : (t s u : Tree) (d : ℕ) (name : List ℕ) (to : Option ℕ) → ((e : ℕ) (q : List ℕ) → name_in s e q ≡ name_in t e q) → SetsName s d name to u → SetsName t d name to u
set_after t s u d name to same h = record {
  here = h.here;
  others = λ e q ne. h.others e q ne ∙ same e q;
}
