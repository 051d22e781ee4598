-- Texts one behind another.
use Rattle.std.proofs.Common.{◌≡◌, ◌∙◌, ◌+◌, ◌<◌, ℕ, Bool, List, [], ◌∷◌, ◌++◌, length, get_or, map, flat_map, take, refl, sym, ap, subst, append_assoc, append-nil, add-one}
use Rattle.std.proofs.Math.Seq.{take-suc}
use Rattle.std.proofs.lemmas.List.{map-append}
use Rattle.nv_tree.specs.Tree.{Tree}
use Rattle.nv_difference.specs.Difference.{AreAllVisited, IsDifference}
use Rattle.nv_difference.specs.Inodes.{IsInodeText}
use Rattle.nv_difference.specs.Names.{IsVisitText}
use Rattle.nv_difference.specs.Pairs.{Both}
use Rattle.nv_difference.specs.Texts.{Adds, AreTexts}

texts_snoc : {B : Type 0} (IsText : B → List ℕ → Type 0) (xs : List B) (x : B) (text more : List ℕ) → AreTexts IsText xs text → IsText x more → AreTexts IsText (xs ++ x ∷ []) (text ++ more)
texts_snoc IsText [] x text more are is = (more, [], is, refl, ap (λ t. t ++ more) are ∙ sym (append-nil more))
texts_snoc IsText (y ∷ xs) x text more are is = (are.0, are.1 ++ more, are.2, texts_snoc IsText xs x are.1 more are.3 is, ap (λ t. t ++ more) are.4 ∙ append_assoc are.0 are.1 more)

flat_snoc : {B C : Type 0} (g : B → List C) (xs : List B) (x : B) → flat_map g (xs ++ x ∷ []) ≡ flat_map g xs ++ g x
flat_snoc g [] x = append-nil (g x)
flat_snoc g (y ∷ xs) x = ap (λ l. g y ++ l) (flat_snoc g xs x) ∙ sym (append_assoc (g y) (flat_map g xs) (g x))

-- nothing is added of none
pub none_told : {B : Type 0} (IsText : B → List ℕ → Type 0) (old : List ℕ) → Adds (AreTexts IsText []) old old
none_told IsText old = ([], refl, sym (append-nil old))

-- a list with the next one
with_next : {A B : Type 0} (f : A → B) (list : List A) (k : ℕ) (d : A) → k < length list → map f (take (k + 1) list) ≡ map f (take k list) ++ f (get_or list k d) ∷ []
with_next f list k d below = ap (λ (n : ℕ). map f (take n list)) (add-one k) ∙ ap (map f) (take-suc list k d below) ∙ map-append f (take k list) (get_or list k d ∷ [])

-- the text of the next one of a list
pub next_told : {A B : Type 0} (IsText : B → List ℕ → Type 0) (f : A → B) (list : List A) (k : ℕ) (d : A) (start old new : List ℕ) → k < length list
    → Adds (AreTexts IsText (map f (take k list))) start old → Adds (IsText (f (get_or list k d))) old new → Adds (AreTexts IsText (map f (take (k + 1) list))) start new
next_told {A} {B} IsText f list k d start old new below a b = subst (λ (l : List B). Adds (AreTexts IsText l) start new) (sym (with_next f list k d below))
    (a.0 ++ b.0, texts_snoc IsText (map f (take k list)) (f (get_or list k d)) a.0 b.0 a.1 b.1, b.2 ∙ ap (λ t. t ++ b.0) a.2 ∙ append_assoc start a.0 b.0)

-- what the next one of a list leads to
pub next_led : {A B C : Type 0} (g : B → List C) (f : A → B) (list : List A) (k : ℕ) (d : A) (start mid new : List C) → k < length list
    → mid ≡ start ++ flat_map g (map f (take k list)) → new ≡ mid ++ g (f (get_or list k d)) → new ≡ start ++ flat_map g (map f (take (k + 1) list))
next_led {A} {B} {C} g f list k d start mid new below so_far more =
    let x = f (get_or list k d) in
    let rest : flat_map g (map f (take (k + 1) list)) ≡ flat_map g (map f (take k list)) ++ g x =
    ap (flat_map g) (with_next f list k d below) ∙ flat_snoc g (map f (take k list)) x in
    more ∙ ap (λ (l : List C). l ++ g x) so_far ∙ append_assoc start (flat_map g (map f (take k list))) (g x) ∙ ap (λ (l : List C). start ++ l) (sym rest)

-- what is told of the roots, and then of the pairs
pub whole_told : (t u : Tree) (visits : List (Both × Bool)) (old mid new : List ℕ) → old ≡ [] → Adds (IsInodeText [] (t 1) (u 1)) old mid → AreAllVisited t u visits → Adds (AreTexts (IsVisitText t u) visits) mid new
    → IsDifference t u new
whole_told t u visits old mid new none_yet a all b = (a.0, visits, b.0, a.1, all, b.1, b.2 ∙ ap (λ l. l ++ b.0) (a.2 ∙ ap (λ l. l ++ a.0) none_yet))
