-- One entry more.
use Rattle.std.proofs.Common.{◌≡◌, Bool, true, false, cond, List, [], ◌∷◌, ◌++◌, refl, ap, ◌∙◌, Option, Some, None, unwrap_or, filter, append-nil}
use Rattle.std.specs.List.{filter_map, cons_option}
use Rattle.std.proofs.lemmas.List.Elements.{filter_map-append, filter-append}
use Rattle.nv_super.specs.declared.superblock.Super.{Super}
use Rattle.nv_super.specs.declared.kind.Kind.{Kind}
use Rattle.nv_entry.specs.Content.{is_good}
use Rattle.nv_logpage.specs.declared.found.Placed.{Placed}
use Rattle.nv_logpage.specs.Good.{good_entries}
use Rattle.nv_scan.specs.LastWord.{last_or, last_word}
use Rattle.nv_scan.specs.Fold.{word_after}

last_or-append : {V : Type 0} (d : V) (xs ys : List V) → last_or d (xs ++ ys) ≡ last_or (last_or d xs) ys
last_or-append d [] ys = refl
last_or-append d (x ∷ xs) ys = last_or-append x xs ys

last_or-option : {V : Type 0} (d : V) (o : Option V) → last_or d (cons_option o []) ≡ unwrap_or o d
last_or-option d None = refl
last_or-option d (Some v) = refl

-- The last word after one element more: its own, or the one before where it says nothing.
pub last_word-more : {A V : Type 0} (says : A → Option V) (d : V) (xs : List A) (x : A) → last_word says d (xs ++ x ∷ []) ≡ unwrap_or (says x) (last_word says d xs)
last_word-more says d xs x =
    ap (last_or d) (filter_map-append says xs (x ∷ [])) ∙ last_or-append d (filter_map says xs) (cons_option (says x) []) ∙ last_or-option (last_or d (filter_map says xs)) (says x)

-- The last word over two lists.
pub last_word-append : {A V : Type 0} (says : A → Option V) (d : V) (xs ys : List A) → last_word says d (xs ++ ys) ≡ last_word says (last_word says d xs) ys
last_word-append says d xs ys = ap (last_or d) (filter_map-append says xs ys) ∙ last_or-append d (filter_map says xs) (filter_map says ys)

-- the last word over a list with one element in front
pub last_word-cons : {A V : Type 0} (says : A → Option V) (d : V) (x : A) (xs : List A) → last_word says d (x ∷ xs) ≡ last_word says (unwrap_or (says x) d) xs
last_word-cons {A} {V} says d x xs = elim (says x) as (λ (o : Option V). last_or d (cons_option o (filter_map says xs)) ≡ last_word says (unwrap_or o d) xs) [ None ↦ refl | Some u ↦ refl ]

filter-one : {A : Type 0} (test : A → Bool) (x : A) (b : Bool) → test x ≡ b → filter test (x ∷ []) ≡ cond b (x ∷ []) []
filter-one test x true h = rw h refl
filter-one test x false h = rw h refl

-- a good entry more
pub good_entries-more : (s : Super) (k : Kind) (es : List Placed) (x : Placed) → is_good s k x.entry ≡ true → good_entries s k (es ++ x ∷ []) ≡ good_entries s k es ++ x ∷ []
good_entries-more s k es x h = filter-append (λ (y : Placed). is_good s k y.entry) es (x ∷ []) ∙ ap (λ (ys : List Placed). good_entries s k es ++ ys) (filter-one (λ (y : Placed). is_good s k y.entry) x true h)

-- an entry more that isn't good
pub good_entries-skip : (s : Super) (k : Kind) (es : List Placed) (x : Placed) → is_good s k x.entry ≡ false → good_entries s k (es ++ x ∷ []) ≡ good_entries s k es
good_entries-skip s k es x h = filter-append (λ (y : Placed). is_good s k y.entry) es (x ∷ []) ∙ ap (λ (ys : List Placed). good_entries s k es ++ ys) (filter-one (λ (y : Placed). is_good s k y.entry) x false h) ∙ append-nil (good_entries s k es)

-- the last word of the good entries, after one entry more
pub word-more : {V : Type 0} (says : Placed → Option V) (d : V) (s : Super) (k : Kind) (es : List Placed) (x : Placed) (good : Bool) → is_good s k x.entry ≡ good
    → last_word says d (good_entries s k (es ++ x ∷ [])) ≡ word_after good (says x) (last_word says d (good_entries s k es))
word-more says d s k es x true h = ap (last_word says d) (good_entries-more s k es x h) ∙ last_word-more says d (good_entries s k es) x
word-more says d s k es x false h = ap (last_word says d) (good_entries-skip s k es x h)

-- the same, after more entries
pub words-more : {V : Type 0} (says : Placed → Option V) (d : V) (s : Super) (k : Kind) (es more : List Placed) → last_word says d (good_entries s k (es ++ more)) ≡ last_word says (last_word says d (good_entries s k es)) (good_entries s k more)
words-more says d s k es more = ap (last_word says d) (filter-append (λ (y : Placed). is_good s k y.entry) es more) ∙ last_word-append says d (good_entries s k es) (good_entries s k more)
