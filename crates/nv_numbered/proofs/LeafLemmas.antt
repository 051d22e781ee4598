-- A leaf counts its words that aren't 0, as they come and go, and leaves with their counts stay together.
use Rattle.std.proofs.Common.{◌≡◌, ◌≢◌, ℕ, ◌+◌, ◌-◌, ◌*◌, ◌<◌, ◌≤◌, cond, List, [], ◌∷◌, length, get_or, set, replicate, count_by, refl, sym, ap, ◌∙◌, inl, inr, arith, length-set}
use Rattle.std.proofs.lemmas.Bool.{cases_eq}
use Rattle.std.proofs.lemmas.Bool.Decides.{nat_tests}
use Rattle.std.proofs.lemmas.List.{ext_get_or, get_or-replicate, length-replicate, get_or-set_other, get_or_past}
use Rattle.std.proofs.lemmas.List.Sums.{sum_by-set, get_or-le-sum_by}
use Rattle.std.proofs.lemmas.List.Folds.{sum_by-replicate}
use Rattle.std.proofs.lemmas.Grind.{get_or-set_at}
use Rattle.nv_numbered.specs.Leaved.{is_some_word, IsLeaf, AreLeaves}

-- how many words that aren't 0 a word is
abbrev one_of : ℕ → ℕ
one_of word = cond (is_some_word word) 1 0

none_of : (word : ℕ) → word ≡ 0 → one_of word ≡ 0
none_of word none = ap one_of none

some_of : (word : ℕ) → word ≢ 0 → one_of word ≡ 1
some_of word some = grind (arith, nat_tests)

no_word : (word : ℕ) → one_of word ≡ 0 → word ≡ 0
no_word word none = elim (cases_eq word 0) [
  | inl same ↦ same
  | inr differs ↦ absurd (omega (arith, none, some_of word differs))
]

count-set : (words : List ℕ) (j w : ℕ) → j < length words → count_by is_some_word (set words j w) + one_of (get_or words j 0) ≡ count_by is_some_word words + one_of w
count-set words j w inside = sum_by-set one_of words j w 0 inside

-- words of which none is counted are 0
all_zeros : (words : List ℕ) (n : ℕ) → length words ≡ n → count_by is_some_word words ≡ 0 → words ≡ replicate n 0
all_zeros words n long none = ext_get_or 0 words (replicate n 0) (long ∙ sym (length-replicate {A = ℕ} n 0)) (λ k inside.
    let most : one_of (get_or words k 0) ≤ count_by is_some_word words = get_or-le-sum_by one_of words k 0 inside in
    no_word (get_or words k 0) (omega (arith, most, none)) ∙ sym (get_or-replicate n k 0 0 (omega (arith, inside, long))))

pub no_words : (words : List ℕ) → length words ≡ 0 → words ≡ []
no_words [] none = refl
no_words (x ∷ words) none = absurd (omega (arith, none))

pub IsLeaf-bare : IsLeaf [] 0
IsLeaf-bare = record { counted = refl; made = λ some. absurd (omega (arith, some)); bare = λ none. refl }

-- a leaf has words where a word of it isn't 0
pub leaf_some : (words : List ℕ) (n j : ℕ) → IsLeaf words n → get_or words j 0 ≢ 0 → 0 < n
leaf_some words n j leaf some = elim (cases_eq n 0) [
  | inl none ↦ absurd (some (get_or_past words j 0 (omega (arith, leaf.bare none))))
  | inr differs ↦ omega (arith, differs)
]

-- the first word of a leaf
pub IsLeaf-first : (j w : ℕ) → j < 4096 → w ≢ 0 → IsLeaf (set (replicate 4096 0) j w) 1
IsLeaf-first j w inside some =
    let long = length-replicate {A = ℕ} 4096 0 in
    let counted = count-set (replicate 4096 0) j w (omega (arith, inside, long)) in
    let none : count_by is_some_word (replicate 4096 0) ≡ 4096 * one_of 0 = sum_by-replicate one_of 4096 0 in
    let was = none_of (get_or (replicate 4096 0) j 0) (get_or-replicate 4096 j 0 0 inside) in
    let is = some_of w some in
    record { counted = omega (arith, counted, none, was, is); made = λ more. length-set (replicate 4096 0) j w ∙ long; bare = λ never. absurd (omega (arith, never)) }

module _ (words : List ℕ) (n j w : ℕ) (leaf : IsLeaf words n) (made : 0 < n) (inside : j < 4096) where
  long : length words ≡ 4096
  long = leaf.made made

  counted : count_by is_some_word (set words j w) + one_of (get_or words j 0) ≡ n + one_of w
  counted = let c = count-set words j w (omega (arith, inside, long)) in omega (arith, c, leaf.counted)

  as_long : length (set words j w) ≡ 4096
  as_long = length-set words j w ∙ long

  -- one more word
  pub IsLeaf-more : get_or words j 0 ≡ 0 → w ≢ 0 → IsLeaf (set words j w) (n + 1)
  IsLeaf-more vacant some =
      record { counted = (let was = none_of (get_or words j 0) vacant in let is = some_of w some in omega (arith, counted, was, is)); made = λ more. as_long; bare = λ never. absurd (omega (arith, never)) }

  -- another word
  pub IsLeaf-replace : get_or words j 0 ≢ 0 → w ≢ 0 → IsLeaf (set words j w) n
  IsLeaf-replace taken some =
      record { counted = (let was = some_of (get_or words j 0) taken in let is = some_of w some in omega (arith, counted, was, is)); made = λ more. as_long; bare = λ never. absurd (omega (arith, never, made)) }

  -- one word less
  pub IsLeaf-less : get_or words j 0 ≢ 0 → w ≡ 0 → 1 < n → IsLeaf (set words j w) (n - 1)
  IsLeaf-less taken none more =
      record { counted = (let was = some_of (get_or words j 0) taken in let is = none_of w none in omega (arith, counted, was, is)); made = λ still. as_long; bare = λ never. absurd (omega (arith, never, more)) }

  -- the last word goes
  pub zeros_left : get_or words j 0 ≢ 0 → w ≡ 0 → n ≡ 1 → set words j w ≡ replicate 4096 0
  zeros_left taken none one =
      let was = some_of (get_or words j 0) taken in
      let is = none_of w none in
      all_zeros (set words j w) 4096 as_long (omega (arith, counted, was, is, one))

module _ (leaves : List (List ℕ)) (used : List ℕ) (len : ℕ) (are : AreLeaves leaves used len) where
  -- a leaf and its count
  pub AreLeaves-set : (k : ℕ) (words : List ℕ) (n : ℕ) → k < length leaves → IsLeaf words n → AreLeaves (set leaves k words) (set used k n) len
  AreLeaves-set k words n inside leaf =
      record {
        as_many = length-set used k n ∙ are.as_many ∙ sym (length-set leaves k words);
        each = λ i low. elim (cases_eq i k) [
          | inl same ↦ rw (get_or-set_at leaves k i words [] same inside, get_or-set_at used k i n 0 same (omega (arith, inside, are.as_many))) leaf
          | inr differs ↦ rw (get_or-set_other leaves k i words [] differs, get_or-set_other used k i n 0 differs) (are.each i (omega (arith, low, length-set leaves k words)))
        ];
        reach = omega (arith, are.reach, length-set leaves k words);
        few = omega (arith, are.few, length-set leaves k words);
      }

  -- a leaf alone, whose count stays
  pub AreLeaves-write : (k : ℕ) (words : List ℕ) → k < length leaves → IsLeaf words (get_or used k 0) → AreLeaves (set leaves k words) used len
  AreLeaves-write k words inside leaf =
      record {
        as_many = are.as_many ∙ sym (length-set leaves k words);
        each = λ i low. elim (cases_eq i k) [
          | inl same ↦ rw (get_or-set_at leaves k i words [] same inside) (rw (sym same) at leaf)
          | inr differs ↦ rw (get_or-set_other leaves k i words [] differs) (are.each i (omega (arith, low, length-set leaves k words)))
        ];
        reach = omega (arith, are.reach, length-set leaves k words);
        few = omega (arith, are.few, length-set leaves k words);
      }
