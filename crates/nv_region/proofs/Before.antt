-- The words at the last fence, by the rows of lines that were stored to since.
use Rattle.std.proofs.Common.{◌≡◌, ◌≢◌, ◌+◌, ◌-◌, ◌*◌, ◌/◌, ◌<◌, ◌≤◌, ◌||◌, ◌⊎◌, inl, inr, ℕ, zero, suc, Bool, true, false, if◌then◌else◌, List, [], ◌∷◌, ◌++◌, length, min, get_or, take, drop, refl, sym, ap, ◌∙◌, subst, arith}
use Rattle.std.specs.List.{list_any, Contains}
use Rattle.std.specs.List.Sorted.{IsPermutation}
use Rattle.std.proofs.lemmas.Bool.{cases_eq, cases_lt}
use Rattle.std.proofs.lemmas.List.{ext_get_or, get_or_past, get_or_append_left, get_or-append-add, get_or-take, get_or-drop}
use Rattle.std.proofs.lemmas.List.FromFn.{get_or-map-range_with_len, length-map-range_with_len}
use Rattle.std.proofs.lemmas.List.Sorted.{Contains-permutation, list_any-IsPermutation}
use Rattle.nv_region.specs.StoredLines.{Noted, holds, is_stored, word_before, words_before}
use Rattle.nv_region.specs.Marks.{AreKept}
use Rattle.nv_region.specs.Recent.{taken_back}
use Rattle.nv_region.specs.declared.recent.StoredWord.{StoredWord}
use Rattle.nv_region.specs.declared.stored.StoredRow.{StoredRow}
use Rattle.nv_region.proofs.Rows.{Has, IsFound, found, has_holds, holds_has, not_held, row_in, no_row, stands, tail_kept, head_lacks}
use Rattle.nv_region.proofs.Marks.{permuted_kept}

pub length-words_before : (rows : List StoredRow) (kept words : List ℕ) → length (words_before rows kept words) ≡ length words
unfolding words_before
length-words_before rows kept words = length-map-range_with_len (word_before rows kept words) 0 (length words)

pub get_or-words_before : (rows : List StoredRow) (kept words : List ℕ) (i : ℕ) → i < length words → get_or (words_before rows kept words) i 0 ≡ word_before rows kept words i
unfolding words_before
get_or-words_before rows kept words i within = get_or-map-range_with_len (word_before rows kept words) 0 (length words) i i 0 within (omega arith)

-- these are the words before, where each word is
pub are_before : (rows : List StoredRow) (kept words made : List ℕ) → length made ≡ length words → ((i : ℕ) → i < length words → get_or made i 0 ≡ word_before rows kept words i) → made ≡ words_before rows kept words
are_before rows kept words made as_long each = ext_get_or 0 made (words_before rows kept words) (as_long ∙ sym (length-words_before rows kept words)) (λ i within.
    let inside : i < length words = omega (arith, within, as_long) in each i inside ∙ sym (get_or-words_before rows kept words i inside))

-- two lists of words have the same words before, where each word has
pub same_before : (rows others : List StoredRow) (kept more words after : List ℕ) → length after ≡ length words → ((i : ℕ) → i < length words → word_before others more after i ≡ word_before rows kept words i) → words_before others more after ≡ words_before rows kept words
same_before rows others kept more words after as_long each = are_before rows kept words (words_before others more after) (length-words_before others more after ∙ as_long) (λ i within. get_or-words_before others more after i (omega (arith, within, as_long)) ∙ each i within)

-- where no line was stored to, the words are as they were
pub none_before : (kept words : List ℕ) → words_before [] kept words ≡ words
none_before kept words = sym (are_before [] kept words words refl (λ i within. refl))

-- a word of no line that was stored to is as it was
pub not_stored : (rows : List StoredRow) (kept words : List ℕ) (i : ℕ) → list_any (λ row. holds row (i / 8)) rows ≡ false → word_before rows kept words i ≡ get_or words i 0
not_stored [] kept words i none = refl
not_stored (row ∷ rows) kept words i none = by (not_stored rows kept words i) (holds row (i / 8)) none where
  by : (list_any (λ r. holds r (i / 8)) rows ≡ false → word_before rows kept words i ≡ get_or words i 0) → (b : Bool) → (b || list_any (λ r. holds r (i / 8)) rows) ≡ false
      → (if b then get_or kept (row.at + (i - 8 * row.first)) 0 else word_before rows kept words i) ≡ get_or words i 0
  by further true h = cc
  by further false h = further h

-- what becomes of words in lines that were stored to changes nothing
pub kept_before : (rows : List StoredRow) (kept words after : List ℕ) (i : ℕ) → (list_any (λ row. holds row (i / 8)) rows ≡ false → get_or after i 0 ≡ get_or words i 0) → word_before rows kept after i ≡ word_before rows kept words i
kept_before [] kept words after i same = same refl
kept_before (row ∷ rows) kept words after i same = by (kept_before rows kept words after i) (holds row (i / 8)) same where
  by : ((list_any (λ r. holds r (i / 8)) rows ≡ false → get_or after i 0 ≡ get_or words i 0) → word_before rows kept after i ≡ word_before rows kept words i) → (b : Bool)
      → ((b || list_any (λ r. holds r (i / 8)) rows) ≡ false → get_or after i 0 ≡ get_or words i 0)
      → (if b then get_or kept (row.at + (i - 8 * row.first)) 0 else word_before rows kept after i) ≡ (if b then get_or kept (row.at + (i - 8 * row.first)) 0 else word_before rows kept words i)
  by further true h = refl
  by further false h = further h

-- a word of a line that was stored to before
pub again_here : (rows : List StoredRow) (kept words after : List ℕ) (i : ℕ) → list_any (λ row. holds row (i / 8)) rows ≡ true → word_before rows kept after i ≡ word_before rows kept words i
again_here rows kept words after i stands = kept_before rows kept words after i (λ none. absurd (cc (stands, none)))

-- words that are kept behind the others change nothing
more_kept : (total : ℕ) (rows : List StoredRow) (kept more words : List ℕ) (i : ℕ) → AreKept total rows kept → i < total → word_before rows (kept ++ more) words i ≡ word_before rows kept words i
more_kept total [] kept more words i are within = refl
more_kept total (row ∷ rows) kept more words i are within = by (more_kept total rows kept more words i (tail_kept total kept row rows are) within) (holds row (i / 8)) refl where
  by : word_before rows (kept ++ more) words i ≡ word_before rows kept words i → (b : Bool) → holds row (i / 8) ≡ b → (if b then get_or (kept ++ more) (row.at + (i - 8 * row.first)) 0 else word_before rows (kept ++ more) words i) ≡ (if b then get_or kept (row.at + (i - 8 * row.first)) 0 else word_before rows kept words i)
  by behind true is =
      let h = holds_has row (i / 8) is in
      get_or_append_left kept more 0 (row.at + (i - 8 * row.first)) (omega (arith, h.0, h.1, within, are.within row (0, omega arith, refl)))
  by behind false is = behind

-- one row more is asked where no other has the line
word_before-append : (rows : List StoredRow) (row : StoredRow) (kept words : List ℕ) (i : ℕ)
    → word_before (rows ++ row ∷ []) kept words i ≡ (if list_any (λ r. holds r (i / 8)) rows then word_before rows kept words i else (if holds row (i / 8) then get_or kept (row.at + (i - 8 * row.first)) 0 else get_or words i 0))
word_before-append [] row kept words i = refl
word_before-append (r ∷ rows) row kept words i = by (word_before-append rows row kept words i) (holds r (i / 8)) where
  by : word_before (rows ++ row ∷ []) kept words i ≡ (if list_any (λ s. holds s (i / 8)) rows then word_before rows kept words i else (if holds row (i / 8) then get_or kept (row.at + (i - 8 * row.first)) 0 else get_or words i 0))
      → (b : Bool) → (if b then get_or kept (r.at + (i - 8 * r.first)) 0 else word_before (rows ++ row ∷ []) kept words i)
      ≡ (if b || list_any (λ s. holds s (i / 8)) rows then (if b then get_or kept (r.at + (i - 8 * r.first)) 0 else word_before rows kept words i) else (if holds row (i / 8) then get_or kept (row.at + (i - 8 * row.first)) 0 else get_or words i 0))
  by further true = refl
  by further false = further

-- Lines in a row whose words are kept behind the others.
module _ (total : ℕ) (rows : List StoredRow) (kept words : List ℕ) (first end : ℕ) (are : AreKept total rows kept) (all : length words ≡ total) where
  abbrev pub row : StoredRow
  row = record { first = first; end = end; at = length kept }

  abbrev pub more : List ℕ
  more = take (min (8 * end) (length words) - 8 * first) (drop (8 * first) words)

  -- a word of them, which was in no row
  pub fresh_here : (after : List ℕ) (i : ℕ) → i < length words → list_any (λ r. holds r (i / 8)) rows ≡ false → first ≤ i / 8 → i / 8 < end
      → word_before (rows ++ row ∷ []) (kept ++ more) after i ≡ get_or words i 0
  fresh_here after i within none from to =
      let place : 8 * first + (i - 8 * first) ≡ i = omega (arith, from) in
      word_before-append rows row (kept ++ more) after i
      ∙ ap (λ (b : Bool). if b then word_before rows (kept ++ more) after i else (if holds row (i / 8) then get_or (kept ++ more) (row.at + (i - 8 * row.first)) 0 else get_or after i 0)) none
      ∙ ap (λ (b : Bool). if b then get_or (kept ++ more) (row.at + (i - 8 * row.first)) 0 else get_or after i 0) (has_holds row (i / 8) from to)
      ∙ get_or-append-add kept more (i - 8 * first) 0
      ∙ get_or-take (min (8 * end) (length words) - 8 * first) (drop (8 * first) words) (i - 8 * first) 0 (omega (arith, from, to, within))
      ∙ get_or-drop (8 * first) words (i - 8 * first) 0 ∙ ap (λ (k : ℕ). get_or words k 0) place

  -- a word of another line
  pub fresh_other : (after : List ℕ) (i : ℕ) → i < length words → (first ≤ i / 8 → i / 8 < end → ⊥) → word_before (rows ++ row ∷ []) (kept ++ more) after i ≡ word_before rows kept after i
  fresh_other after i within away =
      let inside : i < total = omega (arith, within, all) in
      word_before-append rows row (kept ++ more) after i
      ∙ by (list_any (λ r. holds r (i / 8)) rows) refl
      ∙ more_kept total rows kept more after i are inside
    where
      by : (b : Bool) → list_any (λ r. holds r (i / 8)) rows ≡ b
          → (if b then word_before rows (kept ++ more) after i else (if holds row (i / 8) then get_or (kept ++ more) (row.at + (i - 8 * row.first)) 0 else get_or after i 0)) ≡ word_before rows (kept ++ more) after i
      by true stands = refl
      by false none = ap (λ (b : Bool). if b then get_or (kept ++ more) (row.at + (i - 8 * row.first)) 0 else get_or after i 0) (not_held row (i / 8) away) ∙ sym (not_stored rows (kept ++ more) after i none)

-- Once some lines in a row are noted, the words before are as they were, whatever becomes of these lines.
pub row_before : (rows noted : List StoredRow) (kept more words after : List ℕ) (first end : ℕ) → ((i : ℕ) → i < length words → first ≤ i / 8 → i / 8 < end → word_before noted more after i ≡ word_before rows kept words i)
    → ((i : ℕ) → i < length words → (first ≤ i / 8 → i / 8 < end → ⊥) → word_before noted more after i ≡ word_before rows kept after i) → length after ≡ length words
    → ((i : ℕ) → (first ≤ i / 8 → i / 8 < end → ⊥) → get_or after i 0 ≡ get_or words i 0) → words_before noted more after ≡ words_before rows kept words
row_before rows noted kept more words after first end here others as_long same = same_before rows noted kept more words after as_long (λ i within. elim (cases_lt (i / 8) first) [
  | inl low ↦ away i within (λ from to. absurd (omega (arith, low, from)))
  | inr from ↦ elim (cases_lt (i / 8) end) [ inl to ↦ here i within from to | inr past ↦ away i within (λ low to. absurd (omega (arith, past, to))) ]
])
  where
    away : (i : ℕ) → i < length words → (first ≤ i / 8 → i / 8 < end → ⊥) → word_before noted more after i ≡ word_before rows kept words i
    away i within other = others i within other ∙ kept_before rows kept words after i (λ none. same i other)

-- From one moment to another the lines of a row were noted: their words are as they were, whatever becomes of them, and of others nothing changed.
pub record AreNoted (old new : Noted) (words : List ℕ) (first end : ℕ) : Type 0 where
  pub here : (after : List ℕ) (i : ℕ) → i < length words → first ≤ i / 8 → i / 8 < end → word_before new.rows new.kept after i ≡ word_before old.rows old.kept words i
  pub others : (after : List ℕ) (i : ℕ) → i < length words → (first ≤ i / 8 → i / 8 < end → ⊥) → word_before new.rows new.kept after i ≡ word_before old.rows old.kept after i

-- so are some lines more, of which those up to one were stored to before, and those behind it not
pub more_noted : (old now new : Noted) (words : List ℕ) (first next start stop : ℕ) → first ≤ next → next ≤ start → start ≤ stop → ((p : ℕ) → next ≤ p → p < start → is_stored now p ≡ true) → ((p : ℕ) → start ≤ p → p < stop → is_stored now p ≡ false)
    → ((after : List ℕ) (i : ℕ) → i < length words → start ≤ i / 8 → i / 8 < stop → word_before new.rows new.kept after i ≡ get_or words i 0)
    → ((after : List ℕ) (i : ℕ) → i < length words → (start ≤ i / 8 → i / 8 < stop → ⊥) → word_before new.rows new.kept after i ≡ word_before now.rows now.kept after i)
    → AreNoted old now words first next → AreNoted old new words first stop
more_noted old now new words first next start stop up further order stored fresh here others was = record {
  here = λ after i within from to. elim (cases_lt (i / 8) next) [
    | inl low ↦ others after i within (λ at _. absurd (omega (arith, low, at, further))) ∙ was.here after i within from low
    | inr high ↦ elim (cases_lt (i / 8) start) [
      | inl low ↦
          others after i within (λ at _. absurd (omega (arith, low, at))) ∙ again_here now.rows now.kept words after i (stored (i / 8) high low)
          ∙ was.others words i within (λ _ at. absurd (omega (arith, high, at)))
      | inr at ↦ here after i within at to ∙ sym (not_stored now.rows now.kept words i (fresh (i / 8) at to)) ∙ was.others words i within (λ _ under. absurd (omega (arith, high, under)))
    ]
  ];
  others = λ after i within away.
      others after i within (λ at to. away (omega (arith, at, up, further)) to) ∙ was.others after i within (λ from low. away from (omega (arith, low, further, order)));
}

-- each row has its own words
pub word_at : (total : ℕ) (rows : List StoredRow) (kept words : List ℕ) (k i : ℕ) (d : StoredRow) → AreKept total rows kept → k < length rows → Has (get_or rows k d) (i / 8)
    → word_before rows kept words i ≡ get_or kept ((get_or rows k d).at + (i - 8 * (get_or rows k d).first)) 0
word_at total [] kept words k i d are low has = absurd (omega (arith, low))
word_at total (row ∷ rows) kept words zero i d are low has = ap (λ (b : Bool). if b then get_or kept (row.at + (i - 8 * row.first)) 0 else word_before rows kept words i) (has_holds row (i / 8) has.0 has.1)
word_at total (row ∷ rows) kept words (suc k) i d are low has =
    let behind : k < length rows = omega (arith, low) in
    ap (λ (b : Bool). if b then get_or kept (row.at + (i - 8 * row.first)) 0 else word_before rows kept words i) (head_lacks total kept row rows k d (i / 8) are behind has)
    ∙ word_at total rows kept words k i d (tail_kept total kept row rows are) behind has

-- which are the words before
pub row_words : (rows : List StoredRow) (kept words : List ℕ) (k i : ℕ) (d : StoredRow) → AreKept (length words) rows kept → k < length rows → i < length words → Has (get_or rows k d) (i / 8)
    → get_or kept ((get_or rows k d).at + (i - 8 * (get_or rows k d).first)) 0 ≡ get_or (words_before rows kept words) i 0
row_words rows kept words k i d are low within has = sym (get_or-words_before rows kept words i within ∙ word_at (length words) rows kept words k i d are low has)

-- rows in another order have the same words before
pub permuted_before : (total : ℕ) (rows others : List StoredRow) (kept words : List ℕ) → AreKept total rows kept → IsPermutation rows others → words_before others kept words ≡ words_before rows kept words
permuted_before total rows others kept words are moved = same_before rows others kept kept words words refl (λ i within. by i (list_any (λ row. holds row (i / 8)) rows) refl)
  where
    by : (i : ℕ) (b : Bool) → list_any (λ row. holds row (i / 8)) rows ≡ b → word_before others kept words i ≡ word_before rows kept words i
    by i true stands = there (Contains-permutation rows others (get_or rows f.k no_row) moved (row_in rows f.k no_row f.low)) where
      f : IsFound rows (i / 8)
      f = found rows (i / 8) stands

      x : StoredRow
      x = get_or rows f.k no_row

      there : Contains others x → word_before others kept words i ≡ word_before rows kept words i
      there (m, low, is) =
          let h : Has (get_or others m x) (i / 8) = subst (λ (r : StoredRow). Has r (i / 8)) (sym is) (f.has no_row) in
          word_at total others kept words m i x (permuted_kept total rows others kept are moved) low h
          ∙ ap (λ (r : StoredRow). get_or kept (r.at + (i - 8 * r.first)) 0) is ∙ sym (word_at total rows kept words f.k i no_row are f.low (f.has no_row))
    by i false none = not_stored others kept words i (sym (list_any-IsPermutation (λ row. holds row (i / 8)) rows others moved) ∙ none) ∙ sym (not_stored rows kept words i none)

-- what differs from the words before stands in a row
pub before_differ : (rows : List StoredRow) (kept words : List ℕ) (i : ℕ) → get_or words i 0 ≢ get_or (words_before rows kept words) i 0 → list_any (λ row. holds row (i / 8)) rows ≡ true
before_differ rows kept words i other = by (list_any (λ row. holds row (i / 8)) rows) refl where
  by : (b : Bool) → list_any (λ row. holds row (i / 8)) rows ≡ b → list_any (λ row. holds row (i / 8)) rows ≡ true
  by true stands = stands
  by false none = elim (cases_lt i (length words)) [
    | inl within ↦ absurd (other (sym (get_or-words_before rows kept words i within ∙ not_stored rows kept words i none)))
    | inr past ↦ absurd (other (get_or_past words i 0 past ∙ sym (get_or_past (words_before rows kept words) i 0 (omega (arith, past, length-words_before rows kept words)))))
  ]

-- so nothing is pending there
pub settled : (rows : List StoredRow) (stores : List StoredWord) (kept words : List ℕ) → rows ≡ [] → stores ≡ [] → (i x : ℕ) → (x ≡ get_or words i 0) ⊎ (x ≡ get_or (words_before rows kept (taken_back stores words)) i 0) → x ≡ get_or words i 0
settled rows stores kept words none no_store i x (inl last) = last
settled rows stores kept words none no_store i x (inr fenced) =
    fenced ∙ ap (λ (l : List StoredWord). get_or (words_before rows kept (taken_back l words)) i 0) no_store ∙ ap (λ (rs : List StoredRow). get_or (words_before rs kept words) i 0) none ∙ ap (λ (ws : List ℕ). get_or ws i 0) (none_before kept words)

-- the first so many rows are put back
pub record ArePutBack (rows : List StoredRow) (kept words : List ℕ) (k : ℕ) (made : List ℕ) : Type 0 where
  pub as_long : length made ≡ length words
  pub done : (j i : ℕ) → j < k → i < length words → Has (get_or rows j no_row) (i / 8) → get_or made i 0 ≡ word_before rows kept words i
  pub others : (i : ℕ) → ((j : ℕ) → j < k → Has (get_or rows j no_row) (i / 8) → ⊥) → get_or made i 0 ≡ get_or words i 0

-- and one more
pub row_put_back : (rows : List StoredRow) (kept words made after : List ℕ) (k : ℕ) → AreKept (length words) rows kept → k < length rows → length after ≡ length made
    → ((i : ℕ) → i < length made → (get_or rows k no_row).first ≤ i / 8 → i / 8 < (get_or rows k no_row).end → get_or after i 0 ≡ get_or kept ((get_or rows k no_row).at + (i - 8 * (get_or rows k no_row).first)) 0)
    → ((i : ℕ) → ((get_or rows k no_row).first ≤ i / 8 → i / 8 < (get_or rows k no_row).end → ⊥) → get_or after i 0 ≡ get_or made i 0)
    → ArePutBack rows kept words k made → ArePutBack rows kept words (k + 1) after
row_put_back rows kept words made after k are low as_long here others was = record {
  as_long = as_long ∙ was.as_long;
  done = λ j i less within has. by i within (holds (get_or rows k no_row) (i / 8)) refl (λ off. was.done j i (before j i less has off) within has);
  others = λ i away. others i (λ from to. away k (omega arith) (from, to)) ∙ was.others i (λ j less has. away j (omega (arith, less)) has);
}
  where
    before : (j i : ℕ) → j < k + 1 → Has (get_or rows j no_row) (i / 8) → holds (get_or rows k no_row) (i / 8) ≡ false → j < k
    before j i less has off = elim (cases_eq j k) [
      | inl same ↦ absurd (
          let on : holds (get_or rows j no_row) (i / 8) ≡ true = has_holds (get_or rows j no_row) (i / 8) has.0 has.1 in
          let no : holds (get_or rows j no_row) (i / 8) ≡ false = ap (λ (m : ℕ). holds (get_or rows m no_row) (i / 8)) same ∙ off in cc (on, no))
      | inr differ ↦ omega (arith, less, differ)
    ]

    by : (i : ℕ) → i < length words → (b : Bool) → holds (get_or rows k no_row) (i / 8) ≡ b → (holds (get_or rows k no_row) (i / 8) ≡ false → get_or made i 0 ≡ word_before rows kept words i) → get_or after i 0 ≡ word_before rows kept words i
    by i within true on _ = (let h = holds_has (get_or rows k no_row) (i / 8) on in here i (omega (arith, within, was.as_long)) h.0 h.1 ∙ sym (word_at (length words) rows kept words k i no_row are low h))
    by i within false off old = others i (λ from to. absurd (let on = has_holds (get_or rows k no_row) (i / 8) from to in cc (on, off))) ∙ old off

-- at the end all are
pub all_put_back : (rows : List StoredRow) (kept words made : List ℕ) (k : ℕ) → length rows ≤ k → ArePutBack rows kept words k made → made ≡ words_before rows kept words
all_put_back rows kept words made k end was = are_before rows kept words made was.as_long (λ i within. by i within (list_any (λ row. holds row (i / 8)) rows) refl) where
  by : (i : ℕ) → i < length words → (b : Bool) → list_any (λ row. holds row (i / 8)) rows ≡ b → get_or made i 0 ≡ word_before rows kept words i
  by i within true stands = (let f = found rows (i / 8) stands in was.done f.k i (omega (arith, f.low, end)) within (f.has no_row))
  by i within false none = was.others i (λ j less has. nowhere_none j i less has none) ∙ sym (not_stored rows kept words i none)
    where
      nowhere_none : (j i : ℕ) → j < k → Has (get_or rows j no_row) (i / 8) → list_any (λ row. holds row (i / 8)) rows ≡ false → ⊥
      nowhere_none j i less has none = elim (cases_lt j (length rows)) [
        | inl low ↦ absurd (let on = stands rows j no_row (i / 8) low has.0 has.1 in cc (on, none))
        | inr past ↦ absurd (let e : get_or rows j no_row ≡ no_row = get_or_past rows j no_row past in let f : (get_or rows j no_row).end ≡ 0 = ap (λ (r : StoredRow). r.end) e in omega (arith, f, has.1))
      ]
