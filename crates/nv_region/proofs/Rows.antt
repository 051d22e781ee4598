-- Rows of lines: which of them a line is in, and how many lines they have.
use Rattle.std.proofs.Common.{◌≡◌, ◌+◌, ◌-◌, ◌*◌, ◌/◌, ◌<◌, ◌≤◌, ◌||◌, ◌&&◌, ◌⊎◌, inl, inr, ℕ, zero, suc, Bool, true, false, eqb, List, [], ◌∷◌, ◌++◌, length, min, get_or, take, drop, refl, sym, ap, ◌∙◌, arith, length-append}
use Rattle.std.specs.Prelude.{nat_le, nat_lt}
use Rattle.std.specs.List.{list_any, sum_by, Contains, IsDistinct, AllByRecursion}
use Rattle.std.proofs.lemmas.Bool.{cases_lt, eqb-true, ne_eqb, eq-eqb, lt-ltb, ltb-true, le-leb, leb-true}
use Rattle.std.proofs.lemmas.List.{get_or-map, length-map, length-take-le, length-drop}
use Rattle.std.proofs.lemmas.List.Elements.{Contains-push_cases}
use Rattle.std.proofs.lemmas.List.Folds.{list_any_at}
use Rattle.std.proofs.lemmas.List.Sums.{sum_by-cons}
use Rattle.std.proofs.lemmas.Map.Keys.{IsDistinct-cons, IsDistinct-head, IsDistinct-tail, IsDistinct-push}
use Rattle.std.proofs.lemmas.Map.Steps.{length-le_from_distinct_below}
use Rattle.std.proofs.lemmas.Cmp.{nat_eq_equiv}
use Rattle.nv_region.specs.Marks.{AreKept, firsts, lines_in}
use Rattle.nv_region.specs.StoredLines.{holds}
use Rattle.nv_region.specs.declared.stored.StoredRow.{StoredRow}

-- what is read past the end of a list of rows
abbrev pub no_row : StoredRow
no_row = record { first = 0; end = 0; at = 0 }

-- the line is in the row
abbrev pub Has : StoredRow → ℕ → Type 0
Has row p = (row.first ≤ p) × (p < row.end)

pub has_holds : (row : StoredRow) (p : ℕ) → row.first ≤ p → p < row.end → holds row p ≡ true
has_holds row p low high = (let a : nat_le row.first p ≡ true = le-leb row.first p low in let b : nat_lt p row.end ≡ true = lt-ltb p row.end high in cc)

pub holds_has : (row : StoredRow) (p : ℕ) → holds row p ≡ true → Has row p
holds_has row p h = by (nat_le row.first p) (nat_lt p row.end) refl refl h where
  by : (a b : Bool) → nat_le row.first p ≡ a → nat_lt p row.end ≡ b → (a && b) ≡ true → Has row p
  by true true from to _ = (leb-true row.first p from, ltb-true p row.end to)
  by true false from to is = absurd (cc)
  by false b from to is = absurd (cc)

pub not_held : (row : StoredRow) (p : ℕ) → (row.first ≤ p → p < row.end → ⊥) → holds row p ≡ false
not_held row p away = by (holds row p) refl where
  by : (b : Bool) → holds row p ≡ b → holds row p ≡ false
  by true is = (let h = holds_has row p is in absurd (away h.0 h.1))
  by false is = is

-- a row of the list has the line
pub record IsFound (rows : List StoredRow) (p : ℕ) : Type 0 where
  pub k : ℕ
  pub low : k < length rows
  pub has : (d : StoredRow) → Has (get_or rows k d) p

pub found : (rows : List StoredRow) (p : ℕ) → list_any (λ row. holds row p) rows ≡ true → IsFound rows p
found [] p h = absurd (cc)
found (row ∷ rows) p h = by (found rows p) (holds row p) refl h where
  by : (list_any (λ r. holds r p) rows ≡ true → IsFound rows p) → (b : Bool) → holds row p ≡ b → (b || list_any (λ r. holds r p) rows) ≡ true → IsFound (row ∷ rows) p
  by behind true is _ = record { k = 0; low = omega arith; has = λ d. holds_has row p is }
  by behind false _ h = (let further = behind h in record { k = suc further.k; low = omega (arith, further.low); has = further.has })

pub stands : (rows : List StoredRow) (k : ℕ) (d : StoredRow) (p : ℕ) → k < length rows → (get_or rows k d).first ≤ p → p < (get_or rows k d).end → list_any (λ row. holds row p) rows ≡ true
stands rows k d p low from to = list_any_at (λ row. holds row p) rows k d low (has_holds (get_or rows k d) p from to)

pub row_in : (rows : List StoredRow) (k : ℕ) (d : StoredRow) → k < length rows → Contains rows (get_or rows k d)
row_in rows k d low = (k, low, same rows k low) where
  same : (rows : List StoredRow) (k : ℕ) → k < length rows → get_or rows k (get_or rows k d) ≡ get_or rows k d
  same [] k low = absurd (omega arith)
  same (r ∷ rows) zero low = refl
  same (r ∷ rows) (suc k) low = same rows k (omega (arith, low))

-- a row that is in the list has the line
pub element_stands : (rows : List StoredRow) (row : StoredRow) (p : ℕ) → Contains rows row → row.first ≤ p → p < row.end → list_any (λ r. holds r p) rows ≡ true
element_stands rows row p (k, low, is) from to =
    let first : (get_or rows k row).first ≡ row.first = ap (λ (r : StoredRow). r.first) is in
    let end : (get_or rows k row).end ≡ row.end = ap (λ (r : StoredRow). r.end) is in
    stands rows k row p low (omega (arith, first, from)) (omega (arith, end, to))

module _ (total : ℕ) (kept : List ℕ) where
  pub tail_kept : (row : StoredRow) (rows : List StoredRow) → AreKept total (row ∷ rows) kept → AreKept total rows kept
  tail_kept row rows are = record {
    once = IsDistinct-tail eqb row.first (firsts rows) are.once;
    some = λ r is. are.some r (behind r is);
    below = λ r is. are.below r (behind r is);
    apart = λ r o is also. are.apart r o (behind r is) (behind o also);
    within = λ r is. are.within r (behind r is);
  }
    where
      behind : (r : StoredRow) → Contains rows r → Contains (row ∷ rows) r
      behind r (k, low, is) = (suc k, omega (arith, low), is)

  -- two rows with a common line are one
  same_first : (rows : List StoredRow) (row other : StoredRow) (p : ℕ) → AreKept total rows kept → Contains rows row → Contains rows other → Has row p → Has other p → row.first ≡ other.first
  same_first rows row other p are is also here there = elim (cases_lt row.first other.first) [
    | inl less ↦ absurd (omega (arith, are.apart row other is also less, here.1, there.0))
    | inr up ↦ elim (cases_lt other.first row.first) [
      | inl less ↦ absurd (omega (arith, are.apart other row also is less, there.1, here.0))
      | inr down ↦ omega (arith, up, down)
    ]
  ]

  -- a line of a row behind the first isn't in the first
  pub head_lacks : (row : StoredRow) (rows : List StoredRow) (k : ℕ) (d : StoredRow) (p : ℕ) → AreKept total (row ∷ rows) kept → k < length rows → Has (get_or rows k d) p → holds row p ≡ false
  head_lacks row rows k d p are low has = not_held row p (λ from to.
      let same : row.first ≡ (get_or rows k d).first = same_first (row ∷ rows) row (get_or rows k d) p are (0, omega arith, refl) (row_in (row ∷ rows) (suc k) d (omega (arith, low))) (from, to) has in
      let at : get_or (firsts rows) k 0 ≡ (get_or rows k d).first = get_or-map (λ (r : StoredRow). r.first) rows k d 0 low in
      let yes : eqb row.first (get_or (firsts rows) k 0) ≡ true = eq-eqb row.first (get_or (firsts rows) k 0) (same ∙ sym at) in
      let no = each (firsts rows) k (IsDistinct-head eqb row.first (firsts rows) are.once) (omega (arith, low, length-map rows (λ (r : StoredRow). r.first))) in
      absurd (cc (yes, no)))
    where
      each : (xs : List ℕ) (j : ℕ) → AllByRecursion (λ y. eqb row.first y ≡ false) xs → j < length xs → eqb row.first (get_or xs j 0) ≡ false
      each [] j all low = absurd (omega (arith, low))
      each (x ∷ xs) zero all low = all.0
      each (x ∷ xs) (suc j) all low = each xs j all.1 (omega (arith, low))

-- the lines of a row, and then others
abbrev lines_from : ℕ → ℕ → List ℕ → List ℕ
lines_from a zero ys = ys
lines_from a (suc n) ys = a ∷ lines_from (suc a) n ys

-- the lines of all rows
abbrev all_lines : List StoredRow → List ℕ
all_lines [] = []
all_lines (row ∷ rows) = lines_from row.first (lines_in row) (all_lines rows)

length-lines_from : (a n : ℕ) (ys : List ℕ) → length (lines_from a n ys) ≡ n + length ys
length-lines_from a zero ys = omega arith
length-lines_from a (suc n) ys = omega (arith, length-lines_from (suc a) n ys)

length-all_lines : (rows : List StoredRow) → length (all_lines rows) ≡ sum_by lines_in rows
length-all_lines [] = refl
length-all_lines (row ∷ rows) = length-lines_from row.first (lines_in row) (all_lines rows) ∙ ap (λ (n : ℕ). lines_in row + n) (length-all_lines rows) ∙ sym (sum_by-cons lines_in row rows)

among : (a n : ℕ) (ys : List ℕ) (p : ℕ) → list_any (eqb p) (lines_from a n ys) ≡ true → ((a ≤ p) × (p < a + n)) ⊎ (list_any (eqb p) ys ≡ true)
among a zero ys p h = inr h
among a (suc n) ys p h = by (among (suc a) n ys p) (eqb p a) refl h where
  by : (list_any (eqb p) (lines_from (suc a) n ys) ≡ true → ((suc a ≤ p) × (p < suc a + n)) ⊎ (list_any (eqb p) ys ≡ true)) → (b : Bool) → eqb p a ≡ b → (b || list_any (eqb p) (lines_from (suc a) n ys)) ≡ true
      → ((a ≤ p) × (p < a + suc n)) ⊎ (list_any (eqb p) ys ≡ true)
  by behind true is _ = (let here = eqb-true p a is in inl (omega (arith, here), omega (arith, here)))
  by behind false _ h = elim (behind h) [ inl there ↦ inl (omega (arith, there.0), omega (arith, there.1)) | inr other ↦ inr other ]

all_differ : (x : ℕ) (xs : List ℕ) → list_any (eqb x) xs ≡ false → AllByRecursion (λ y. eqb x y ≡ false) xs
all_differ x [] h = tt
all_differ x (y ∷ ys) h = by (all_differ x ys) (eqb x y) refl h where
  by : (list_any (eqb x) ys ≡ false → AllByRecursion (λ z. eqb x z ≡ false) ys) → (b : Bool) → eqb x y ≡ b → (b || list_any (eqb x) ys) ≡ false → AllByRecursion (λ z. eqb x z ≡ false) (y ∷ ys)
  by behind true is h = absurd (cc)
  by behind false is h = (is, behind h)

each_once : (a n : ℕ) (ys : List ℕ) → IsDistinct eqb ys → ((p : ℕ) → list_any (eqb p) ys ≡ true → a ≤ p → p < a + n → ⊥) → IsDistinct eqb (lines_from a n ys)
each_once a zero ys once apart = once
each_once a (suc n) ys once apart = IsDistinct-cons eqb a (lines_from (suc a) n ys) (all_differ a (lines_from (suc a) n ys) (by (list_any (eqb a) (lines_from (suc a) n ys)) refl)) (each_once (suc a) n ys once (λ p is low high. apart p is (omega (arith, low)) (omega (arith, high))))
  where
    by : (b : Bool) → list_any (eqb a) (lines_from (suc a) n ys) ≡ b → list_any (eqb a) (lines_from (suc a) n ys) ≡ false
    by true is = elim (among (suc a) n ys a is) [ inl here ↦ absurd (omega (arith, here.0)) | inr other ↦ absurd (apart a other (omega arith) (omega arith)) ]
    by false is = is

in_rows : (rows : List StoredRow) (p : ℕ) → list_any (eqb p) (all_lines rows) ≡ true → IsFound rows p
in_rows [] p h = absurd (cc)
in_rows (row ∷ rows) p h = elim (among row.first (lines_in row) (all_lines rows) p h) [
  | inl here ↦ record { k = 0; low = omega arith; has = λ d. (here.0, omega (arith, here.0, here.1)) }
  | inr behind ↦ (let f = in_rows rows p behind in record { k = suc f.k; low = omega (arith, f.low); has = f.has })
]

all_once : (total : ℕ) (kept : List ℕ) (rows : List StoredRow) → AreKept total rows kept → IsDistinct eqb (all_lines rows)
unfolding IsDistinct
all_once total kept [] are = tt
all_once total kept (row ∷ rows) are = each_once row.first (lines_in row) (all_lines rows) (all_once total kept rows (tail_kept total kept row rows are)) (λ p is low high.
    let f = in_rows rows p is in
    let off = head_lacks total kept row rows f.k no_row p are f.low (f.has no_row) in
    let on = has_holds row p low (omega (arith, high, are.some row (0, omega arith, refl))) in absurd (cc (on, off)))

-- rows that are apart have no more lines than there are
pub counted : (total : ℕ) (kept : List ℕ) (rows : List StoredRow) → AreKept total rows kept → sum_by lines_in rows ≤ (total + 7) / 8
counted total kept rows are = omega (
  arith,
  length-all_lines rows,
  length-le_from_distinct_below (all_lines rows) ((total + 7) / 8) (all_once total kept rows are) (λ p is.
      let f = in_rows rows p is in
      let h = f.has no_row in omega (arith, h.1, are.below (get_or rows f.k no_row) (row_in rows f.k no_row f.low))),
)

-- and each of them has one
pub few_rows : (total : ℕ) (kept : List ℕ) (rows : List StoredRow) → AreKept total rows kept → length rows ≤ sum_by lines_in rows
few_rows total kept [] are = omega arith
few_rows total kept (row ∷ rows) are = omega (arith, sum_by-cons lines_in row rows, are.some row (0, omega arith, refl), few_rows total kept rows (tail_kept total kept row rows are))

pub firsts_more : (rows : List StoredRow) (row : StoredRow) → firsts (rows ++ row ∷ []) ≡ firsts rows ++ row.first ∷ []
firsts_more [] row = refl
firsts_more (r ∷ rows) row = ap (λ (xs : List ℕ). r.first ∷ xs) (firsts_more rows row)

-- One row more, of which no line is in another, and whose words are kept behind the others.
pub row_kept : (total : ℕ) (rows : List StoredRow) (kept words : List ℕ) (first end : ℕ) → AreKept total rows kept → length words ≡ total → first < end → 8 * end < total + 8
    → ((p : ℕ) → first ≤ p → p < end → list_any (λ row. holds row p) rows ≡ false)
    → AreKept total (rows ++ record { first = first; end = end; at = length kept } ∷ []) (kept ++ take (min (8 * end) total - 8 * first) (drop (8 * first) words))
row_kept total rows kept words first end are all rises below fresh = record {
  once = rw (firsts_more rows row) (IsDistinct-push nat_eq_equiv (firsts rows) first are.once absent);
  some = λ r is. elim (Contains-push_cases rows row r is) [ inl old ↦ are.some r old | inr new ↦ omega (arith, ap (λ (s : StoredRow). s.first) new, ap (λ (s : StoredRow). s.end) new, rises) ];
  below = λ r is. elim (Contains-push_cases rows row r is) [ inl old ↦ are.below r old | inr new ↦ omega (arith, ap (λ (s : StoredRow). s.end) new, below) ];
  apart = λ r o is also less. by r o less (Contains-push_cases rows row r is) (Contains-push_cases rows row o also);
  within = λ r is. elim (Contains-push_cases rows row r is) [
    | inl old ↦ omega (arith, are.within r old, long)
    | inr new ↦ omega (arith, ap (λ (s : StoredRow). s.first) new, ap (λ (s : StoredRow). s.end) new, ap (λ (s : StoredRow). s.at) new, long)
  ];
}
  where
    row : StoredRow
    row = record { first = first; end = end; at = length kept }

    more : List ℕ
    more = take (min (8 * end) total - 8 * first) (drop (8 * first) words)

    long : length (kept ++ more) ≡ length kept + (min (8 * end) total - 8 * first)
    long =
        let behind = length-drop (8 * first) words in
        let taken = length-take-le (min (8 * end) total - 8 * first) (drop (8 * first) words) (omega (arith, behind, all)) in
        omega (arith, length-append kept more, taken)

    other_line : (r : StoredRow) (p : ℕ) → Contains rows r → Has r p → first ≤ p → p < end → ⊥
    other_line r p is has low high = (let on = element_stands rows r p is has.0 has.1 in let off = fresh p low high in absurd (cc (on, off)))

    absent : list_any (eqb first) (firsts rows) ≡ false
    absent = none rows (λ r is same. other_line r first is (omega (arith, same), omega (arith, same, are.some r is)) (omega arith) rises) where
      none : (rs : List StoredRow) → ((r : StoredRow) → Contains rs r → first ≡ r.first → ⊥) → list_any (eqb first) (firsts rs) ≡ false
      none [] away = refl
      none (r ∷ rs) away = ap (λ (b : Bool). b || list_any (eqb first) (firsts rs)) (ne_eqb first r.first (λ same. away r (0, omega arith, refl) same)) ∙ none rs (λ s (k, low, is) same. away s (suc k, omega (arith, low), is) same)

    by : (r o : StoredRow) → r.first < o.first → (Contains rows r ⊎ (row ≡ r)) → (Contains rows o ⊎ (row ≡ o)) → r.end ≤ o.first
    by r o less (inl old) (inl also) = are.apart r o old also less
    by r o less (inl old) (inr new) = (let at : first ≡ o.first = ap (λ (s : StoredRow). s.first) new in elim (cases_lt first r.end) [
      | inl over ↦ absurd (other_line r first old (omega (arith, less, at), over) (omega arith) rises)
      | inr apart ↦ omega (arith, apart, at)
    ])
    by r o less (inr new) (inl also) =
        let at : first ≡ r.first = ap (λ (s : StoredRow). s.first) new in
        let up : end ≡ r.end = ap (λ (s : StoredRow). s.end) new in elim (cases_lt o.first end) [
          | inl over ↦ absurd (other_line o o.first also (omega arith, are.some o also) (omega (arith, less, at)) over)
          | inr apart ↦ omega (arith, apart, up)
        ]
    by r o less (inr new) (inr also) = absurd (omega (arith, less, ap (λ (s : StoredRow). s.first) new, ap (λ (s : StoredRow). s.first) also))
