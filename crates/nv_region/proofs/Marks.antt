-- The lines that were stored to: each has its mark, and there is room for all of them.
use Rattle.std.proofs.Common.{◌≡◌, ◌<◌, ◌≤◌, ◌||◌, ◌+◌, ◌-◌, ◌*◌, ◌/◌, ◌%◌, ◌^◌, inl, inr, ℕ, Bool, true, false, List, [], ◌∷◌, ◌++◌, length, min, get_or, take, drop, eqb, vec_len, vec_capacity, refl, sym, ap, ◌∙◌, subst, arith, length-append}
use Rattle.std.specs.List.{list_any, sum_by, Contains, IsDistinct}
use Rattle.std.specs.List.Sorted.{IsNonDecreasingBy, IsPermutation}
use Rattle.std.proofs.lemmas.Bool.{cases_eq, cases_lt, eq-eqb}
use Rattle.std.proofs.lemmas.List.{get_or-map, length-map, length-take-le, length-drop}
use Rattle.std.proofs.lemmas.List.Folds.{list_any-append}
use Rattle.std.proofs.lemmas.List.Sums.{sum_by_push}
use Rattle.std.proofs.lemmas.List.Sorted.{list_any-IsPermutation, IsPermutation-map, sum_by-IsPermutation, Contains-permutation, IsPermutation-sym}
use Rattle.std.proofs.lemmas.Map.Keys.{IsDistinct-IsPermutation, apart_from_distinct}
use Rattle.std.proofs.lemmas.Nat.Bits.{bit_at-lt}
use Rattle.nv_blockset.specs.BlockSet.{has, is_set}
use Rattle.nv_region.specs.Marks.{AreKept, AreMarked, RowsRise, firsts, lines_in}
use Rattle.nv_region.specs.StoredLines.{holds}
use Rattle.nv_region.specs.declared.stored.StoredRow.{StoredRow}
use Rattle.nv_region.specs.declared.stored.StoredLines.TheInside.{Inside}
use Rattle.nv_region.proofs.Rows.{has_holds, not_held, row_kept, row_in, counted, few_rows}

-- no line is marked
pub none_marked : (s : Inside) → s.rows.items ≡ [] → s.kept.items ≡ [] → s.total ≤ 2 ^ 27 → (s.total + 7) / 8 ≤ 64 * length s.marks.items
    → (s.total + 7) / 8 ≤ vec_capacity s.rows → 8 * ((s.total + 7) / 8) ≤ vec_capacity s.kept → ((p : ℕ) → is_set s.marks.items p ≡ false) → AreMarked s
unfolding IsDistinct
none_marked s none empty small marks room wide off = record {
  small = small;
  rows = subst (λ (rows : List StoredRow). AreKept s.total rows s.kept.items) (sym none) (record {
    once = tt;
    some = λ row (k, low, _). absurd (omega (arith, low));
    below = λ row (k, low, _). absurd (omega (arith, low));
    apart = λ row other (k, low, _) _ _. absurd (omega (arith, low));
    within = λ row (k, low, _). absurd (omega (arith, low));
  });
  few = omega (arith, ap length empty);
  marks = marks;
  marked = λ p. off p ∙ sym (ap (λ (rows : List StoredRow). list_any (λ row. holds row p) rows) none);
  room = room;
  wide = wide;
}

-- a row joins the rows
pub more_is : (rows : List StoredRow) (row : StoredRow) (p : ℕ) → list_any (λ r. holds r p) (rows ++ row ∷ []) ≡ (holds row p || list_any (λ r. holds r p) rows)
more_is rows row p = list_any-append (λ r. holds r p) rows (row ∷ []) ∙ swapped (list_any (λ r. holds r p) rows) (holds row p) where
  swapped : (a b : Bool) → (a || (b || false)) ≡ (b || a)
  swapped true true = refl
  swapped true false = refl
  swapped false true = refl
  swapped false false = refl

-- Lines in a row that aren't marked: there is room for their row and their words.
pub room_left : (s : Inside) (words : List ℕ) (first end : ℕ) → AreMarked s → length words ≡ s.total → first < end → 8 * end < s.total + 8
    → ((p : ℕ) → first ≤ p → p < end → list_any (λ row. holds row p) s.rows.items ≡ false) → (vec_len s.rows < vec_capacity s.rows) × (vec_len s.kept + 8 * (end - first) ≤ vec_capacity s.kept)
room_left s words first end marked all rises below fresh =
    let row : StoredRow = record { first = first; end = end; at = length s.kept.items } in
    let more = row_kept s.total s.rows.items s.kept.items words first end marked.rows all rises below fresh in
    let count = counted s.total _ (s.rows.items ++ row ∷ []) more in
    let sum : sum_by lines_in (s.rows.items ++ row ∷ []) ≡ sum_by lines_in s.rows.items + (end - first) = sum_by_push lines_in s.rows.items row in
    let few = few_rows s.total s.kept.items s.rows.items marked.rows in
    (omega (arith, count, sum, few, rises, marked.room, s.rows.ok), omega (arith, count, sum, marked.few, marked.wide, s.kept.ok))

-- They are marked, their row joins the rows, and their words the words that are kept.
pub row_marked : (s t : Inside) (words : List ℕ) (first end : ℕ) → AreMarked s → length words ≡ s.total → first < end → 8 * end < s.total + 8
    → ((p : ℕ) → first ≤ p → p < end → list_any (λ row. holds row p) s.rows.items ≡ false)
    → t.total ≡ s.total → t.rows.items ≡ s.rows.items ++ record { first = first; end = end; at = length s.kept.items } ∷ []
    → t.kept.items ≡ s.kept.items ++ take (min (8 * end) (length words) - 8 * first) (drop (8 * first) words)
    → vec_capacity s.rows ≤ vec_capacity t.rows → vec_capacity s.kept ≤ vec_capacity t.kept → length t.marks.items ≡ length s.marks.items
    → ((p : ℕ) → first ≤ p → p < end → is_set t.marks.items p ≡ true) → ((p : ℕ) → (first ≤ p → p < end → ⊥) → is_set t.marks.items p ≡ is_set s.marks.items p) → AreMarked t
row_marked s t words first end marked all rises below fresh total rows kept room wide marks on others = record {
  small = omega (arith, total, marked.small);
  rows = rw (total, rows, keeps) (row_kept s.total s.rows.items s.kept.items words first end marked.rows all rises below fresh);
  few = rw (rows, keeps) (omega (arith, length-append s.kept.items more, taken, marked.few, sum_by_push lines_in s.rows.items row));
  marks = omega (arith, marks, total, marked.marks);
  marked = λ p. by p ∙ sym (ap (λ (rs : List StoredRow). list_any (λ r. holds r p) rs) rows ∙ more_is s.rows.items row p);
  room = omega (arith, room, total, marked.room);
  wide = omega (arith, wide, total, marked.wide);
}
  where
    row : StoredRow
    row = record { first = first; end = end; at = length s.kept.items }

    more : List ℕ
    more = take (min (8 * end) s.total - 8 * first) (drop (8 * first) words)

    keeps : t.kept.items ≡ s.kept.items ++ more
    keeps = kept ∙ ap (λ (n : ℕ). s.kept.items ++ take (min (8 * end) n - 8 * first) (drop (8 * first) words)) all

    taken : length more ≤ 8 * (end - first)
    taken = (let behind = length-drop (8 * first) words in omega (arith, length-take-le (min (8 * end) s.total - 8 * first) (drop (8 * first) words) (omega (arith, behind, all))))

    by : (p : ℕ) → is_set t.marks.items p ≡ (holds row p || list_any (λ r. holds r p) s.rows.items)
    by p = elim (cases_lt p first) [
      | inl low ↦ away p (λ from _. absurd (omega (arith, low, from)))
      | inr from ↦ elim (cases_lt p end) [
        | inl to ↦ on p from to ∙ sym (ap (λ (b : Bool). b || list_any (λ r. holds r p) s.rows.items) (has_holds row p from to))
        | inr past ↦ away p (λ _ to. absurd (omega (arith, past, to)))
      ]
    ]
      where
        away : (p : ℕ) → (first ≤ p → p < end → ⊥) → is_set t.marks.items p ≡ (holds row p || list_any (λ r. holds r p) s.rows.items)
        away p out = others p out ∙ marked.marked p ∙ sym (ap (λ (b : Bool). b || list_any (λ r. holds r p) s.rows.items) (not_held row p out))

-- a line without a mark is in no row
pub line_fresh : (s : Inside) (number : ℕ) → AreMarked s → is_set s.marks.items number ≡ false → (p : ℕ) → number ≤ p → p < number + 1 → list_any (λ row. holds row p) s.rows.items ≡ false
line_fresh s number marked off p from to = sym (marked.marked p) ∙ ap (λ (q : ℕ). is_set s.marks.items q) (let e : p ≡ number = omega (arith, from, to) in e) ∙ off

-- where no bit was put in, what is set was set before
pub still_set : (old new : List ℕ) (p : ℕ) → (has old p ≡ 0 → has new p ≡ 0) → is_set new p ≡ true → is_set old p ≡ true
still_set old new p fewer on = elim (cases_eq (has old p) 0) [
  | inl off ↦ absurd (let none : is_set new p ≡ false = ap (λ (x : ℕ). eqb x 1) (fewer off) in cc (on, none))
  | inr other ↦ (let low = bit_at-lt (get_or old (p / 64) 0) (p % 64) in eq-eqb (has old p) 1 (omega (arith, low, other)))
]

-- the rows may be put into another order
pub permuted_kept : (total : ℕ) (rows others : List StoredRow) (kept : List ℕ) → AreKept total rows kept → IsPermutation rows others → AreKept total others kept
permuted_kept total rows others kept are moved = record {
  once = IsDistinct-IsPermutation eqb same_test (firsts rows) (firsts others) (IsPermutation-map (λ (r : StoredRow). r.first) rows others moved) are.once;
  some = λ r is. are.some r (back r is);
  below = λ r is. are.below r (back r is);
  apart = λ r o is also. are.apart r o (back r is) (back o also);
  within = λ r is. are.within r (back r is);
}
  where
    same_test : (x y : ℕ) → eqb x y ≡ eqb y x
    same_test x y = grind arith

    back : (r : StoredRow) → Contains others r → Contains rows r
    back r is = Contains-permutation others rows r (IsPermutation-sym rows others moved) is

pub permuted_marked : (s t : Inside) → AreMarked s → t.total ≡ s.total → t.kept.items ≡ s.kept.items → t.marks.items ≡ s.marks.items → IsPermutation s.rows.items t.rows.items → vec_capacity t.rows ≡ vec_capacity s.rows → vec_capacity t.kept ≡ vec_capacity s.kept
    → AreMarked t
permuted_marked s t marked total kept marks moved room wide = record {
  small = omega (arith, total, marked.small);
  rows = rw (total, kept) (permuted_kept s.total s.rows.items t.rows.items s.kept.items marked.rows moved);
  few = omega (arith, ap length kept, marked.few, sum_by-IsPermutation lines_in s.rows.items t.rows.items moved);
  marks = omega (arith, ap length marks, total, marked.marks);
  marked = λ p. ap (λ (ws : List ℕ). is_set ws p) marks ∙ marked.marked p ∙ list_any-IsPermutation (λ r. holds r p) s.rows.items t.rows.items moved;
  room = omega (arith, room, total, marked.room);
  wide = omega (arith, wide, total, marked.wide);
}

-- in rising order each row ends before the next begins
pub kept_rise : (total : ℕ) (rows : List StoredRow) (kept : List ℕ) → AreKept total rows kept → IsNonDecreasingBy (λ (r : StoredRow). r.first) rows → RowsRise rows
kept_rise total rows kept are up j k d less within =
    let row = row_in rows j d (omega (arith, less, within)) in
    let other = row_in rows k d within in elim (cases_eq (get_or rows j d).first (get_or rows k d).first) [
      | inl same ↦ absurd (
          let long = length-map rows (λ (r : StoredRow). r.first) in
          let first = get_or-map (λ (r : StoredRow). r.first) rows j d 0 (omega (arith, less, within)) in
          let second = get_or-map (λ (r : StoredRow). r.first) rows k d 0 within in
          let no = apart_from_distinct eqb (firsts rows) j k 0 are.once less (omega (arith, within, long)) in
          let yes = eq-eqb (get_or (firsts rows) j 0) (get_or (firsts rows) k 0) (first ∙ same ∙ sym second) in cc (yes, no))
      | inr differ ↦ are.apart (get_or rows j d) (get_or rows k d) row other (omega (arith, up j k d (omega (arith, less)) within, differ))
    ]
