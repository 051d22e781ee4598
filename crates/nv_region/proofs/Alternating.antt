-- The words that differ, taken in turn, row by row.
use Rattle.std.proofs.Common.{◌≡◌, ◌≢◌, inl, inr, ◌+◌, ◌*◌, ◌/◌, ◌<◌, ◌≤◌, ℕ, zero, suc, Bool, true, false, not, List, [], ◌∷◌, length, min, get_or, set, add-one, refl, sym, ap, ◌∙◌, arith}
use Rattle.std.specs.List.{list_any}
use Rattle.std.proofs.lemmas.Bool.{cases_eq}
use Rattle.std.proofs.lemmas.List.{get_or_past}
use Rattle.nv_region.specs.Marks.{RowsRise}
use Rattle.nv_region.specs.StoredLines.{holds}
use Rattle.nv_region.specs.declared.stored.StoredRow.{StoredRow}
use Rattle.nv_region.specs.Kept.{alternate, so_far}
use Rattle.nv_region.proofs.Rows.{Has, found, no_row}
use Rattle.nv_region.proofs.Alternate.{same_head, kept_head, lost_head}

-- words that are the same take no turn
skipped : (turn : Bool) (a b : ℕ) (ws fs : List ℕ) → length fs ≡ length ws → a ≤ b → ((i : ℕ) → a ≤ i → i < b → get_or ws i 0 ≡ get_or fs i 0) → so_far turn a ws fs ≡ so_far turn b ws fs
skipped turn zero zero ws fs as_long up same = refl
skipped turn (suc a) zero ws fs as_long up same = absurd (omega arith)
skipped turn zero (suc b) [] fs as_long up same = refl
skipped turn (suc a) (suc b) [] fs as_long up same = refl
skipped turn a (suc b) (w ∷ ws) [] as_long up same = absurd (omega arith)
skipped turn zero (suc b) (w ∷ ws) (f ∷ fs) as_long up same =
    same_head turn w f ws fs (same 0 (omega arith) (omega arith)) ∙ ap (λ (l : List ℕ). w ∷ l) (skipped turn 0 b ws fs (omega arith) (omega arith) (λ i low high. same (suc i) (omega arith) (omega arith)))
skipped turn (suc a) (suc b) (w ∷ ws) (f ∷ fs) as_long up same =
    ap (λ (l : List ℕ). w ∷ l) (skipped turn a b ws fs (omega arith) (omega arith) (λ i low high. same (suc i) (omega arith) (omega arith)))

all_done : (turn : Bool) (b : ℕ) (ws fs : List ℕ) → length fs ≡ length ws → length ws ≤ b → so_far turn b ws fs ≡ ws
all_done turn zero [] fs as_long end = refl
all_done turn (suc b) [] fs as_long end = refl
all_done turn zero (w ∷ ws) fs as_long end = absurd (omega arith)
all_done turn (suc b) (w ∷ ws) [] as_long end = absurd (omega arith)
all_done turn (suc b) (w ∷ ws) (f ∷ fs) as_long end = ap (λ (l : List ℕ). w ∷ l) (all_done turn b ws fs (omega arith) (omega arith))

-- one word more, which is the same
pub one_same : (turn : Bool) (i : ℕ) (ws fs : List ℕ) → length fs ≡ length ws → get_or ws i 0 ≡ get_or fs i 0 → so_far turn (i + 1) ws fs ≡ so_far turn i ws fs
one_same turn i ws fs as_long same = sym (skipped turn i (i + 1) ws fs as_long (omega arith) (λ j low high. let e : j ≡ i = omega arith in ap (λ (n : ℕ). get_or ws n 0) e ∙ same ∙ ap (λ (n : ℕ). get_or fs n 0) (sym e)))

-- one word more, which stays
pub one_kept : (i : ℕ) (ws fs : List ℕ) → length fs ≡ length ws → i < length ws → get_or ws i 0 ≢ get_or fs i 0 → so_far false (i + 1) ws fs ≡ so_far true i ws fs
one_kept i ws fs as_long within differ = ap (λ (n : ℕ). so_far false n ws fs) (add-one i) ∙ kept i ws fs as_long within differ where
  kept : (i : ℕ) (ws fs : List ℕ) → length fs ≡ length ws → i < length ws → get_or ws i 0 ≢ get_or fs i 0 → so_far false (suc i) ws fs ≡ so_far true i ws fs
  kept i [] fs as_long within differ = absurd (omega arith)
  kept i (w ∷ ws) [] as_long within differ = absurd (omega arith)
  kept zero (w ∷ ws) (f ∷ fs) as_long within differ = sym (kept_head w f ws fs differ)
  kept (suc i) (w ∷ ws) (f ∷ fs) as_long within differ = ap (λ (l : List ℕ). w ∷ l) (kept i ws fs (omega arith) (omega arith) differ)

-- one word more, which is taken back
pub one_lost : (i : ℕ) (ws fs : List ℕ) → length fs ≡ length ws → i < length ws → get_or ws i 0 ≢ get_or fs i 0 → so_far true (i + 1) (set ws i (get_or fs i 0)) fs ≡ so_far false i ws fs
one_lost i ws fs as_long within differ = ap (λ (n : ℕ). so_far true n (set ws i (get_or fs i 0)) fs) (add-one i) ∙ lost i ws fs as_long within differ where
  lost : (i : ℕ) (ws fs : List ℕ) → length fs ≡ length ws → i < length ws → get_or ws i 0 ≢ get_or fs i 0 → so_far true (suc i) (set ws i (get_or fs i 0)) fs ≡ so_far false i ws fs
  lost i [] fs as_long within differ = absurd (omega arith)
  lost i (w ∷ ws) [] as_long within differ = absurd (omega arith)
  lost zero (w ∷ ws) (f ∷ fs) as_long within differ = sym (lost_head w f ws fs differ)
  lost (suc i) (w ∷ ws) (f ∷ fs) as_long within differ = ap (λ (l : List ℕ). w ∷ l) (lost i ws fs (omega arith) (omega arith) differ)

-- a step in a row, by what the word at the fence was and whose turn it is
pub step_lost : (turn next : Bool) (i before : ℕ) (ws left fs : List ℕ) → length ws ≡ length fs → i < length ws → before ≡ get_or fs i 0 → get_or ws i 0 ≢ before → turn ≡ false → next ≡ not turn → left ≡ set ws i before
    → so_far next (i + 1) left fs ≡ so_far turn i ws fs
step_lost turn next i before ws left fs as_long within is differ here there made =
    (λ k. so_far ((there ∙ ap not here) k) (i + 1) ((made ∙ ap (λ (b : ℕ). set ws i b) is) k) fs) ∙ one_lost i ws fs (sym as_long) within (λ e. differ (e ∙ sym is)) ∙ (λ k. so_far (sym here k) i ws fs)

pub step_kept : (turn next : Bool) (i before : ℕ) (ws left fs : List ℕ) → length ws ≡ length fs → i < length ws → before ≡ get_or fs i 0 → get_or ws i 0 ≢ before → turn ≡ true → next ≡ not turn → left ≡ ws
    → so_far next (i + 1) left fs ≡ so_far turn i ws fs
step_kept turn next i before ws left fs as_long within is differ here there made =
    (λ k. so_far ((there ∙ ap not here) k) (i + 1) (made k) fs) ∙ one_kept i ws fs (sym as_long) within (λ e. differ (e ∙ sym is)) ∙ (λ k. so_far (sym here k) i ws fs)

pub step_same : (turn next : Bool) (i before : ℕ) (ws left fs : List ℕ) → length ws ≡ length fs → before ≡ get_or fs i 0 → get_or ws i 0 ≡ before → next ≡ turn → left ≡ ws → so_far next (i + 1) left fs ≡ so_far turn i ws fs
step_same turn next i before ws left fs as_long is same there made = (λ k. so_far (there k) (i + 1) (made k) fs) ∙ one_same turn i ws fs (sym as_long) (same ∙ is)

-- the line is in a row from the k-th on
pub record IsAhead (k : ℕ) (rows : List StoredRow) (p : ℕ) : Type 0 where
  pub j : ℕ
  pub from : k ≤ j
  pub low : j < length rows
  pub has : Has (get_or rows j no_row) p

-- The first k rows are done: what comes of the words, with this turn next, is the whole. Others differ only ahead.
pub record Alternated (turn : Bool) (k : ℕ) (rows : List StoredRow) (words fenced whole : List ℕ) : Type 0 where
  pub done : ℕ
  pub is : so_far turn done words fenced ≡ whole
  pub differ : (i : ℕ) → done ≤ i → get_or words i 0 ≢ get_or fenced i 0 → IsAhead k rows (i / 8)
  pub before : (j : ℕ) → k ≤ j → j < length rows → done ≤ 8 * (get_or rows j no_row).first

pub none_alternated : (rows : List StoredRow) (words fenced : List ℕ) → ((i : ℕ) → get_or words i 0 ≢ get_or fenced i 0 → list_any (λ row. holds row (i / 8)) rows ≡ true) → Alternated true 0 rows words fenced (alternate true words fenced)
none_alternated rows words fenced differ = record {
  done = 0;
  is = refl;
  differ = λ i _ other. (let f = found rows (i / 8) (differ i other) in record { j = f.k; from = omega arith; low = f.low; has = f.has no_row });
  before = λ j _ _. omega arith;
}

-- up to the next row nothing differs
up_to : (turn : Bool) (k : ℕ) (rows : List StoredRow) (words fenced whole : List ℕ) → length fenced ≡ length words → RowsRise rows → k < length rows → (get_or rows k no_row).first < (get_or rows k no_row).end → Alternated turn k rows words fenced whole
    → so_far turn (8 * (get_or rows k no_row).first) words fenced ≡ whole
up_to turn k rows words fenced whole as_long rise within some was =
    sym (skipped turn was.done (8 * (get_or rows k no_row).first) words fenced as_long (was.before k (omega arith) within) same) ∙ was.is
  where
    behind : (i : ℕ) → i < 8 * (get_or rows k no_row).first → IsAhead k rows (i / 8) → ⊥
    behind i high ahead = elim (cases_eq ahead.j k) [
      | inl here ↦ (let e : (get_or rows ahead.j no_row).first ≡ (get_or rows k no_row).first = ap (λ (n : ℕ). (get_or rows n no_row).first) here in absurd (omega (arith, e, high, ahead.has.0)))
      | inr other ↦ absurd (omega (arith, rise k ahead.j no_row (omega (arith, ahead.from, other)) ahead.low, high, ahead.has.0, some))
    ]

    same : (i : ℕ) → was.done ≤ i → i < 8 * (get_or rows k no_row).first → get_or words i 0 ≡ get_or fenced i 0
    same i low high = elim (cases_eq (get_or words i 0) (get_or fenced i 0)) [ inl equal ↦ equal | inr other ↦ absurd (behind i high (was.differ i low other)) ]

-- one row more
pub row_alternated : (turn next : Bool) (k : ℕ) (rows : List StoredRow) (words left fenced whole : List ℕ) → length fenced ≡ length words → length left ≡ length words → RowsRise rows → k < length rows
    → (get_or rows k no_row).first < (get_or rows k no_row).end → 8 * (get_or rows k no_row).end < length words + 8
    → so_far next (min (8 * (get_or rows k no_row).end) (length words)) left fenced ≡ so_far turn (8 * (get_or rows k no_row).first) words fenced
    → ((i : ℕ) → min (8 * (get_or rows k no_row).end) (length words) ≤ i → get_or left i 0 ≡ get_or words i 0)
    → Alternated turn k rows words fenced whole → Alternated next (k + 1) rows left fenced whole
row_alternated turn next k rows words left fenced whole as_long same_long rise within some below goes behind was = record {
  done = min (8 * (get_or rows k no_row).end) (length words);
  is = goes ∙ up_to turn k rows words fenced whole as_long rise within some was;
  differ = λ i low other.
      let from : was.done ≤ 8 * (get_or rows k no_row).first = was.before k (omega arith) within in
      ahead i low other (was.differ i (omega (arith, low, below, from, some)) (λ e. other (behind i low ∙ e)));
  before = λ j from inside. omega (arith, rise k j no_row (omega (arith, from)) inside);
}
  where
    ahead : (i : ℕ) → min (8 * (get_or rows k no_row).end) (length words) ≤ i → get_or left i 0 ≢ get_or fenced i 0 → IsAhead k rows (i / 8) → IsAhead (k + 1) rows (i / 8)
    ahead i low other a = elim (cases_eq a.j k) [
      | inl at ↦
          let e : (get_or rows a.j no_row).end ≡ (get_or rows k no_row).end = ap (λ (n : ℕ). (get_or rows n no_row).end) at in
          let past : length words ≤ i = omega (arith, e, low, a.has.1) in
          absurd (other (get_or_past left i 0 (omega (arith, past, same_long)) ∙ sym (get_or_past fenced i 0 (omega (arith, past, as_long)))))
      | inr differs ↦ record { j = a.j; from = omega (arith, a.from, differs); low = a.low; has = a.has }
    ]

-- at the end all is done
pub all_alternated : (turn : Bool) (k : ℕ) (rows : List StoredRow) (words fenced whole : List ℕ) → length fenced ≡ length words → length rows ≤ k → Alternated turn k rows words fenced whole → words ≡ whole
all_alternated turn k rows words fenced whole as_long end was =
    sym (all_done turn (was.done + length words) words fenced as_long (omega arith))
    ∙ sym (skipped turn was.done (was.done + length words) words fenced as_long (omega arith) same) ∙ was.is
  where
    same : (i : ℕ) → was.done ≤ i → i < was.done + length words → get_or words i 0 ≡ get_or fenced i 0
    same i low high = elim (cases_eq (get_or words i 0) (get_or fenced i 0)) [
      | inl equal ↦ equal
      | inr other ↦ (let a = was.differ i low other in absurd (omega (arith, a.from, a.low, end)))
    ]
