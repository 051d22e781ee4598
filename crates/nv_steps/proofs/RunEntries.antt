-- The entries over runs of blocks: the blocks and the pages that they write.
use Rattle.std.proofs.Common.{◌≡◌, ℕ, ◌+◌, ◌-◌, ◌<◌, ◌≤◌, inl, inr, List, [], ◌∷◌, ◌++◌, append_assoc, length, refl, ap, sym, ◌∙◌, arith}
use Rattle.std.specs.List.{Contains}
use Rattle.std.proofs.lemmas.Bool.{cases_lt}
use Rattle.nv_super.specs.declared.owners.Run.{Run}
use Rattle.nv_super.proofs.Members.{none_in}
use Rattle.nv_super.proofs.Rising.{Contains-cons, Contains-head, Contains-tail}
use Rattle.nv_alloc.specs.Taking.{Disjoint, HasBlock, blocks_in, left, taken, block_run}
use Rattle.nv_alloc.proofs.Fronts.{blocks_cons, left_none, left_part, left_whole, taken_none, taken_part, taken_whole}
use Rattle.nv_alloc.proofs.Leaving.{block_cases, first_block, later_block}
use Rattle.nv_entry.specs.declared.entry.WriteEntry.{WriteEntry}
use Rattle.nv_entry.specs.declared.entry.Entry.{Entry}
use Rattle.nv_entry.specs.declared.entry.Entry.TheVariants.{Write}
use Rattle.nv_logpage.specs.Append.{AreGiven}
use Rattle.nv_steps.specs.Writes.{run_entries}
use Rattle.nv_steps.specs.Written.{entry_blocks, entry_pages}
use Rattle.nv_steps.specs.declared.planning.Plan.{Plan}

-- they write the runs
pub blocks_are : (plan : Plan) (page : ℕ) (runs : List Run) → entry_blocks (run_entries plan page runs) ≡ runs
blocks_are plan page [] = refl
blocks_are plan page (r ∷ runs) = ap (λ (rest : List Run). r ∷ rest) (blocks_are plan (page + r.count) runs)

-- An entry of a run, for pages from one up to another.
pub record IsEntryOf (plan : Plan) (from to : ℕ) (runs : List Run) (w : WriteEntry) : Type 0 where
  pub run : Run
  pub here : Contains runs run
  pub count : w.count ≡ run.count
  pub block : w.block ≡ run.start
  pub low : from ≤ w.offset
  pub high : w.offset + w.count ≤ to
  pub size : w.size ≡ plan.size
  pub time : w.time ≡ plan.time

-- each is such
pub entry_of : (plan : Plan) (page to : ℕ) (runs : List Run) → page + blocks_in runs ≤ to → (e : Entry) → Contains (run_entries plan page runs) e → (w : WriteEntry) × (e ≡ Write w) × IsEntryOf plan page to runs w
entry_of plan page to [] fits e c = absurd (none_in e c)
entry_of plan page to (r ∷ runs) fits e c = elim (Contains-cons (Write (record { count = r.count; offset = page; block = r.start; size = plan.size; time = plan.time })) (run_entries plan (page + r.count) runs) e c) [
  | inl same ↦ (
    record { count = r.count; offset = page; block = r.start; size = plan.size; time = plan.time },
    same,
    record {
      run = r;
      here = Contains-head r runs;
      count = refl;
      block = refl;
      low = omega arith;
      high = (let sum = blocks_cons r runs in omega (arith, fits, sum));
      size = refl;
      time = refl;
    },
  )
  | inr rest ↦
      let w = entry_of plan (page + r.count) to runs (let sum = blocks_cons r runs in omega (arith, fits, sum)) e rest in (
        w.0,
        w.1,
        record {
          run = w.2.run;
          here = Contains-tail r runs w.2.run w.2.here;
          count = w.2.count;
          block = w.2.block;
          low = (let low = w.2.low in omega (arith, low));
          high = w.2.high;
          size = w.2.size;
          time = w.2.time;
        },
      )
]

-- their pages are those from one on, as many as there are blocks
pub pages_from : (plan : Plan) (page p : ℕ) (runs : List Run) → HasBlock (entry_pages (run_entries plan page runs)) p → (page ≤ p) × (p < page + blocks_in runs)
pages_from plan page p [] w = absurd (none_in w.0 w.1)
pages_from plan page p (r ∷ runs) w = elim (block_cases (record { start = page; count = r.count }) (entry_pages (run_entries plan (page + r.count) runs)) p w) [
  | inl here ↦ (here.0, (let high = here.1 in let sum = blocks_cons r runs in omega (arith, high, sum)))
  | inr rest ↦ (let w = pages_from plan (page + r.count) p runs rest in let sum = blocks_cons r runs in (omega (arith, w.0), omega (arith, w.1, sum)))
]

pub page_there : (plan : Plan) (page p : ℕ) (runs : List Run) → page ≤ p → p < page + blocks_in runs → HasBlock (entry_pages (run_entries plan page runs)) p
page_there plan page p [] low high = absurd (omega (arith, low, high))
page_there plan page p (r ∷ runs) low high = elim (cases_lt p (page + r.count)) [
  | inl here ↦ first_block (record { start = page; count = r.count }) (entry_pages (run_entries plan (page + r.count) runs)) p (low, here)
  | inr rest ↦ later_block (record { start = page; count = r.count }) (entry_pages (run_entries plan (page + r.count) runs)) p (page_there plan (page + r.count) p runs rest (let sum = blocks_cons r runs in omega (arith, high, sum)))
]

-- none of them is written twice
pub pages_once : (plan : Plan) (page : ℕ) (runs : List Run) → Disjoint (entry_pages (run_entries plan page runs))
pages_once plan page [] = tt
pages_once plan page (r ∷ runs) = ((λ p here rest. (let w = pages_from plan (page + r.count) p runs rest in let high = here.1 in omega (arith, high, w.0))), pages_once plan (page + r.count) runs)

-- none of them is a next-page entry
pub entries_given : (plan : Plan) (page : ℕ) (runs : List Run) → AreGiven (run_entries plan page runs)
entries_given plan page [] = tt
entries_given plan page (r ∷ runs) = (refl, entries_given plan (page + r.count) runs)

pub entries_count : (plan : Plan) (page : ℕ) (runs : List Run) → length (run_entries plan page runs) ≡ length runs
entries_count plan page [] = refl
entries_count plan page (r ∷ runs) = (let rest = entries_count plan (page + r.count) runs in omega (arith, rest))

-- ---- the first block by itself

-- The first block, and the rest of the runs: where the first run has more blocks, its others.
pub data FirstApart (r : Run) (runs : List Run) : Type 0 where
  one : r.count ≡ 1 → left 1 (r ∷ runs) ≡ runs → FirstApart r runs
  more : 1 < r.count → left 1 (r ∷ runs) ≡ record { start = r.start + 1; count = r.count - 1 } ∷ runs → FirstApart r runs

pub first_apart : (r : Run) (runs : List Run) → 0 < r.count → FirstApart r runs
first_apart r runs some = elim (cases_lt 1 r.count) [
  | inl several ↦ more several (left_part 1 r runs (omega arith) several)
  | inr last ↦
      let single : r.count ≡ 1 = omega (arith, some, last) in
      let none : 1 - r.count ≡ 0 = omega (arith, single) in
      one single (left_whole 1 r runs (omega arith) last ∙ ap (λ (n : ℕ). left n runs) none ∙ left_none runs)
]

pub first_is : (r : Run) (runs : List Run) → 0 < r.count → taken 1 (r ∷ runs) ≡ block_run r.start ∷ []
first_is r runs some = elim (cases_lt 1 r.count) [
  | inl several ↦ taken_part 1 r runs (omega arith) several
  | inr last ↦
      let single : r.count ≡ 1 = omega (arith, some, last) in
      let none : 1 - r.count ≡ 0 = omega (arith, single) in
      let is : r ≡ block_run r.start = (λ k. record { start = r.start; count = single k }) in
      taken_whole 1 r runs (omega arith) last ∙ ap (λ (n : ℕ). r ∷ taken n runs) none ∙ ap (λ (xs : List Run). r ∷ xs) (taken_none runs) ∙ ap (λ (x : Run). x ∷ []) is
]

module _ (plan : Plan) (page : ℕ) (r : Run) (rest : List Run) (old : List Entry) where
  abbrev both : List Entry
  both = old ++ run_entries plan page (taken 1 (r ∷ rest)) ++ run_entries plan plan.first (left 1 (r ∷ rest))

  -- The entries of the first block, of the rest of its run, and of the other runs.
  pub pushed_three : 1 < r.count → old ++ run_entries plan page (block_run r.start ∷ []) ++ run_entries plan plan.first (record { start = r.start + 1; count = r.count - 1 } ∷ []) ++ run_entries plan (plan.first + r.count - 1) rest ≡ both
  pushed_three several =
      let tail : Run = record { start = r.start + 1; count = r.count - 1 } in
      let first : List Entry = old ++ run_entries plan page (block_run r.start ∷ []) in
      let place : plan.first + r.count - 1 ≡ plan.first + (r.count - 1) = omega (arith, several) in
      append_assoc first (run_entries plan plan.first (tail ∷ [])) (run_entries plan (plan.first + r.count - 1) rest)
      ∙ ap (λ (p : ℕ). first ++ (run_entries plan plan.first (tail ∷ []) ++ run_entries plan p rest)) place
      ∙ ap (λ (xs : List Run). old ++ run_entries plan page xs ++ run_entries plan plan.first (tail ∷ rest)) (sym (first_is r rest (omega (arith, several))))
      ∙ ap (λ (xs : List Run). old ++ run_entries plan page (taken 1 (r ∷ rest)) ++ run_entries plan plan.first xs) (sym (left_part 1 r rest (omega arith) several))

  -- Those of the first block and of the other runs.
  pub pushed_two : r.count ≡ 1 → old ++ run_entries plan page (block_run r.start ∷ []) ++ run_entries plan (plan.first + r.count - 1) rest ≡ both
  pushed_two single =
      let place : plan.first + r.count - 1 ≡ plan.first = omega (arith, single) in
      let none : 1 - r.count ≡ 0 = omega (arith, single) in
      ap (λ (p : ℕ). old ++ run_entries plan page (block_run r.start ∷ []) ++ run_entries plan p rest) place
      ∙ ap (λ (xs : List Run). old ++ run_entries plan page xs ++ run_entries plan plan.first rest) (sym (first_is r rest (omega (arith, single))))
      ∙ ap (λ (xs : List Run). old ++ run_entries plan page (taken 1 (r ∷ rest)) ++ run_entries plan plan.first xs) (sym (left_whole 1 r rest (omega arith) (omega (arith, single)) ∙ ap (λ (n : ℕ). left n rest) none ∙ left_none rest))
