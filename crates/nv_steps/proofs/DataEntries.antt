-- The entries of a write: the blocks and the pages that they write, each once.
use Rattle.std.proofs.Common.{◌≡◌, ◌↔◌, ℕ, ◌+◌, ◌-◌, ◌<◌, ◌≤◌, ◌⊎◌, inl, inr, cond, is_some, List, [], ◌∷◌, ◌++◌, length, refl, ap, sym, ◌∙◌, subst, arith, Option, Some, None}
use Rattle.std.specs.List.{Contains}
use Rattle.std.proofs.lemmas.Bool.{cases_eq}
use Rattle.std.proofs.lemmas.List.Elements.{Contains-append_cases, filter_map-append}
use Rattle.std.proofs.lemmas.Option.{same_Some}
use Rattle.nv_super.specs.declared.owners.Run.{Run}
use Rattle.nv_super.specs.Runs.{InRun}
use Rattle.nv_super.proofs.Rising.{Contains-cons, Contains-head, Contains-tail}
use Rattle.nv_super.proofs.Members.{none_in}
use Rattle.nv_alloc.specs.Taking.{Disjoint, HasBlock, blocks_in, left, block_run}
use Rattle.nv_alloc.proofs.Fronts.{blocks_cons}
use Rattle.nv_alloc.proofs.Leaving.{block_cases, block_left, block_right, block_sides, disjoint_append, first_block, later_block}
use Rattle.nv_entry.specs.declared.entry.WriteEntry.{WriteEntry}
use Rattle.nv_entry.specs.declared.entry.Entry.{Entry}
use Rattle.nv_entry.specs.declared.entry.Entry.TheVariants.{Write}
use Rattle.nv_logpage.specs.Append.{AreGiven}
use Rattle.nv_mounted.specs.Writes.{blocks_in_entry, pages_in_entry}
use Rattle.nv_steps.specs.Writes.{data_blocks, data_entries, ended_entries, run_entries}
use Rattle.nv_steps.specs.Written.{entry_blocks, entry_pages}
use Rattle.nv_steps.specs.declared.planning.Plan.{Plan}
use Rattle.nv_steps.proofs.RunEntries.{FirstApart, IsEntryOf, blocks_are, entries_count, entries_given, entry_of, first_apart, first_is, one, more, page_there, pages_from, pages_once}

-- ---- the first block by itself

-- What the runs are without their first block.
pub record IsRest (r : Run) (runs rest : List Run) : Type 0 where
  pub count : 1 + blocks_in rest ≡ blocks_in (r ∷ runs)
  pub back : (b : ℕ) → HasBlock rest b → HasBlock (r ∷ runs) b
  pub either : (b : ℕ) → HasBlock (r ∷ runs) b → (b ≡ r.start) ⊎ HasBlock rest b
  pub once : Disjoint (r ∷ runs) → Disjoint rest × (HasBlock rest r.start → ⊥)
  pub some : (x : Run) → Contains rest x → 0 < x.count
  pub first : HasBlock (r ∷ runs) r.start

pub rest_is : (r : Run) (runs : List Run) → ((x : Run) → Contains (r ∷ runs) x → 0 < x.count) → IsRest r runs (left 1 (r ∷ runs))
rest_is r runs some = by (first_apart r runs (some r (Contains-head r runs))) where
  has_first : HasBlock (r ∷ runs) r.start
  has_first = first_block r runs r.start (omega arith, (let n = some r (Contains-head r runs) in omega (arith, n)))

  by : FirstApart r runs → IsRest r runs (left 1 (r ∷ runs))
  by (one single is) = subst (IsRest r runs) (sym is) (record {
    count = (let sum = blocks_cons r runs in omega (arith, sum, single));
    back = λ b w. later_block r runs b w;
    either = λ b w. elim (block_cases r runs b w) [ inl here ↦ inl (omega (arith, here.0, here.1, single)) | inr rest ↦ inr rest ];
    once = λ d. (d.1, d.0 r.start (omega arith, omega (arith, single)));
    some = λ x c. some x (Contains-tail r runs x c);
    first = has_first;
  })
  by (more several is) =
      let tail : Run = record { start = r.start + 1; count = r.count - 1 } in
      subst (IsRest r runs) (sym is) (record {
        count = (let sum = blocks_cons r runs in let part = blocks_cons tail runs in omega (arith, sum, part, several));
        back = λ b w. elim (block_cases tail runs b w) [ inl here ↦ first_block r runs b (let low = here.0 in omega (arith, low), let high = here.1 in omega (arith, high, several)) | inr rest ↦ later_block r runs b rest ];
        either = λ b w. elim (block_cases r runs b w) [
          | inl here ↦ elim (cases_first r b here) [ inl first ↦ inl first | inr later ↦ inr (first_block tail runs b later) ]
          | inr rest ↦ inr (later_block tail runs b rest)
        ];
        once = λ d. (
          ((λ b here w. d.0 b (let low = here.0 in omega (arith, low), let high = here.1 in omega (arith, high, several)) w), d.1),
          (λ w. elim (block_cases tail runs r.start w) [ inl here ↦ (let low = here.0 in omega (arith, low)) | inr rest ↦ d.0 r.start (omega arith, omega (arith, several)) rest ]),
        );
        some = λ x c. elim (Contains-cons tail runs x c) [ inl same ↦ (let n = ap (λ (y : Run). y.count) same in omega (arith, n, several)) | inr c ↦ some x (Contains-tail r runs x c) ];
        first = has_first;
      })
    where
      cases_first : (r : Run) (b : ℕ) → InRun r b → (b ≡ r.start) ⊎ InRun (record { start = r.start + 1; count = r.count - 1 }) b
      cases_first r b here = elim (cases_eq b r.start) [ inl same ↦ inl same | inr differ ↦ inr ((let low = here.0 in omega (arith, low, differ)), (let high = here.1 in let low = here.0 in omega (arith, high, low, differ))) ]

-- ---- all entries

-- What is known of a plan and the runs that were taken for it.
pub record Fits (plan : Plan) (runs : List Run) : Type 0 where
  pub blocks : blocks_in runs ≡ data_blocks plan
  pub some : (r : Run) → Contains runs r → 0 < r.count
  pub once : Disjoint runs
  pub pages : 0 < plan.pages
  pub before : (q : ℕ) → plan.ending ≡ Some q → q < plan.first

-- a page that the plan writes
abbrev pub IsWritten : Plan → ℕ → Type 0
IsWritten plan p = (plan.ending ≡ Some p) ⊎ ((plan.first ≤ p) × (p < plan.first + plan.pages))

-- What the entries write.
pub record Describes (plan : Plan) (runs : List Run) (entries : List Entry) : Type 0 where
  pub blocks : (b : ℕ) → HasBlock (entry_blocks entries) b ↔ HasBlock runs b
  pub blocks_once : Disjoint (entry_blocks entries)
  pub pages : (p : ℕ) → HasBlock (entry_pages entries) p ↔ IsWritten plan p
  pub pages_once : Disjoint (entry_pages entries)
  pub each : (e : Entry) → Contains entries e → (w : WriteEntry) × (e ≡ Write w) × (0 < w.count) × (w.offset + w.count ≤ plan.first + plan.pages) × (w.size ≡ plan.size) × (w.time ≡ plan.time) × ((b : ℕ) → w.block ≤ b → b < w.block + w.count → HasBlock runs b)
  pub given : AreGiven entries
  pub there : 0 < length entries

-- an entry as it is described
describe_entry : (plan : Plan) (from to : ℕ) (all runs : List Run) → ((b : ℕ) → HasBlock runs b → HasBlock all b) → ((r : Run) → Contains runs r → 0 < r.count) → to ≤ plan.first + plan.pages → (e : Entry) → (w : WriteEntry) × (e ≡ Write w) × IsEntryOf plan from to runs w
    → (w : WriteEntry) × (e ≡ Write w) × (0 < w.count) × (w.offset + w.count ≤ plan.first + plan.pages) × (w.size ≡ plan.size) × (w.time ≡ plan.time) × ((b : ℕ) → w.block ≤ b → b < w.block + w.count → HasBlock all b)
describe_entry plan from to all runs within some fits e v =
    let w = v.2 in
    let count = w.count in
    let block = w.block in (
      v.0,
      v.1,
      (let n = some w.run w.here in omega (arith, n, count)),
      (let high = w.high in omega (arith, high, fits)),
      w.size,
      w.time,
      λ b low high. within b (w.run, w.here, omega (arith, low, block), omega (arith, high, block, count)),
    )

some_runs : (runs : List Run) → 0 < blocks_in runs → 0 < length runs
some_runs [] some = some
some_runs (r ∷ runs) some = omega arith

-- without a page where the file ended
plain : (plan : Plan) (runs : List Run) → Fits plan runs → plan.ending ≡ None → Describes plan runs (run_entries plan plan.first runs)
plain plan runs fits none =
    let same = blocks_are plan plan.first runs in
    let total : blocks_in runs ≡ plan.pages = (let sum = fits.blocks in let one : data_blocks plan ≡ plan.pages + 0 = ap (λ (o : Option ℕ). plan.pages + cond (is_some o) 1 0) none in omega (arith, sum, one)) in
    record {
      blocks = λ b. ((λ w. subst (λ (xs : List Run). HasBlock xs b) same w), (λ w. subst (λ (xs : List Run). HasBlock xs b) (sym same) w));
      blocks_once = subst Disjoint (sym same) fits.once;
      pages = λ p. (
        (λ w. inr (let v = pages_from plan plan.first p runs w in (v.0, omega (arith, v.1, total)))),
        (λ w. elim w [ inl ends ↦ absurd (let clash : None ≡ Some p = sym none ∙ ends in cc) | inr v ↦ page_there plan plan.first p runs v.0 (omega (arith, v.1, total)) ]),
      );
      pages_once = pages_once plan plan.first runs;
      each = λ e c. describe_entry plan plan.first (plan.first + plan.pages) runs runs (λ b w. w) fits.some (omega arith) e (entry_of plan plan.first (plan.first + plan.pages) runs (omega (arith, total)) e c);
      given = entries_given plan plan.first runs;
      there = (let count = entries_count plan plan.first runs in let n = some_runs runs (let m = fits.pages in omega (arith, m, total)) in omega (arith, count, n));
    }

given_more : (xs ys : List Entry) → AreGiven xs → AreGiven ys → AreGiven (xs ++ ys)
given_more [] ys first second = second
given_more (x ∷ xs) ys first second = (first.0, given_more xs ys first.1 second)

-- with it
module _ (plan : Plan) (q : ℕ) (r : Run) (runs : List Run) (fits : Fits plan (r ∷ runs)) (ends : plan.ending ≡ Some q) where
  abbrev front : List Run
  front = block_run r.start ∷ []

  abbrev rest : List Run
  rest = left 1 (r ∷ runs)

  abbrev here : List Entry
  here = run_entries plan q front

  abbrev later : List Entry
  later = run_entries plan plan.first rest

  apart : IsRest r runs rest
  apart = rest_is r runs fits.some

  total : blocks_in rest ≡ plan.pages
  total = (let sum = fits.blocks in let one : data_blocks plan ≡ plan.pages + 1 = ap (λ (o : Option ℕ). plan.pages + cond (is_some o) 1 0) ends in let n = apart.count in omega (arith, sum, one, n))

  earlier : q < plan.first
  earlier = fits.before q ends

  block_list : entry_blocks (here ++ later) ≡ front ++ rest
  block_list = filter_map-append blocks_in_entry here later ∙ ap (λ (xs : List Run). front ++ xs) (blocks_are plan plan.first rest)

  page_list : entry_pages (here ++ later) ≡ entry_pages here ++ entry_pages later
  page_list = filter_map-append pages_in_entry here later

  in_front : (b : ℕ) → HasBlock front b → b ≡ r.start
  in_front b w = elim (block_cases (block_run r.start) [] b w) [ inl v ↦ (let low = v.0 in let high = v.1 in omega (arith, low, high)) | inr none ↦ absurd (none_in none.0 none.1) ]

  front_has : HasBlock front r.start
  front_has = first_block (block_run r.start) [] r.start (omega arith, omega arith)

  blocks_both : (b : ℕ) → HasBlock (front ++ rest) b ↔ HasBlock (r ∷ runs) b
  blocks_both b = (
    (λ w. elim (block_sides front rest b w) [ inl v ↦ subst (λ (c : ℕ). HasBlock (r ∷ runs) c) (sym (in_front b v)) apart.first | inr v ↦ apart.back b v ]),
    (λ w. elim (apart.either b w) [ inl same ↦ block_left front rest b (subst (λ (c : ℕ). HasBlock front c) (sym same) front_has) | inr v ↦ block_right front rest b v ]),
  )

  page_here : (p : ℕ) → HasBlock (entry_pages here) p → p ≡ q
  page_here p w = (let v = pages_from plan q p front w in omega (arith, v.0, v.1))

  here_page : HasBlock (entry_pages here) q
  here_page = page_there plan q q front (omega arith) (omega arith)

  pages_both : (p : ℕ) → HasBlock (entry_pages here ++ entry_pages later) p ↔ IsWritten plan p
  pages_both p = (
    (λ w. elim (block_sides (entry_pages here) (entry_pages later) p w) [
      | inl v ↦ inl (ends ∙ ap (λ (n : ℕ). Some n) (sym (page_here p v)))
      | inr v ↦ inr (let u = pages_from plan plan.first p rest v in (u.0, omega (arith, u.1, total)))
    ]),
    (λ w. elim w [
      | inl at ↦ (let same : q ≡ p = same_Some _ _ (sym ends ∙ at) in block_left (entry_pages here) (entry_pages later) p (subst (λ (n : ℕ). HasBlock (entry_pages here) n) same here_page))
      | inr v ↦ block_right (entry_pages here) (entry_pages later) p (page_there plan plan.first p rest v.0 (omega (arith, v.1, total)))
    ]),
  )

  one_entry : (e : Entry) → Contains here e → (w : WriteEntry) × (e ≡ Write w) × IsEntryOf plan q (q + 1) front w
  one_entry e c = entry_of plan q (q + 1) front (omega arith) e c

  single_some : (x : Run) → Contains front x → 0 < x.count
  single_some x c = elim (Contains-cons (block_run r.start) [] x c) [ inl same ↦ (let n = ap (λ (y : Run). y.count) same in omega (arith, n)) | inr none ↦ absurd (none_in x none) ]

  ended : Describes plan (r ∷ runs) (here ++ later)
  ended = record {
    blocks = λ b. (let both = blocks_both b in ((λ w. both.0 (subst (λ (xs : List Run). HasBlock xs b) block_list w)), (λ w. subst (λ (xs : List Run). HasBlock xs b) (sym block_list) (both.1 w))));
    blocks_once = subst Disjoint (sym block_list) (disjoint_append front rest ((λ b v w. none_in w.0 w.1), tt) (apart.once fits.once).0 (λ b v w. (apart.once fits.once).1 (subst (λ (c : ℕ). HasBlock rest c) (in_front b v) w)));
    pages = λ p. (let both = pages_both p in ((λ w. both.0 (subst (λ (xs : List Run). HasBlock xs p) page_list w)), (λ w. subst (λ (xs : List Run). HasBlock xs p) (sym page_list) (both.1 w))));
    pages_once = subst Disjoint (sym page_list) (disjoint_append (entry_pages here) (entry_pages later) (pages_once plan q front) (pages_once plan plan.first rest)
        (λ p v w. (let at = page_here p v in let u = pages_from plan plan.first p rest w in let before = earlier in omega (arith, at, u.0, before))));
    each = λ e c. elim (Contains-append_cases here later e c) [
      | inl v ↦ describe_entry plan q (q + 1) (r ∷ runs) front (λ b w. (blocks_both b).0 (block_left front rest b w)) single_some (let before = earlier in let n = fits.pages in omega (arith, before, n)) e (one_entry e v)
      | inr v ↦ describe_entry plan plan.first (plan.first + plan.pages) (r ∷ runs) rest apart.back apart.some (omega arith) e (entry_of plan plan.first (plan.first + plan.pages) rest (let n = total in omega (arith, n)) e v)
    ];
    given = given_more here later (entries_given plan q front) (entries_given plan plan.first rest);
    there = omega arith;
  }

by_ending : (plan : Plan) (runs : List Run) → Fits plan runs → (o : Option ℕ) → plan.ending ≡ o → Describes plan runs (ended_entries plan o runs)
by_ending plan runs fits None none = plain plan runs fits none
by_ending plan [] fits (Some q) ends = absurd (let sum = fits.blocks in let n = fits.pages in omega (arith, sum, n))
by_ending plan (r ∷ runs) fits (Some q) ends =
    subst (λ (xs : List Run). Describes plan (r ∷ runs) (run_entries plan q xs ++ run_entries plan plan.first (left 1 (r ∷ runs)))) (sym (first_is r runs (fits.some r (Contains-head r runs)))) (ended plan q r runs fits ends)

-- What the entries of a write are.
pub describes : (plan : Plan) (runs : List Run) → Fits plan runs → Describes plan runs (data_entries plan runs)
describes plan runs fits = by_ending plan runs fits plan.ending refl
