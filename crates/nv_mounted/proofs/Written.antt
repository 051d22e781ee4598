-- Which block each page of a file has once its log grew by entries that write blocks and set its size.
use Rattle.std.proofs.Common.{◌≡◌, ℕ, ◌+◌, ◌-◌, ◌*◌, ◌<◌, ◌≤◌, ◌⊎◌, inl, inr, Bool, true, false, cond, nat_le, List, [], ◌∷◌, length, refl, ap, sym, ◌∙◌, subst, arith, Option, Some, None, unwrap_or}
use Rattle.std.specs.List.{Contains, cons_option}
use Rattle.std.proofs.lemmas.Bool.{cases_lt}
use Rattle.std.proofs.lemmas.Bool.Decides.{nat_tests}
use Rattle.std.proofs.lemmas.Option.{none-some, same_Some}
use Rattle.nv_super.specs.declared.owners.Run.{Run}
use Rattle.nv_super.specs.declared.superblock.Super.{Super}
use Rattle.nv_super.specs.declared.kind.Kind.{Kind}
use Rattle.nv_super.specs.Runs.{InRun}
use Rattle.nv_super.proofs.Members.{none_in}
use Rattle.nv_super.proofs.Rising.{Contains-cons, Contains-head, Contains-tail}
use Rattle.nv_alloc.specs.Taking.{Disjoint, HasBlock}
use Rattle.nv_alloc.proofs.Leaving.{block_cases}
use Rattle.nv_entry.specs.declared.entry.WriteEntry.{WriteEntry}
use Rattle.nv_entry.specs.declared.entry.Entry.{Entry}
use Rattle.nv_entry.specs.declared.entry.Entry.TheVariants.{NextPage, Write, Attr, Name, Links}
use Rattle.nv_entry.specs.Content.{is_good}
use Rattle.nv_logpage.specs.declared.found.Placed.{Placed}
use Rattle.nv_radix.specs.Pages.{in_run}
use Rattle.nv_scan.specs.LastWord.{last_word}
use Rattle.nv_scan.specs.State.{cuts, block_in, size_in, says_block, says_size}
use Rattle.nv_scan.proofs.Blocks.{in_range}
use Rattle.nv_scan.proofs.Sizes.{write_below}
use Rattle.nv_scan.proofs.Words.{last_word-cons}
use Rattle.nv_outcome.proofs.Finite.{Decided}
use Rattle.nv_mounted.specs.Writes.{blocks_in_entry, pages_in_entry, written_blocks, written_pages}

-- ---- runs with one more in front

run_there : (o : Option Run) (runs : List Run) (b : ℕ) → HasBlock runs b → HasBlock (cons_option o runs) b
run_there None runs b w = w
run_there (Some r) runs b w = (w.0, Contains-tail r runs w.0 w.1, w.2, w.3)

run_here : (r : Run) (o : Option Run) (runs : List Run) (b : ℕ) → o ≡ Some r → InRun r b → HasBlock (cons_option o runs) b
run_here r o runs b same w = subst (λ (p : Option Run). HasBlock (cons_option p runs) b) (sym same) (r, Contains-head r runs, w.0, w.1)

rest_disjoint : (o : Option Run) (runs : List Run) → Disjoint (cons_option o runs) → Disjoint runs
rest_disjoint None runs d = d
rest_disjoint (Some r) runs d = d.1

first_disjoint : (r : Run) (o : Option Run) (runs : List Run) → o ≡ Some r → Disjoint (cons_option o runs) → (b : ℕ) → InRun r b → HasBlock runs b → ⊥
first_disjoint r o runs same d = (subst (λ (p : Option Run). Disjoint (cons_option p runs)) same d).0

-- whether runs have a block
pub in_runs : (runs : List Run) (b : ℕ) → Decided (HasBlock runs b)
in_runs [] b = inr (λ w. none_in w.0 w.1)
in_runs (r ∷ runs) b = elim (in_runs runs b) [
  | inl w ↦ inl (w.0, Contains-tail r runs w.0 w.1, w.2, w.3)
  | inr none ↦ elim (cases_lt b r.start) [
    | inl low ↦ inr (λ w. elim (block_cases r runs b w) [ inl here ↦ (let from = here.0 in omega (arith, from, low)) | inr there ↦ none there ])
    | inr from ↦ elim (cases_lt b (r.start + r.count)) [
      | inl to ↦ inl (r, Contains-head r runs, from, to)
      | inr high ↦ inr (λ w. elim (block_cases r runs b w) [ inl here ↦ (let to = here.1 in omega (arith, to, high)) | inr there ↦ none there ])
    ]
  ]
]

-- ---- what one entry says of a page

-- a write entry maps the page to the block
pub record MapsHere (x : Placed) (p b : ℕ) : Type 0 where
  pub e : WriteEntry
  pub is : x.entry ≡ Write e
  pub run : in_run e.offset e.count p ≡ true
  pub block : e.block + (p - e.offset) ≡ b

no_cut : (size p b : ℕ) → cuts size p ≡ Some (Some b) → ⊥
no_cut size p b = test (nat_le size (p * 4096)) where
  test : (t : Bool) → cond {A = Option (Option ℕ)} t (Some None) None ≡ Some (Some b) → ⊥
  test true h = none-some b (same_Some None (Some b) h)
  test false h = none-some (Some b) h

says_maps : (x : Placed) (p b : ℕ) → says_block p x ≡ Some (Some b) → MapsHere x p b
says_maps x p b h = by_entry x.entry refl h where
  of_write : (e : WriteEntry) → x.entry ≡ Write e → (t : Bool) → in_run e.offset e.count p ≡ t → cond t (Some (Some (e.block + (p - e.offset)))) (cuts e.size p) ≡ Some (Some b) → MapsHere x p b
  of_write e is true run said = record { e = e; is = is; run = run; block = same_Some (e.block + (p - e.offset)) b (same_Some (Some (e.block + (p - e.offset))) (Some b) said) }
  of_write e is false run said = absurd (no_cut e.size p b said)

  by_entry : (e : Entry) → x.entry ≡ e → block_in p e ≡ Some (Some b) → MapsHere x p b
  by_entry (Write e) is said = of_write e is (in_run e.offset e.count p) refl said
  by_entry (Attr e) is said = absurd (no_cut e.size p b said)
  by_entry NextPage is said = absurd (none-some (Some b) said)
  by_entry (Name e) is said = absurd (none-some (Some b) said)
  by_entry (Links e) is said = absurd (none-some (Some b) said)

-- the block and the page are the entry's
here_block : (x : Placed) (p b : ℕ) (m : MapsHere x p b) → InRun (record { start = m.e.block; count = m.e.count }) b
here_block x p b m =
    let from : m.e.offset ≤ p = (let run = m.run in grind (arith, nat_tests)) in
    let to : p < m.e.offset + m.e.count = (let run = m.run in grind (arith, nat_tests)) in
    let same = m.block in
    (omega (arith, same), omega (arith, same, from, to))

one_entry : (x : Placed) (p q b : ℕ) → MapsHere x p b → MapsHere x q b → p ≡ q
one_entry x p q b m n =
    let same : m.e ≡ n.e = write_only m.e n.e (sym m.is ∙ n.is) in
    let from : m.e.offset ≤ p = (let run = m.run in grind (arith, nat_tests)) in
    let other : n.e.offset ≤ q = (let run = n.run in grind (arith, nat_tests)) in
    let offset : m.e.offset ≡ n.e.offset = ap (λ (e : WriteEntry). e.offset) same in
    let block : m.e.block ≡ n.e.block = ap (λ (e : WriteEntry). e.block) same in
    let first = m.block in
    let second = n.block in
    omega (arith, from, other, offset, block, first, second)
  where
    write_only : (d e : WriteEntry) → Write d ≡ Write e → d ≡ e
    write_only d e h = cc

-- ---- what entries say together

-- one of the entries maps the page to the block
abbrev pub MapsIn : List Placed → ℕ → ℕ → Type 0
MapsIn [] p b = ⊥
MapsIn (x ∷ xs) p b = MapsHere x p b ⊎ MapsIn xs p b

step : (x : Placed) (p b : ℕ) (m : Option ℕ) (o : Option (Option ℕ)) → says_block p x ≡ o → unwrap_or o m ≡ Some b → (m ≡ Some b) ⊎ MapsHere x p b
step x p b m None says h = inl h
step x p b m (Some v) says h = inr (says_maps x p b (says ∙ ap Some h))

-- a page has the block that it had, or that of an entry
pub maps_from : (xs : List Placed) (p b : ℕ) (m : Option ℕ) → last_word (says_block p) m xs ≡ Some b → (m ≡ Some b) ⊎ MapsIn xs p b
maps_from [] p b m h = inl h
maps_from (x ∷ xs) p b m h = elim (maps_from xs p b (unwrap_or (says_block p x) m) (sym (last_word-cons (says_block p) m x xs) ∙ h)) [
  | inl first ↦ elim (step x p b m (says_block p x) refl first) [ inl old ↦ inl old | inr here ↦ inr (inl here) ]
  | inr rest ↦ inr (inr rest)
]

pub maps_written : (xs : List Placed) (p b : ℕ) → MapsIn xs p b → HasBlock (written_blocks xs) b
maps_written [] p b none = absurd none
maps_written (x ∷ xs) p b (inl m) = run_here (record { start = m.e.block; count = m.e.count }) (blocks_in_entry x.entry) (written_blocks xs) b (ap blocks_in_entry m.is) (here_block x p b m)
maps_written (x ∷ xs) p b (inr rest) = run_there (blocks_in_entry x.entry) (written_blocks xs) b (maps_written xs p b rest)

pub maps_once : (xs : List Placed) (p q b : ℕ) → Disjoint (written_blocks xs) → MapsIn xs p b → MapsIn xs q b → p ≡ q
maps_once [] p q b once none other = absurd none
maps_once (x ∷ xs) p q b once (inl m) (inl n) = one_entry x p q b m n
maps_once (x ∷ xs) p q b once (inl m) (inr n) = absurd (first_disjoint (record { start = m.e.block; count = m.e.count }) (blocks_in_entry x.entry) (written_blocks xs) (ap blocks_in_entry m.is) once b (here_block x p b m) (maps_written xs q b n))
maps_once (x ∷ xs) p q b once (inr m) (inl n) = absurd (first_disjoint (record { start = n.e.block; count = n.e.count }) (blocks_in_entry x.entry) (written_blocks xs) (ap blocks_in_entry n.is) once b (here_block x q b n) (maps_written xs p b m))
maps_once (x ∷ xs) p q b once (inr m) (inr n) = maps_once xs p q b (rest_disjoint (blocks_in_entry x.entry) (written_blocks xs) once) m n

-- ---- entries that give one size

-- the page is the entry's
page_here : (e : WriteEntry) (p : ℕ) → in_run e.offset e.count p ≡ true → InRun (record { start = e.offset; count = e.count }) p
page_here e p run = (grind (arith, nat_tests), grind (arith, nat_tests))

-- it isn't
page_away : (e : WriteEntry) (p : ℕ) → (InRun (record { start = e.offset; count = e.count }) p → ⊥) → in_run e.offset e.count p ≡ false
page_away e p away = test (in_run e.offset e.count p) refl where
  test : (t : Bool) → in_run e.offset e.count p ≡ t → in_run e.offset e.count p ≡ false
  test true run = absurd (away (page_here e p run))
  test false run = run

-- an entry that doesn't write the page says of it what its size does
cuts_alone : (x : Placed) (p size : ℕ) → says_size x ≡ Some size → ((r : Run) → pages_in_entry x.entry ≡ Some r → InRun r p → ⊥) → says_block p x ≡ cuts size p
cuts_alone x p size sized away = by_entry x.entry refl sized where
  by_entry : (e : Entry) → x.entry ≡ e → size_in e ≡ Some size → block_in p e ≡ cuts size p
  by_entry (Write e) is s = (
      let off : in_run e.offset e.count p ≡ false = page_away e p (away (record { start = e.offset; count = e.count }) (ap pages_in_entry is)) in
      ap (λ (t : Bool). cond t (Some (Some (e.block + (p - e.offset)))) (cuts e.size p)) off ∙ ap (λ (n : ℕ). cuts n p) (same_Some e.size size s))
  by_entry (Attr e) is s = ap (λ (n : ℕ). cuts n p) (same_Some e.size size s)
  by_entry NextPage is s = absurd (none-some size s)
  by_entry (Name e) is s = absurd (none-some size s)
  by_entry (Links e) is s = absurd (none-some size s)

says_none : (p size : ℕ) → p * 4096 < size → cuts size p ≡ None
says_none p size below = test (nat_le size (p * 4096)) refl where
  test : (t : Bool) → nat_le size (p * 4096) ≡ t → cond {A = Option (Option ℕ)} t (Some None) None ≡ None
  test true past = absurd (let high : size ≤ p * 4096 = grind (arith, nat_tests) in omega (arith, high, below))
  test false within = refl

says_cut : (p size : ℕ) → size ≤ p * 4096 → cuts size p ≡ Some None
says_cut p size past = test (nat_le size (p * 4096)) refl where
  test : (t : Bool) → nat_le size (p * 4096) ≡ t → cond {A = Option (Option ℕ)} t (Some None) None ≡ Some None
  test true high = refl
  test false low = absurd (let below : p * 4096 < size = grind (arith, nat_tests) in omega (arith, below, past))

-- the entries all give this size
abbrev pub AreSized : List Placed → ℕ → Type 0
AreSized xs size = (x : Placed) → Contains xs x → says_size x ≡ Some size

-- a page that the first doesn't write
away_first : (x : Placed) (xs : List Placed) (p : ℕ) → (HasBlock (written_pages (x ∷ xs)) p → ⊥) → (r : Run) → pages_in_entry x.entry ≡ Some r → InRun r p → ⊥
away_first x xs p away r is in_run_r = away (run_here r (pages_in_entry x.entry) (written_pages xs) p is in_run_r)

away_rest : (x : Placed) (xs : List Placed) (p : ℕ) → (HasBlock (written_pages (x ∷ xs)) p → ⊥) → HasBlock (written_pages xs) p → ⊥
away_rest x xs p away w = away (run_there (pages_in_entry x.entry) (written_pages xs) p w)

-- a page below the size that isn't written stays
pub page_stays : (xs : List Placed) (p size : ℕ) (m : Option ℕ) → AreSized xs size → (HasBlock (written_pages xs) p → ⊥) → p * 4096 < size → last_word (says_block p) m xs ≡ m
page_stays [] p size m sized away below = refl
page_stays (x ∷ xs) p size m sized away below =
    let says : says_block p x ≡ None = cuts_alone x p size (sized x (Contains-head x xs)) (away_first x xs p away) ∙ says_none p size below in
    last_word-cons (says_block p) m x xs ∙ ap (λ (o : Option (Option ℕ)). last_word (says_block p) (unwrap_or o m) xs) says
    ∙ page_stays xs p size m (λ y c. sized y (Contains-tail x xs y c)) (away_rest x xs p away) below

-- one past the size that isn't written has no block
none_stays : (xs : List Placed) (p size : ℕ) → AreSized xs size → (HasBlock (written_pages xs) p → ⊥) → size ≤ p * 4096 → last_word (says_block p) None xs ≡ None
none_stays [] p size sized away past = refl
none_stays (x ∷ xs) p size sized away past =
    let says : says_block p x ≡ Some None = cuts_alone x p size (sized x (Contains-head x xs)) (away_first x xs p away) ∙ says_cut p size past in
    last_word-cons (says_block p) None x xs ∙ ap (λ (o : Option (Option ℕ)). last_word (says_block p) (unwrap_or o None) xs) says
    ∙ none_stays xs p size (λ y c. sized y (Contains-tail x xs y c)) (away_rest x xs p away) past

pub page_cut : (xs : List Placed) (p size : ℕ) (m : Option ℕ) → 0 < length xs → AreSized xs size → (HasBlock (written_pages xs) p → ⊥) → size ≤ p * 4096 → last_word (says_block p) m xs ≡ None
page_cut [] p size m some sized away past = absurd (omega (arith, some))
page_cut (x ∷ xs) p size m some sized away past =
    let says : says_block p x ≡ Some None = cuts_alone x p size (sized x (Contains-head x xs)) (away_first x xs p away) ∙ says_cut p size past in
    last_word-cons (says_block p) m x xs ∙ ap (λ (o : Option (Option ℕ)). last_word (says_block p) (unwrap_or o m) xs) says
    ∙ none_stays xs p size (λ y c. sized y (Contains-tail x xs y c)) (away_rest x xs p away) past

-- a page that an entry writes has the entry's block
pub page_written : (s : Super) (k : Kind) (xs : List Placed) (p size : ℕ) (m : Option ℕ) (x : Placed) (e : WriteEntry) → ((y : Placed) → Contains xs y → is_good s k y.entry ≡ true) → AreSized xs size → Disjoint (written_pages xs)
    → Contains xs x → x.entry ≡ Write e → in_run e.offset e.count p ≡ true → last_word (says_block p) m xs ≡ Some (e.block + (p - e.offset))
page_written s k [] p size m x e good sized once c is run = absurd (none_in x c)
page_written s k (y ∷ xs) p size m x e good sized once c is run = elim (Contains-cons y xs x c) [
  | inl same ↦ last_word-cons (says_block p) m y xs ∙ ap (λ (o : Option (Option ℕ)). last_word (says_block p) (unwrap_or o m) xs) (says same)
      ∙ page_stays xs p size (Some (e.block + (p - e.offset))) (λ z d. sized z (Contains-tail y xs z d)) (away same) (below same)
  | inr rest ↦ last_word-cons (says_block p) m y xs
      ∙ page_written s k xs p size (unwrap_or (says_block p y) m) x e (λ z d. good z (Contains-tail y xs z d)) (λ z d. sized z (Contains-tail y xs z d)) (rest_disjoint (pages_in_entry y.entry) (written_pages xs) once) rest is run
] where
  entry_is : x ≡ y → y.entry ≡ Write e
  entry_is same = ap (λ (z : Placed). z.entry) (sym same) ∙ is

  says : x ≡ y → says_block p y ≡ Some (Some (e.block + (p - e.offset)))
  says same = ap (block_in p) (entry_is same) ∙ ap (λ (t : Bool). cond t (Some (Some (e.block + (p - e.offset)))) (cuts e.size p)) run

  away : x ≡ y → HasBlock (written_pages xs) p → ⊥
  away same = first_disjoint (record { start = e.offset; count = e.count }) (pages_in_entry y.entry) (written_pages xs) (ap pages_in_entry (entry_is same)) once p (page_here e p run)

  below : x ≡ y → p * 4096 < size
  below same =
      let right : is_good s k (Write e) ≡ true = ap (is_good s k) (sym (entry_is same)) ∙ good y (Contains-head y xs) in
      let gives : e.size ≡ size = same_Some e.size size (ap size_in (sym (entry_is same)) ∙ sized y (Contains-head y xs)) in
      subst (λ (n : ℕ). p * 4096 < n) gives (write_below s p e (in_range s k (Write e) right) run)

-- a block of one of the entries is written
pub block_there : (xs : List Placed) (x : Placed) (e : WriteEntry) (b : ℕ) → Contains xs x → x.entry ≡ Write e → InRun (record { start = e.block; count = e.count }) b → HasBlock (written_blocks xs) b
block_there [] x e b c is w = absurd (none_in x c)
block_there (y ∷ xs) x e b c is w = elim (Contains-cons y xs x c) [
  | inl same ↦ run_here (record { start = e.block; count = e.count }) (blocks_in_entry y.entry) (written_blocks xs) b (ap blocks_in_entry (ap (λ (z : Placed). z.entry) (sym same) ∙ is)) w
  | inr rest ↦ run_there (blocks_in_entry y.entry) (written_blocks xs) b (block_there xs x e b rest is w)
]

-- ---- the entry of a written block or page

pub record EntryOf (xs : List Placed) (says : WriteEntry → Run) (b : ℕ) : Type 0 where
  pub x : Placed
  pub here : Contains xs x
  pub e : WriteEntry
  pub is : x.entry ≡ Write e
  pub in_it : InRun (says e) b

further : (y : Placed) (xs : List Placed) (says : WriteEntry → Run) (b : ℕ) → EntryOf xs says b → EntryOf (y ∷ xs) says b
further y xs says b w = record { x = w.x; here = Contains-tail y xs w.x w.here; e = w.e; is = w.is; in_it = w.in_it }

pub block_entry : (xs : List Placed) (b : ℕ) → HasBlock (written_blocks xs) b → EntryOf xs (λ e. record { start = e.block; count = e.count }) b
block_entry [] b w = absurd (none_in w.0 w.1)
block_entry (y ∷ xs) b w = by_entry (block_entry xs b) y.entry refl w where
  by_entry : (HasBlock (written_blocks xs) b → EntryOf xs (λ e. record { start = e.block; count = e.count }) b) → (e : Entry) → y.entry ≡ e → HasBlock (cons_option (blocks_in_entry e) (written_blocks xs)) b → EntryOf (y ∷ xs) (λ e. record { start = e.block; count = e.count }) b
  by_entry behind (Write e) is v = elim (block_cases (record { start = e.block; count = e.count }) (written_blocks xs) b v) [
    | inl here ↦ record { x = y; here = Contains-head y xs; e = e; is = is; in_it = here }
    | inr rest ↦ further y xs (λ e. record { start = e.block; count = e.count }) b (behind rest)
  ]
  by_entry behind (Attr e) is v = further y xs (λ e. record { start = e.block; count = e.count }) b (behind v)
  by_entry behind NextPage is v = further y xs (λ e. record { start = e.block; count = e.count }) b (behind v)
  by_entry behind (Name e) is v = further y xs (λ e. record { start = e.block; count = e.count }) b (behind v)
  by_entry behind (Links e) is v = further y xs (λ e. record { start = e.block; count = e.count }) b (behind v)

pub page_entry : (xs : List Placed) (p : ℕ) → HasBlock (written_pages xs) p → EntryOf xs (λ e. record { start = e.offset; count = e.count }) p
page_entry [] p w = absurd (none_in w.0 w.1)
page_entry (y ∷ xs) p w = by_entry (page_entry xs p) y.entry refl w where
  by_entry : (HasBlock (written_pages xs) p → EntryOf xs (λ e. record { start = e.offset; count = e.count }) p) → (e : Entry) → y.entry ≡ e → HasBlock (cons_option (pages_in_entry e) (written_pages xs)) p → EntryOf (y ∷ xs) (λ e. record { start = e.offset; count = e.count }) p
  by_entry behind (Write e) is v = elim (block_cases (record { start = e.offset; count = e.count }) (written_pages xs) p v) [
    | inl here ↦ record { x = y; here = Contains-head y xs; e = e; is = is; in_it = here }
    | inr rest ↦ further y xs (λ e. record { start = e.offset; count = e.count }) p (behind rest)
  ]
  by_entry behind (Attr e) is v = further y xs (λ e. record { start = e.offset; count = e.count }) p (behind v)
  by_entry behind NextPage is v = further y xs (λ e. record { start = e.offset; count = e.count }) p (behind v)
  by_entry behind (Name e) is v = further y xs (λ e. record { start = e.offset; count = e.count }) p (behind v)
  by_entry behind (Links e) is v = further y xs (λ e. record { start = e.offset; count = e.count }) p (behind v)
