-- What the first pages and the runs behind them map a page to.
use Rattle.std.proofs.Common.{◌≡◌, ◌≢◌, ℕ, zero, suc, ◌+◌, ◌-◌, ◌<◌, ◌≤◌, min, Bool, true, false, cond, if◌then◌else◌, nat_le, nat_lt, [], ◌∷◌, ◌++◌, Option, Some, None, refl, ap, sym, ◌∙◌, arith, inl, inr}
use Rattle.std.specs.Option.{option_or}
use Rattle.std.proofs.lemmas.Bool.{cases_lt, cases_eq}
use Rattle.std.proofs.lemmas.Bool.Decides.{nat_tests, eqb_tells, leb_tells}
use Rattle.nv_radix.specs.Pages.{Pages, block_at, is_ready, in_run}
use Rattle.nv_radix.specs.Runs.{Runs, block_by, one_page, front_runs}

-- below n the first pages go before what else a page maps to
abbrev pub over : ℕ → Pages → Option ℕ → ℕ → Option ℕ
over n m o p = if nat_lt p n then option_or (block_at m p) o else o

page_here : (o : Option ℕ) (n p : ℕ) (rest : Option ℕ) → n ≡ p → cond (in_run n (one_page o).count p) (Some ((one_page o).start + (p - n))) rest ≡ option_or o rest
page_here None n p rest e = grind (arith, nat_tests)
page_here (Some b) n p rest e = grind (arith, nat_tests)

page_off : (o : Option ℕ) (n p : ℕ) (one rest : Option ℕ) → n ≢ p → cond (in_run n (one_page o).count p) one rest ≡ rest
page_off None n p one rest apart = grind (arith, nat_tests)
page_off (Some b) n p one rest apart = grind (arith, nat_tests)

pub block_by-front : (n : ℕ) (m : Pages) (r : Runs) (p : ℕ) → block_by (front_runs m n ++ r) p ≡ over n m (block_by r p) p
unfolding front_runs
block_by-front zero m r p = grind (arith, nat_tests)
block_by-front (suc n) m r p = elim (cases_eq n p) [
  | inl e ↦ (
      let off : nat_lt p n ≡ false = grind (arith, nat_tests, e) in
      let on : nat_lt p (suc n) ≡ true = grind (arith, nat_tests, e) in
      let choose = λ (t : Bool). cond t (option_or (block_at m p) (block_by r p)) (block_by r p) in
      page_here (block_at m n) n p (block_by (front_runs m n ++ r) p) e
      ∙ ap (λ (q : ℕ). option_or (block_at m q) (block_by (front_runs m n ++ r) p)) e
      ∙ ap (option_or (block_at m p)) (block_by-front n m r p ∙ ap choose off)
      ∙ sym (ap choose on))
  | inr apart ↦ (
      let same : nat_lt p n ≡ nat_lt p (suc n) = grind (arith, nat_tests, apart) in
      page_off (block_at m n) n p _ _ apart ∙ block_by-front n m r p ∙ ap (λ (t : Bool). cond t (option_or (block_at m p) (block_by r p)) (block_by r p)) same)
]

-- a page that isn't ready isn't mapped
pub unready : (m : Pages) (p : ℕ) → is_ready m p ≡ false → block_at m p ≡ None
unready [] p h = refl
unready (x ∷ xs) p h = elim (eqb_tells x.0 p) [
  | inl w ↦ absurd (grind (arith, nat_tests, w.0, h))
  | inr w ↦ rw w.0 (unready xs p (grind (arith, nat_tests, w.0, h)))
]

module _ (m n : Pages) (r s : Runs) (page block count : ℕ) where
  -- a run is mapped by both
  pub set_both : (part : ℕ) → part ≡ min count (64 - page) → page < 64
      → ((p : ℕ) → block_at n p ≡ (if in_run page part p then Some (block + (p - page)) else block_at m p))
      → ((p : ℕ) → block_by s p ≡ (if in_run page count p then Some (block + (p - page)) else block_by r p))
      → (p : ℕ) → block_by (front_runs n 64 ++ s) p ≡ (if in_run page count p then Some (block + (p - page)) else block_by (front_runs m 64 ++ r) p)
  set_both part is first front rest p = rw (block_by-front 64 n s p, block_by-front 64 m r p, front p, rest p) (grind (arith, nat_tests, is, first))

  -- a run that ends among the first pages is mapped by these alone
  pub set_within : (part : ℕ) → part ≡ min count (64 - page) → page < 64 → page + count ≤ 64
      → ((p : ℕ) → block_at n p ≡ (if in_run page part p then Some (block + (p - page)) else block_at m p))
      → (p : ℕ) → block_by (front_runs n 64 ++ r) p ≡ (if in_run page count p then Some (block + (p - page)) else block_by (front_runs m 64 ++ r) p)
  set_within part is first within front p = rw (block_by-front 64 n r p, block_by-front 64 m r p, front p) (grind (arith, nat_tests, is, first, within))

  -- a run is mapped by the runs alone, where no first page is mapped or the run stands behind them
  pub set_behind : (page < 64 → (p : ℕ) → p < 64 → is_ready m p ≡ false)
      → ((p : ℕ) → block_by s p ≡ (if in_run page count p then Some (block + (p - page)) else block_by r p))
      → (p : ℕ) → block_by (front_runs m 64 ++ s) p ≡ (if in_run page count p then Some (block + (p - page)) else block_by (front_runs m 64 ++ r) p)
  set_behind none rest p = rw (block_by-front 64 m s p, block_by-front 64 m r p, rest p) (elim (cases_lt page 64) [
    | inl less ↦ elim (cases_lt p 64) [
      | inl low ↦ rw (unready m p (none less p low)) (grind (arith, nat_tests))
      | inr high ↦ grind (arith, nat_tests, high)
    ]
    | inr more ↦ grind (arith, nat_tests, more)
  ])

  -- the pages from one on are cut from both
  pub cut_both : ((p : ℕ) → block_at n p ≡ (if nat_le page p then None else block_at m p))
      → ((p : ℕ) → block_by s p ≡ (if nat_le page p then None else block_by r p))
      → (p : ℕ) → block_by (front_runs n 64 ++ s) p ≡ (if nat_le page p then None else block_by (front_runs m 64 ++ r) p)
  cut_both front rest p = rw (block_by-front 64 n s p, block_by-front 64 m r p, front p, rest p) (grind (arith, nat_tests))

  -- pages behind the first ones are cut from the runs
  pub cut_behind : 64 ≤ page → ((p : ℕ) → block_by s p ≡ (if nat_le page p then None else block_by r p))
      → (p : ℕ) → block_by (front_runs m 64 ++ s) p ≡ (if nat_le page p then None else block_by (front_runs m 64 ++ r) p)
  cut_behind from rest p = rw (block_by-front 64 m s p, block_by-front 64 m r p, rest p) (grind (arith, nat_tests, from))

-- where no first page is ready, the runs say all
pub runs_alone : (m : Pages) (r : Runs) → ((p : ℕ) → p < 64 → is_ready m p ≡ false) → (p : ℕ) → block_by (front_runs m 64 ++ r) p ≡ block_by r p
runs_alone m r none p = rw (block_by-front 64 m r p) (elim (cases_lt p 64) [
  | inl low ↦ rw (unready m p (none p low)) (grind (arith, nat_tests))
  | inr high ↦ grind (arith, nat_tests, high)
])

-- a page that neither maps is unmapped
pub none_from : (m : Pages) (r : Runs) (p : ℕ) → block_at m p ≡ None → block_by r p ≡ None → block_by (front_runs m 64 ++ r) p ≡ None
none_from m r p front rest = rw (block_by-front 64 m r p, front, rest) (grind (arith, nat_tests))

-- a page of the leaf is set, where no page that a write cuts is mapped
pub set_one : (m n : Pages) (r : Runs) (page block count end : ℕ) → page < 64 → count ≡ 1
    → ((p : ℕ) → block_at n p ≡ (if in_run page 1 p then Some (block + (p - page)) else block_at m p))
    → ((p : ℕ) → end ≤ p → block_by (front_runs m 64 ++ r) p ≡ None)
    → (p : ℕ) → block_by (front_runs n 64 ++ r) p ≡ (if in_run page count p then Some (block + (p - page)) else (if nat_le end p then None else block_by (front_runs m 64 ++ r) p))
set_one m n r page block count end first one front none p =
    set_within m n r r page block count 1 (omega (arith, first, one)) first (omega (arith, first, one)) front p
    ∙ ap (λ (o : Option ℕ). cond (in_run page count p) (Some (block + (p - page))) o) (elim (leb_tells end p) [ inl w ↦ rw w.0 (none p w.1) | inr w ↦ rw w.0 refl ])

-- ---- what one page maps to

-- a page behind the first ones is mapped by the runs
pub got_behind : (m : Pages) (r : Runs) (p : ℕ) → 64 ≤ p → block_by (front_runs m 64 ++ r) p ≡ block_by r p
got_behind m r p from = rw (block_by-front 64 m r p) (grind (arith, nat_tests, from))

-- a first page has the leaf's block
pub got_first : (m : Pages) (r : Runs) (p b : ℕ) → p < 64 → block_at m p ≡ Some b → block_by (front_runs m 64 ++ r) p ≡ Some b
got_first m r p b low here = rw (block_by-front 64 m r p, here) (grind (arith, nat_tests, low))

-- or else that of the runs
pub got_other : (m : Pages) (r : Runs) (p : ℕ) → block_at m p ≡ None → block_by (front_runs m 64 ++ r) p ≡ block_by r p
got_other m r p here = rw (block_by-front 64 m r p, here) (grind (arith, nat_tests))
