use Rattle.std.proofs.Common.{◌≡◌, ◌<◌, ◌≤◌, ◌+◌, ◌-◌, ◌*◌, ◌/◌, ◌%◌, ◌^◌, ◌∷◌, ℕ, List, Fits, w64, suc, get_or, length, arith, ap, refl, sym, subst, ◌∙◌, is_err}
use Rattle.std.proofs.lemmas.Result.{IfOk-from_err}
use Rattle.nv_region.specs.Region.{size}
use Rattle.nv_region.proofs.Fuses.{keeps_more}
use Rattle.nv_region.proofs.Wordwise.{stores_more, stores_none, stored_only}
use Rattle.nv_logpage.specs.Append.{EndBy, Linked}
use Rattle.nv_logpage.specs.Writing.{LinkWords}
use Rattle.nv_logpage.proofs.Placing.{link_more, next_page}
use Rattle.nv_logpage.proofs.appending.link_pages.Goals as goal

-- the link of a page lies within the region, as the page does
link_within : (first : ℕ) (fresh : List ℕ) (count k page limit : ℕ) → count ≤ length fresh → k < count → page ≡ get_or (first ∷ fresh) k 0 → EndBy (first ∷ fresh) limit → page * 4096 + 4064 + 8 ≤ limit
link_within first fresh count k page limit few inside is end = omega (arith, is, end k (omega arith))

link_aligned : (page : ℕ) → (page * 4096 + 4064) % 8 ≡ 0
link_aligned page = omega arith

one_link : (first : ℕ) (fresh : List ℕ) (count k page i : ℕ) → k < count → page ≡ get_or (first ∷ fresh) k 0 → i ≡ (page * 4096 + 4064) / 8 → LinkWords (first ∷ fresh) count i 0
one_link first fresh count k page i inside is at = (k, inside, omega (arith, is))

below : (at n limit : ℕ) → at + n ≤ limit → limit < 2 ^ 64 → Fits w64 at
below at n limit end small = omega arith

page_below : (page limit : ℕ) → page * 4096 + 4064 + 8 ≤ limit → limit < 2 ^ 64 → Fits w64 (page * 4096)
page_below page limit end small = omega arith

value_below : (first : ℕ) (fresh : List ℕ) (count k limit : ℕ) → count ≤ length fresh → k < count → EndBy (first ∷ fresh) limit → limit < 2 ^ 64 → Fits w64 (get_or fresh k 0 * 4096)
value_below first fresh count k limit few inside end small = omega (arith, end (suc k) (omega arith))

inside_fresh : (k count n : ℕ) → k < count → count ≤ n → k < n
inside_fresh k count n inside few = omega arith

some_counted : {A : Type 0} {k count : ℕ} → k < count → count ≡ 0 → A
some_counted h none = absurd (omega arith)

one_more : {A : Type 0} (k : ℕ) → k + 1 ≡ 0 → A
one_more k none = absurd (omega arith)

none_below : {A : Type 0} {j : ℕ} → j < 0 → A
none_below h = absurd (omega arith)

one_less : (k n : ℕ) → k < n → n - (k + 1) < n - k
one_less k n h = omega arith

page_link : (page at : ℕ) → page ≡ at → page * 4096 + 4064 ≡ 4096 * at + 4064
page_link page at is = omega arith

turned : (n : ℕ) → n * 4096 ≡ 4096 * n
turned n = omega arith

all_done : {k count : ℕ} → k ≤ count → count ≤ k → k ≡ count
all_done low high = omega arith

pub bounds-fresh-k : goal.bounds-fresh-k
bounds-fresh-k g c = inside_fresh c.loop-k.k c.args.count (length c.args.fresh.now) c.loop-k-test.true c.requires.count

pub overflow_mul-page : goal.overflow_mul-page
overflow_mul-page g c = page_below c.loop-k.page (size (g.P.Pmem.region c.args.memory.now)) (link_within c.args.first c.args.fresh.now c.args.count c.loop-k.k c.loop-k.page (size (g.P.Pmem.region c.args.memory.now)) c.requires.count c.loop-k-test.true c.loop-k.invariant.page c.requires.inside) c.requires.small

pub overflow_add-page : goal.overflow_add-page
overflow_add-page g c = below (c.loop-k.page * 4096 + 4064) 8 (size (g.P.Pmem.region c.args.memory.now)) (link_within c.args.first c.args.fresh.now c.args.count c.loop-k.k c.loop-k.page (size (g.P.Pmem.region c.args.memory.now)) c.requires.count c.loop-k-test.true c.loop-k.invariant.page c.requires.inside) c.requires.small

pub overflow_mul-next : goal.overflow_mul-next
overflow_mul-next g c = value_below c.args.first c.args.fresh.now c.args.count c.loop-k.k (size (g.P.Pmem.region c.args.memory.now)) c.requires.count c.loop-k-test.true c.requires.inside c.requires.small

pub store_word-requires-clause-aligned : goal.store_word-requires-clause-aligned
store_word-requires-clause-aligned g c = link_aligned c.loop-k.page

pub store_word-requires-clause-within : goal.store_word-requires-clause-within
store_word-requires-clause-within g c = subst (λ (n : ℕ). c.loop-k.page * 4096 + 4064 + 8 ≤ n) (sym c.loop-k.invariant.len) (link_within c.args.first c.args.fresh.now c.args.count c.loop-k.k c.loop-k.page (size (g.P.Pmem.region c.args.memory.now)) c.requires.count c.loop-k-test.true c.loop-k.invariant.page c.requires.inside)

pub returns-in_err-store_word-clause-linked : goal.returns-in_err-store_word-clause-linked
returns-in_err-store_word-clause-linked g c = IfOk-from_err c.from_residual.result _ c.from_residual.ensures.0

pub returns-in_err-store_word-clause-kept : goal.returns-in_err-store_word-clause-kept
returns-in_err-store_word-clause-kept g c = record {
  wrote = (stores_more _ _ _ _ _ _ _ _ (λ i x w. one_link c.args.first c.args.fresh.now c.args.count c.loop-k.k c.loop-k.page i c.loop-k-test.true c.loop-k.invariant.page w.0) c.loop-k.invariant.wrote
      (stored_only c.store_word.result _ _ (c.loop-k.page * 4096 + 4064) _ _ _ (link_aligned c.loop-k.page) c.store_word.ensures.stored c.store_word.ensures.refused c.store_word.ensures.may_keep));
  len = ap size c.in_err-store_word.ensures.refused ∙ c.loop-k.invariant.len;
  keeps_fuse = keeps_more (λ limit end. link_within c.args.first c.args.fresh.now c.args.count c.loop-k.k c.loop-k.page limit c.requires.count c.loop-k-test.true c.loop-k.invariant.page end) c.loop-k.invariant.keeps_fuse c.store_word.ensures.keeps_fuse;
}

pub returns-clause-kept : goal.returns-clause-kept
returns-clause-kept g c = record {
  wrote = c.loop-k.invariant.wrote;
  len = c.loop-k.invariant.len;
  keeps_fuse = c.loop-k.invariant.keeps_fuse;
}

pub returns-in_err-store_word-clause-nothing : goal.returns-in_err-store_word-clause-nothing
returns-in_err-store_word-clause-nothing g c none = some_counted c.loop-k-test.true none

pub returns-in_err-store_word-clause-stopped : goal.returns-in_err-store_word-clause-stopped
returns-in_err-store_word-clause-stopped g c was = c.from_residual.ensures.0 ∙ sym (ap is_err c.in_err-store_word.was) ∙ c.store_word.ensures.stopped

pub loop-k-init : goal.loop-k-init
loop-k-init g c = record {
  page = refl;
  linked = λ j below. none_below below;
  wrote = stores_none _ _ _;
  len = refl;
  nothing = λ none. refl;
  quiet = λ was. was;
  keeps_fuse = record { burnt = λ on. on; steady = λ on. on; stays_open = λ limit past on. on };
}

pub loop-k-preserved : goal.loop-k-preserved
loop-k-preserved g c = record {
  page = sym (next_page c.args.first c.args.fresh.now c.loop-k.k);
  linked = link_more _ _ c.args.first c.args.fresh.now c.loop-k.k (c.loop-k.page * 4096 + 4064) (get_or c.args.fresh.now c.loop-k.k 0 * 4096) (inside_fresh c.loop-k.k c.args.count (length c.args.fresh.now) c.loop-k-test.true c.requires.count) c.requires.differ
      (page_link c.loop-k.page (get_or (c.args.first ∷ c.args.fresh.now) c.loop-k.k 0) c.loop-k.invariant.page) (turned (get_or c.args.fresh.now c.loop-k.k 0)) c.in_ok-store_word.ensures.stored c.loop-k.invariant.linked;
  wrote = (stores_more _ _ _ _ _ _ _ _ (λ i x w. one_link c.args.first c.args.fresh.now c.args.count c.loop-k.k c.loop-k.page i c.loop-k-test.true c.loop-k.invariant.page w.0) c.loop-k.invariant.wrote
      (stored_only c.store_word.result _ _ (c.loop-k.page * 4096 + 4064) _ _ _ (link_aligned c.loop-k.page) c.store_word.ensures.stored c.store_word.ensures.refused c.store_word.ensures.may_keep));
  len = c.in_ok-store_word.ensures.stored.len ∙ c.loop-k.invariant.len;
  nothing = λ none. one_more _ none;
  quiet = λ was. sym c.store_word.ensures.stopped ∙ ap is_err c.in_ok-store_word.was;
  keeps_fuse = keeps_more (λ limit end. link_within c.args.first c.args.fresh.now c.args.count c.loop-k.k c.loop-k.page limit c.requires.count c.loop-k-test.true c.loop-k.invariant.page end) c.loop-k.invariant.keeps_fuse c.store_word.ensures.keeps_fuse;
}

pub loop-k-smaller : goal.loop-k-smaller
loop-k-smaller g c = one_less c.loop-k.k c.args.count c.loop-k-test.true

pub returns-clause-linked : goal.returns-clause-linked
returns-clause-linked g c = subst (Linked (g.P.Pmem.region c.loop-k.memory) (c.args.first ∷ c.args.fresh.now)) (all_done c.loop-k.auto.k-end c.loop-k-test.false) c.loop-k.invariant.linked

pub returns-clause-nothing : goal.returns-clause-nothing
returns-clause-nothing g c none = (refl, c.loop-k.invariant.nothing (all_done c.loop-k.auto.k-end c.loop-k-test.false ∙ none))

pub returns-clause-stopped : goal.returns-clause-stopped
returns-clause-stopped g c was = sym (c.loop-k.invariant.quiet was)
