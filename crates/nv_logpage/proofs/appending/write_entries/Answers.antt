use Rattle.std.proofs.Common.{arith, Fits, w64, ℕ, suc, refl, ap, sym, subst, ◌∙◌, ◌*◌, ◌+◌, ◌-◌, ◌%◌, ◌^◌, ◌≡◌, ◌<◌, ◌≤◌, get_or, length, is_err}
use Rattle.std.proofs.lemmas.Result.{IfOk-from_err}
use Rattle.nv_region.specs.Region.{size}
use Rattle.nv_region.proofs.Fuses.{keeps_more}
use Rattle.nv_region.proofs.Wordwise.{stores_none}
use Rattle.nv_entry.specs.Spelling.{entry_length}
use Rattle.nv_logpage.proofs.Writing.{writing_fits, writing_turns, turned_words, fitted_words, page_by, page_inside, fits_by, fits_inside, page_left, next_by, ends_at, counts_all, all_fit, all_laid}
use Rattle.nv_logpage.proofs.appending.write_entries.Goals as goal
use Rattle.nv_logpage.proofs.appending.write_entries.Goals.{then-place-size-le-LINK+in_ok-write_entry, else-place-size-le-LINK+in_ok-write_turned}

below : (n limit : ℕ) → n ≤ limit → limit < 2 ^ 64 → Fits w64 n
below n limit h small = omega arith

in_page : (place n : ℕ) → n ≤ 280 → Fits w64 (place % 4096 + n)
in_page place n short = omega arith

short_entry : (n length : ℕ) → n ≡ length → n ≤ 280 → length ≤ 4064
short_entry n length is short = omega arith

next_starts : (b limit : ℕ) → 4096 * b + 4096 ≤ limit → limit < 2 ^ 64 → Fits w64 (b * 4096)
next_starts b limit end small = omega arith

next_holds : (b n limit : ℕ) → n ≤ 280 → 4096 * b + 4096 ≤ limit → limit < 2 ^ 64 → Fits w64 (b * 4096 + n)
next_holds b n limit short end small = omega arith

next_ends : (b n length : ℕ) → n ≡ length → b * 4096 + n ≡ 4096 * b + length
next_ends b n length is = omega arith

one_less : (i n : ℕ) → i < n → n - (i + 1) < n - i
one_less i n h = omega arith

some_before : {A : Type 0} {i n : ℕ} → i < n → n ≡ 0 → A
some_before h none = absurd (omega arith)

less_suc : (k : ℕ) → k < suc k
less_suc k = omega arith

suc_less : (k n : ℕ) → k < n → suc k < suc n
suc_less k n h = omega arith

none_reached : {i n : ℕ} → i ≤ n → n ≡ 0 → i ≡ 0
none_reached h none = omega arith

some_reached : {i n : ℕ} → n ≤ i → 0 < n → 0 < i
some_reached h some = omega arith

one_more : {A : Type 0} (i : ℕ) → i + 1 ≡ 0 → A
one_more i none = absurd (omega arith)

no_more : (n : ℕ) → n ≤ n
no_more n = omega arith

none_more : (n : ℕ) → 0 + n ≡ n
none_more n = omega arith

no_less : 0 < 0 → ⊥
no_less h = omega arith

pub loop-entry-init : goal.loop-entry-init
loop-entry-init g c = record {
  writing = record {
    whole = c.requires.can.whole;
    offset = c.requires.can.offset;
    page = refl;
    low = λ none. no_more _;
    given = c.requires.can.given;
    fit = λ fit. fit;
    count = none_more _;
    ends = refl;
    goes = λ S settled laid. laid;
    wrote = stores_none _ _ _;
    len = refl;
  };
  nothing = λ none. refl;
  quiet = λ some. absurd (no_less some);
  keeps_fuse = record { burnt = λ on. on; steady = λ on. on; stays_open = λ limit past on. on };
}

pub loop-entry-preserved : goal.loop-entry-preserved
loop-entry-preserved g c =
    elim c.if-place-size-le-LINK.branch [
      | then-place-size-le-LINK+in_ok-write_entry w ↦
          record {
            writing = rw (w.memory-is, w.place-is, w.used-is, c.length-size.ensures.value) (writing_fits _ _ _ _ _ _ c.args.tail c.args.entries.now c.args.fresh.now c.loop-entry.entry-index c.loop-entry.used c.loop-entry.place c.entry-item.result c.requires.can c.loop-entry.invariant.writing c.loop-entry-test.true c.entry-item.is (subst (λ (n : ℕ). c.loop-entry.place % 4096 + n ≤ 4064) c.length-size.ensures.value w.if-place-size-le-LINK.true)
                w.in_ok-write_entry.ensures.spelled w.write_entry.ensures.rest w.write_entry.ensures.wrote);
            nothing = λ none. one_more _ none;
            quiet = λ some. rw w.memory-is (sym w.write_entry.ensures.stopped ∙ ap is_err w.in_ok-write_entry.was);
            keeps_fuse = rw w.memory-is (keeps_more (λ limit end. fits_by c.requires.can c.loop-entry.invariant.writing c.length-size.result (entry_length c.entry-item.result) limit c.length-size.ensures.value w.if-place-size-le-LINK.true end)
                c.loop-entry.invariant.keeps_fuse w.write_entry.ensures.keeps_fuse);
          }
      | else-place-size-le-LINK+in_ok-write_turned w ↦
          let b = get_or c.args.fresh.now c.loop-entry.used 0 in
          let more = page_left c.requires.can c.loop-entry.invariant.writing c.entry-item.result c.length-size.result c.loop-entry-test.true c.entry-item.is c.length-size.ensures.value w.if-place-size-le-LINK.false in
          record {
            writing = rw (w.memory-is, w.place-is ∙ next_ends b c.length-size.result (entry_length c.entry-item.result) c.length-size.ensures.value, w.used-is) (writing_turns _ _ _ _ _ _ c.args.tail c.args.entries.now c.args.fresh.now c.loop-entry.entry-index c.loop-entry.used c.loop-entry.place c.entry-item.result c.requires.can c.loop-entry.invariant.writing c.loop-entry-test.true c.entry-item.is b refl (short_entry _ _ c.length-size.ensures.value c.length-size.ensures.short) (subst (λ (n : ℕ). 4064 < c.loop-entry.place % 4096 + n) c.length-size.ensures.value w.if-place-size-le-LINK.false)
                w.in_ok-write_turned.ensures.entry w.in_ok-write_turned.ensures.marker w.write_turned.ensures.kept.wrote w.write_turned.ensures.kept.len);
            nothing = λ none. one_more _ none;
            quiet = λ some. rw w.memory-is (sym w.write_turned.ensures.stopped ∙ ap is_err w.in_ok-write_turned.was);
            keeps_fuse = rw w.memory-is (keeps_more (λ limit end. (page_by c.requires.can c.loop-entry.invariant.writing limit end, next_by c.args.fresh.now c.args.tail c.loop-entry.used limit more end))
                c.loop-entry.invariant.keeps_fuse w.write_turned.ensures.kept.keeps_fuse);
          }
    ]

pub loop-entry-smaller : goal.loop-entry-smaller
loop-entry-smaller g c = one_less c.loop-entry.entry-index (length c.args.entries.now) c.loop-entry-test.true

pub bounds-entries-entry-index : goal.bounds-entries-entry-index
bounds-entries-entry-index g c = c.loop-entry-test.true

pub overflow_add-place : goal.overflow_add-place
overflow_add-place g c = in_page c.loop-entry.place c.length-size.result c.length-size.ensures.short

pub write_entry-requires-clause-aligned : goal.write_entry-requires-clause-aligned
write_entry-requires-clause-aligned g c = c.loop-entry.invariant.writing.whole

pub write_entry-requires-clause-inside : goal.write_entry-requires-clause-inside
write_entry-requires-clause-inside g c = fits_inside c.requires.can c.loop-entry.invariant.writing c.length-size.result (entry_length c.entry-item.result) c.length-size.ensures.value c.if-place-size-le-LINK.true

pub returns-in_err-write_entry-clause-end : goal.returns-in_err-write_entry-clause-end
returns-in_err-write_entry-clause-end g c = IfOk-from_err c.from_residual.result _ c.from_residual.ensures.0

pub returns-in_err-write_entry-clause-fit : goal.returns-in_err-write_entry-clause-fit
returns-in_err-write_entry-clause-fit g c = IfOk-from_err c.from_residual.result _ c.from_residual.ensures.0

pub returns-in_err-write_entry-clause-laid : goal.returns-in_err-write_entry-clause-laid
returns-in_err-write_entry-clause-laid g c = IfOk-from_err c.from_residual.result _ c.from_residual.ensures.0

pub returns-in_err-write_entry-clause-kept : goal.returns-in_err-write_entry-clause-kept
returns-in_err-write_entry-clause-kept g c = record {
  stores = record {
    wrote = fitted_words _ _ _ _ _ _ c.args.tail c.args.entries.now c.args.fresh.now c.loop-entry.entry-index c.loop-entry.used c.loop-entry.place c.entry-item.result c.requires.can c.loop-entry.invariant.writing c.loop-entry-test.true c.entry-item.is (subst (λ (n : ℕ). c.loop-entry.place % 4096 + n ≤ 4064) c.length-size.ensures.value c.if-place-size-le-LINK.true) c.write_entry.ensures.wrote;
    len = c.write_entry.ensures.rest.len ∙ c.loop-entry.invariant.writing.len;
    keeps_fuse = keeps_more (λ limit end. fits_by c.requires.can c.loop-entry.invariant.writing c.length-size.result (entry_length c.entry-item.result) limit c.length-size.ensures.value c.if-place-size-le-LINK.true end) c.loop-entry.invariant.keeps_fuse c.write_entry.ensures.keeps_fuse;
  };
  nothing = λ none. some_before c.loop-entry-test.true none;
  stopped = λ some. c.from_residual.ensures.0 ∙ sym (ap is_err c.in_err-write_entry.was) ∙ c.write_entry.ensures.stopped;
}

pub returns-in_err-write_turned-clause-kept : goal.returns-in_err-write_turned-clause-kept
returns-in_err-write_turned-clause-kept g c = record {
  stores = record {
    wrote = turned_words _ _ _ _ _ _ c.args.tail c.args.entries.now c.args.fresh.now c.loop-entry.entry-index c.loop-entry.used c.loop-entry.place c.entry-item.result c.requires.can c.loop-entry.invariant.writing c.loop-entry-test.true c.entry-item.is (get_or c.args.fresh.now c.loop-entry.used 0) refl (page_left c.requires.can c.loop-entry.invariant.writing c.entry-item.result c.length-size.result c.loop-entry-test.true c.entry-item.is c.length-size.ensures.value c.if-place-size-le-LINK.false) c.write_turned.ensures.kept.wrote;
    len = c.write_turned.ensures.kept.len ∙ c.loop-entry.invariant.writing.len;
    keeps_fuse = keeps_more (λ limit end. (page_by c.requires.can c.loop-entry.invariant.writing limit end, next_by c.args.fresh.now c.args.tail c.loop-entry.used limit (page_left c.requires.can c.loop-entry.invariant.writing c.entry-item.result c.length-size.result c.loop-entry-test.true c.entry-item.is c.length-size.ensures.value c.if-place-size-le-LINK.false) end)) c.loop-entry.invariant.keeps_fuse c.write_turned.ensures.kept.keeps_fuse;
  };
  nothing = λ none. some_before c.loop-entry-test.true none;
  stopped = λ some. c.from_residual-in_err-write_turned.ensures.0 ∙ sym (ap is_err c.in_err-write_turned.was) ∙ c.write_turned.ensures.stopped;
}

pub returns-clause-kept : goal.returns-clause-kept
returns-clause-kept g c = record {
  stores = record {
    wrote = c.loop-entry.invariant.writing.wrote;
    len = c.loop-entry.invariant.writing.len;
    keeps_fuse = c.loop-entry.invariant.keeps_fuse;
  };
  nothing = λ none. (refl, c.loop-entry.invariant.nothing (none_reached c.loop-entry.auto.entry-index-end none));
  stopped = λ some. sym (c.loop-entry.invariant.quiet (some_reached c.loop-entry-test.false some));
}

pub returns-in_err-write_turned-clause-end : goal.returns-in_err-write_turned-clause-end
returns-in_err-write_turned-clause-end g c = IfOk-from_err c.from_residual-in_err-write_turned.result _ c.from_residual-in_err-write_turned.ensures.0

pub returns-in_err-write_turned-clause-fit : goal.returns-in_err-write_turned-clause-fit
returns-in_err-write_turned-clause-fit g c = IfOk-from_err c.from_residual-in_err-write_turned.result _ c.from_residual-in_err-write_turned.ensures.0

pub returns-in_err-write_turned-clause-laid : goal.returns-in_err-write_turned-clause-laid
returns-in_err-write_turned-clause-laid g c = IfOk-from_err c.from_residual-in_err-write_turned.result _ c.from_residual-in_err-write_turned.ensures.0

pub overflow_add-place-then-place-size-le-LINK : goal.overflow_add-place-then-place-size-le-LINK
overflow_add-place-then-place-size-le-LINK g c = below _ (size (g.P.Pmem.region c.args.memory.now)) (fits_by c.requires.can c.loop-entry.invariant.writing c.length-size.result c.length-size.result (size (g.P.Pmem.region c.args.memory.now)) refl c.if-place-size-le-LINK.true c.requires.can.inside) c.requires.small

pub bounds-fresh-used : goal.bounds-fresh-used
bounds-fresh-used g c = page_left c.requires.can c.loop-entry.invariant.writing c.entry-item.result c.length-size.result c.loop-entry-test.true c.entry-item.is c.length-size.ensures.value c.if-place-size-le-LINK.false

pub write_turned-requires-clause-place : goal.write_turned-requires-clause-place
write_turned-requires-clause-place g c = record { whole = c.loop-entry.invariant.writing.whole; offset = c.loop-entry.invariant.writing.offset; inside = page_inside c.requires.can c.loop-entry.invariant.writing }

pub write_turned-requires-clause-next_inside : goal.write_turned-requires-clause-next_inside
write_turned-requires-clause-next_inside g c = subst (λ (n : ℕ). 4096 * get_or c.args.fresh.now c.loop-entry.used 0 + 4096 ≤ n) (sym c.loop-entry.invariant.writing.len) (next_by c.args.fresh.now c.args.tail c.loop-entry.used (size (g.P.Pmem.region c.args.memory.now)) (page_left c.requires.can c.loop-entry.invariant.writing c.entry-item.result c.length-size.result c.loop-entry-test.true c.entry-item.is c.length-size.ensures.value c.if-place-size-le-LINK.false) c.requires.can.inside)

pub write_turned-requires-clause-small : goal.write_turned-requires-clause-small
write_turned-requires-clause-small g c = subst (λ (n : ℕ). n < 2 ^ 64) (sym c.loop-entry.invariant.writing.len) c.requires.small

pub write_turned-requires-clause-short : goal.write_turned-requires-clause-short
write_turned-requires-clause-short g c = short_entry _ _ c.length-size.ensures.value c.length-size.ensures.short

pub write_turned-requires-clause-apart : goal.write_turned-requires-clause-apart
write_turned-requires-clause-apart g c same = c.requires.can.differ c.loop-entry.used (suc c.loop-entry.used) (less_suc _) (suc_less _ _ (page_left c.requires.can c.loop-entry.invariant.writing c.entry-item.result c.length-size.result c.loop-entry-test.true c.entry-item.is c.length-size.ensures.value c.if-place-size-le-LINK.false)) (sym c.loop-entry.invariant.writing.page ∙ sym same)

pub overflow_mul-place : goal.overflow_mul-place
overflow_mul-place g c = next_starts (get_or c.args.fresh.now c.loop-entry.used 0) (size (g.P.Pmem.region c.args.memory.now)) (next_by c.args.fresh.now c.args.tail c.loop-entry.used (size (g.P.Pmem.region c.args.memory.now)) (page_left c.requires.can c.loop-entry.invariant.writing c.entry-item.result c.length-size.result c.loop-entry-test.true c.entry-item.is c.length-size.ensures.value c.if-place-size-le-LINK.false) c.requires.can.inside) c.requires.small

pub overflow_add-place-else-place-size-le-LINK : goal.overflow_add-place-else-place-size-le-LINK
overflow_add-place-else-place-size-le-LINK g c = next_holds (get_or c.args.fresh.now c.loop-entry.used 0) c.length-size.result (size (g.P.Pmem.region c.args.memory.now)) c.length-size.ensures.short (next_by c.args.fresh.now c.args.tail c.loop-entry.used (size (g.P.Pmem.region c.args.memory.now)) (page_left c.requires.can c.loop-entry.invariant.writing c.entry-item.result c.length-size.result c.loop-entry-test.true c.entry-item.is c.length-size.ensures.value c.if-place-size-le-LINK.false) c.requires.can.inside) c.requires.small

pub returns-clause-end : goal.returns-clause-end
returns-clause-end g c = (ends_at c.requires.can c.loop-entry.invariant.writing c.loop-entry-test.false, counts_all c.requires.can c.loop-entry.invariant.writing c.loop-entry-test.false)

pub returns-clause-fit : goal.returns-clause-fit
returns-clause-fit g c = all_fit c.requires.can c.loop-entry.invariant.writing c.loop-entry-test.false

pub returns-clause-laid : goal.returns-clause-laid
returns-clause-laid g c = all_laid c.requires.can c.loop-entry.invariant.writing c.loop-entry-test.false
