use Rattle.std.proofs.Common.{inl, inr, ◌≡◌, ◌∙◌, ℕ, Bool, true, false, eqb, refl, ap, get_or, arith}
use Rattle.std.proofs.lemmas.Bool.{cases_eq}
use Rattle.nv_blockset.specs.BlockSet.{is_set}
use Rattle.nv_blockset.proofs.FilledRows.{stays_off}
use Rattle.nv_region.proofs.Rows.{row_in, no_row, found}
use Rattle.nv_region.proofs.Marks.{still_set}
use Rattle.nv_region.proofs.stored.unmark.Goals as goal

pub loop-row-init : goal.loop-row-init
loop-row-init c = record { count = refl; all = λ p on. (let f = found c.args.rows.now p (c.requires.all p on) in record { j = f.k; from = omega arith; low = f.low; has = f.has no_row }) }

pub empty_words-requires-clause-order : goal.empty_words-requires-clause-order
empty_words-requires-clause-order c = (c.requires.below _ (row_in c.args.rows.now c.loop-row.row-index no_row c.loop-row-test.true)).0

pub empty_words-requires-clause-within : goal.empty_words-requires-clause-within
empty_words-requires-clause-within c = omega (arith, (c.requires.below _ (row_in c.args.rows.now c.loop-row.row-index no_row c.loop-row-test.true)).1, c.loop-row.invariant.count)

pub empty_words-requires-clause-small : goal.empty_words-requires-clause-small
empty_words-requires-clause-small c = omega (arith, (c.requires.below _ (row_in c.args.rows.now c.loop-row.row-index no_row c.loop-row-test.true)).2)

pub loop-row-preserved : goal.loop-row-preserved
loop-row-preserved c = record {
  count = c.empty_words.ensures.count ∙ c.loop-row.invariant.count;
  all = λ p on.
      let a = c.loop-row.invariant.all p (still_set c.loop-row.marks c.empty_words.new.words p (stays_off c.loop-row.marks c.empty_words.new.words _ _ p (c.empty_words.ensures.none p) (c.empty_words.ensures.others p)) on) in elim (cases_eq a.j c.loop-row.row-index) [
        | inl here ↦ absurd (
            let first : (get_or c.args.rows.now a.j no_row).first ≡ (get_or c.args.rows.now c.loop-row.row-index no_row).first = ap (λ (j : ℕ). (get_or c.args.rows.now j no_row).first) here in
            let end : (get_or c.args.rows.now a.j no_row).end ≡ (get_or c.args.rows.now c.loop-row.row-index no_row).end = ap (λ (j : ℕ). (get_or c.args.rows.now j no_row).end) here in
            let off : is_set c.empty_words.new.words p ≡ false = ap (λ (x : ℕ). eqb x 1) (c.empty_words.ensures.none p (omega (arith, first, a.has.0)) (omega (arith, end, a.has.1))) in cc (on, off))
        | inr other ↦ record { j = a.j; from = omega (arith, a.from, other); low = a.low; has = a.has }
      ];
}

pub returns-clause-none : goal.returns-clause-none
returns-clause-none c p = by (is_set c.loop-row.marks p) refl where
  by : (b : Bool) → is_set c.loop-row.marks p ≡ b → is_set c.loop-row.marks p ≡ false
  by true on = (let a = c.loop-row.invariant.all p on in absurd (omega (arith, a.from, a.low, c.loop-row-test.false)))
  by false off = off
