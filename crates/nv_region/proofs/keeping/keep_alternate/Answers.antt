use Rattle.std.proofs.Common.{◌≡◌, ◌≢◌, ◌/◌, ℕ, List, true, length, get_or, sym, ap, subst, ◌∙◌, arith}
use Rattle.std.specs.List.{list_any}
use Rattle.nv_region.specs.StoredLines.{holds}
use Rattle.nv_region.proofs.Alternating.{none_alternated, row_alternated, all_alternated}
use Rattle.nv_region.proofs.Rows.{row_in, no_row}
use Rattle.nv_region.proofs.Before.{before_differ, length-words_before, row_words}
use Rattle.nv_region.proofs.keeping.keep_alternate.Goals as goal

pub loop-row-init : goal.loop-row-init
loop-row-init g c = (
  none_alternated c.args.rows.now c.args.words.now g.fenced
      (subst (λ (fenced : List ℕ). (i : ℕ) → get_or c.args.words.now i 0 ≢ get_or fenced i 0 → list_any (λ row. holds row (i / 8)) c.args.rows.now ≡ true) (sym c.requires.0) (before_differ c.args.rows.now c.args.kept.now c.args.words.now)),
  sym (ap length c.requires.0 ∙ length-words_before c.args.rows.now c.args.kept.now c.args.words.now),
)

pub alternate_row-turn-requires : goal.alternate_row-turn-requires
alternate_row-turn-requires g c =
    let as_long : length g.fenced ≡ length c.args.words.now = ap length c.requires.0 ∙ length-words_before c.args.rows.now c.args.kept.now c.args.words.now in
    let are = c.requires.1.1.1 in
    let row = row_in c.args.rows.now c.loop-row.row-index no_row c.loop-row-test.true in (
      sym c.loop-row.invariant.1,
      (
        omega (arith, c.loop-row.invariant.1, as_long, c.requires.1.0),
        (
          are.some _ row,
          (
            omega (arith, are.below _ row, c.loop-row.invariant.1, as_long),
            (
              omega (arith, are.within _ row, c.loop-row.invariant.1, as_long),
              λ i within from to.
                  row_words c.args.rows.now c.args.kept.now c.args.words.now c.loop-row.row-index i no_row are c.loop-row-test.true (omega (arith, within, as_long)) (from, to)
                  ∙ ap (λ (l : List ℕ). get_or l i 0) (sym c.requires.0),
            ),
          ),
        ),
      ),
    )

pub loop-row-preserved : goal.loop-row-preserved
loop-row-preserved g c =
    let as_long : length g.fenced ≡ length c.args.words.now = ap length c.requires.0 ∙ length-words_before c.args.rows.now c.args.kept.now c.args.words.now in
    let are = c.requires.1.1.1 in
    let row = row_in c.args.rows.now c.loop-row.row-index no_row c.loop-row-test.true in (
      row_alternated c.loop-row.turn c.alternate_row-turn.result c.loop-row.row-index c.args.rows.now c.loop-row.words c.alternate_row-turn.new.words g.fenced _ (sym c.loop-row.invariant.1)
          c.alternate_row-turn.ensures.as_long c.requires.1.1.0 c.loop-row-test.true (are.some _ row) (omega (arith, are.below _ row, c.loop-row.invariant.1, as_long))
          c.alternate_row-turn.ensures.goes_on c.alternate_row-turn.ensures.behind c.loop-row.invariant.0,
      c.alternate_row-turn.ensures.as_long ∙ c.loop-row.invariant.1,
    )

pub returns-clause-words : goal.returns-clause-words
returns-clause-words g c = all_alternated c.loop-row.turn c.loop-row.row-index c.args.rows.now c.loop-row.words g.fenced _ (sym c.loop-row.invariant.1) (omega (arith, c.loop-row-test.false)) c.loop-row.invariant.0
