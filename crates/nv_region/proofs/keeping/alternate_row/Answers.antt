use Rattle.std.proofs.Common.{◌≡◌, ◌<◌, ◌≤◌, ◌+◌, ◌-◌, ◌*◌, ℕ, List, length, get_or, refl, ap, sym, ◌∙◌, arith}
use Rattle.std.proofs.lemmas.List.{get_or-set_other}
use Rattle.nv_region.specs.Kept.{so_far}
use Rattle.nv_region.proofs.Alternating.{step_lost, step_kept, step_same}
use Rattle.nv_region.proofs.keeping.alternate_row.Goals as goal
use Rattle.nv_region.proofs.keeping.alternate_row.Goals.{then-words-i, then-not-turn, else-not-turn, else-words-i}

pub loop-i-init : goal.loop-i-init
loop-i-init g c =
    let start : c.args.row.now.first * 8 ≡ 8 * c.args.row.now.first = omega arith in
    (ap (λ (n : ℕ). so_far c.args.turn n c.args.words.now g.fenced) start, sym c.requires.0, λ k from. refl)

pub loop-i-preserved : goal.loop-i-preserved
loop-i-preserved g c =
    let was = c.loop-i.invariant in
    let first : ℕ = c.args.row.now.first in
    let low : 8 * first ≤ c.loop-i.i = omega (arith, c.loop-i.auto.i) in
    let within : c.loop-i.i < length c.loop-i.words = omega (arith, c.loop-i-test.true, c.min-end.ensures, was.1, c.requires.0) in
    let place : c.args.row.now.at + (c.loop-i.i - first * 8) ≡ c.args.row.now.at + (c.loop-i.i - 8 * first) = omega arith in
    let before : get_or c.args.kept.now (c.args.row.now.at + (c.loop-i.i - first * 8)) 0 ≡ get_or g.fenced c.loop-i.i 0 =
    ap (λ (n : ℕ). get_or c.args.kept.now n 0) place ∙ c.requires.1.1.1.1.1 c.loop-i.i (omega (arith, within, was.1)) (omega (arith, low)) (omega (arith, c.loop-i-test.true, c.min-end.ensures)) in
    elim c.if-words-i.branch [
      | then-words-i w ↦ elim w.if-not-turn.branch [
        | then-not-turn w' ↦ (
          step_lost c.loop-i.turn c.if-words-i.turn c.loop-i.i _ c.loop-i.words c.if-words-i.words g.fenced was.1 within before w.if-words-i.true w'.if-not-turn.true w.turn-is (w.words-is ∙ w'.words-is) ∙ was.0,
          c.if-words-i.auto.words ∙ was.1,
          λ k low. ap (λ (l : List ℕ). get_or l k 0) (w.words-is ∙ w'.words-is) ∙ get_or-set_other c.loop-i.words c.loop-i.i k _ 0 (omega (arith, low)) ∙ was.2 k (omega (arith, low)),
        )
        | else-not-turn w' ↦ (
          step_kept c.loop-i.turn c.if-words-i.turn c.loop-i.i _ c.loop-i.words c.if-words-i.words g.fenced was.1 within before w.if-words-i.true w'.if-not-turn.false w.turn-is (w.words-is ∙ w'.words-is) ∙ was.0,
          c.if-words-i.auto.words ∙ was.1,
          λ k low. ap (λ (l : List ℕ). get_or l k 0) (w.words-is ∙ w'.words-is) ∙ was.2 k (omega (arith, low)),
        )
      ]
      | else-words-i w ↦ (
        step_same c.loop-i.turn c.if-words-i.turn c.loop-i.i _ c.loop-i.words c.if-words-i.words g.fenced was.1 before w.if-words-i.false w.turn-is w.words-is ∙ was.0,
        c.if-words-i.auto.words ∙ was.1,
        λ k low. ap (λ (l : List ℕ). get_or l k 0) w.words-is ∙ was.2 k (omega (arith, low)),
      )
    ]
