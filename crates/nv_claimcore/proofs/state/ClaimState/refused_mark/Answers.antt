use Rattle.std.proofs.Common.{◌≡◌, ℕ, sym, ap, ◌∙◌, arith}
use Rattle.nv_claimcore.specs.Events.{all_allowed}
use Rattle.nv_claimcore.specs.SpanEvents.{sizes_of, low_marks}
use Rattle.nv_claimcore.proofs.MarkSteps.{bit_refused, more_marks, same_marks}
use Rattle.nv_claimcore.proofs.state.ClaimState.refused_mark.Goals.{then-has_bit+else-not-may_mark, else-has_bit}
use Rattle.nv_claimcore.proofs.state.ClaimState.refused_mark.Goals as goal

pub returns-then-not-may_mark : goal.returns-then-not-may_mark
returns-then-not-may_mark c = let l = c.loop-bit.invariant in
    bit_refused c.args.worker c.args.word c.args.mask (sizes_of c.args.self.now) c.args.self.now c.loop-bit.bit 64 c.loop-bit.place c.loop-bit-test.true (sym c.has_bit.ensures ∙ c.if-has_bit.true) l.2 l.3 (sym c.may_mark.ensures ∙ c.if-not-may_mark.true)

pub loop-bit-preserved : goal.loop-bit-preserved
loop-bit-preserved c = let l = c.loop-bit.invariant in let test = c.loop-bit-test.true in let s = c.args.self.now in
    elim c.if-has_bit.branch [
      | then-has_bit+else-not-may_mark w ↦ let is = w.place-is in let next = more_marks c.args.worker c.args.word c.args.mask (sizes_of c.args.self.now) c.args.self.now c.loop-bit.bit c.loop-bit.place c.if-has_bit.place l.2 l.3
          (sym c.has_bit.ensures ∙ w.if-has_bit.true) (sym w.may_mark.ensures ∙ w.if-not-may_mark.false) w.place-is in (omega arith, omega arith, next.0, next.1)
      | else-has_bit w ↦ let is = w.place-is in let next = same_marks c.args.worker c.args.word c.args.mask (sizes_of c.args.self.now) c.args.self.now c.loop-bit.bit c.loop-bit.place c.if-has_bit.place l.2 l.3
          (sym c.has_bit.ensures ∙ w.if-has_bit.false) w.place-is in (omega arith, omega arith, next.0, next.1)
    ]

pub returns : goal.returns
returns c = let l = c.loop-bit.invariant in let past = c.loop-bit-test.false in let end : c.loop-bit.bit ≡ 64 = omega arith in
    ap (λ (n : ℕ). all_allowed (sizes_of c.args.self.now) c.args.self.now (low_marks c.args.worker c.args.word c.args.mask n)) (sym end) ∙ l.3
