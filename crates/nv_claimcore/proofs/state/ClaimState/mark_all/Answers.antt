use Rattle.std.proofs.Common.{◌≡◌, ℕ, ◌<◌, length, sym, ap, ◌∙◌, subst, arith}
use Rattle.nv_claimcore.specs.Claims.{State}
use Rattle.nv_claimcore.specs.Events.{after_all}
use Rattle.nv_claimcore.specs.SpanEvents.{sizes_of, low_marks}
use Rattle.nv_claimcore.proofs.MarkSteps.{bit_place, still_long, marked_more, marked_same}
use Rattle.nv_claimcore.proofs.state.ClaimState.mark_all.Goals.{then-has_bit, else-has_bit}
use Rattle.nv_claimcore.proofs.state.ClaimState.mark_all.Goals as goal

pub mark-requires : goal.mark-requires
mark-requires c = let l = c.loop-bit.invariant in let test = c.loop-bit-test.true in let inside = c.requires.word.0 in
    let long = (still_long c.args.worker c.args.word c.args.mask c.loop-bit.bit c.args.self.now).1 in let same = ap (λ (s : State). length s.second) l.1 in (
      subst (λ (s : State). c.args.worker < length s.views) (sym l.1)
          (bit_place c.args.worker c.args.word c.args.mask (sizes_of c.args.self.now) c.args.self.now c.loop-bit.bit 64 c.loop-bit-test.true (sym c.has_bit.ensures ∙ c.if-has_bit.true) c.requires.allowed),
      omega arith,
    )

pub loop-bit-preserved : goal.loop-bit-preserved
loop-bit-preserved c = let l = c.loop-bit.invariant in let test = c.loop-bit-test.true in
    elim c.if-has_bit.branch [
      | then-has_bit w ↦ (omega arith, marked_more c.args.worker c.args.word c.args.mask c.args.self.now c.loop-bit.self c.if-has_bit.self c.loop-bit.bit l.1 (sym c.has_bit.ensures ∙ w.if-has_bit.true) (w.self-is ∙ w.mark.ensures))
      | else-has_bit w ↦ (omega arith, marked_same c.args.worker c.args.word c.args.mask c.args.self.now c.loop-bit.self c.if-has_bit.self c.loop-bit.bit l.1 (sym c.has_bit.ensures ∙ w.if-has_bit.false) w.self-is)
    ]

pub returns : goal.returns
returns c = let l = c.loop-bit.invariant in let past = c.loop-bit-test.false in let end : c.loop-bit.bit ≡ 64 = omega arith in
    l.1 ∙ ap (λ (n : ℕ). after_all c.args.self.now (low_marks c.args.worker c.args.word c.args.mask n)) end
