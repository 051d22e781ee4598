use Rattle.std.proofs.Common.{◌+◌, ◌<◌, length, refl, ◌∙◌, sym, arith}
use Rattle.std.proofs.lemmas.Nat.Bits.{shr_and_one}
use Rattle.nv_radix.proofs.ExtentLemmas.{one_more}
use Rattle.nv_radix.proofs.LeafSteps.{AreExtents-rest, AreExtents-set, AreExtents-unset}
use Rattle.nv_radix.proofs.places.add_places.Goals as goal
use Rattle.nv_radix.proofs.places.add_places.Goals.{then-rest-eq1+in_ok-add_run, else-rest-eq1}

pub returns-then-rest-eq0 : goal.returns-then-rest-eq0
returns-then-rest-eq0 c = λ m h a. AreExtents-rest c.args.base c.loop-place.place c.args.mapped c.args.blocks.now m _ (omega arith) c.if-rest-eq0.true (c.loop-place.invariant m h a)

pub loop-place-preserved : goal.loop-place-preserved
loop-place-preserved c =
    let blocks = c.args.blocks.now in
    let within : c.loop-place.place < length blocks = omega arith in
    λ m h a. elim c.if-rest-eq1.branch [
      | then-rest-eq1+in_ok-add_run w ↦ rw w.extents-is (AreExtents-set c.args.base c.args.mapped _ blocks c.loop-place.place m _ _ within (sym (shr_and_one c.args.mapped c.loop-place.place) ∙ w.if-rest-eq1.true) refl h (λ n rises. w.in_ok-add_run.ensures n _ (one_more n (c.args.base + c.loop-place.place) _ rises)) (c.loop-place.invariant m h a))
      | else-rest-eq1 w ↦ rw w.extents-is (AreExtents-unset c.args.base c.args.mapped blocks c.loop-place.place m _ within (λ e. w.if-rest-eq1.false (shr_and_one c.args.mapped c.loop-place.place ∙ e)) (c.loop-place.invariant m h a))
    ]
