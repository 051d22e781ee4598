use Rattle.std.proofs.Common.{◌∙◌, List, subst, sym}
use Rattle.std.proofs.lemmas.Result.{IfOk-weaker}
use Rattle.nv_region.specs.RegionState.{RegionState}
use Rattle.nv_unpack.specs.declared.step.Step.{Step}
use Rattle.nv_unpack.specs.Making.{AreSteps, HaltsSteps}
use Rattle.nv_unpack.specs.Unpacking.{IsMade}
use Rattle.nv_unpack.proofs.Going.{tree}
use Rattle.nv_unpack.proofs.Made.{all_left, one_halted}
use Rattle.nv_unpack.proofs.unpacking.unpack_sound.Goals as goal

pub returns-in-Ok : goal.returns-in-Ok
returns-in-Ok c = λ R o is.
    let m = c.args.mount in
    let n = c.make_steps-answer.new.mount in
    let on = c.make_steps-answer.ensures.goes in
    let made = subst (λ (steps : List Step). AreSteps m.sup c.args.base.now c.args.maker steps (tree m) (tree n)) (c.deref.ensures.value ∙ c.in_ok-steps.ensures) c.in-Ok.ensures.made in (
      sym is.read_only ∙ c.requires.writes,
      subst (λ (left : RegionState). IsMade R o c.args.base.now c.args.items.now c.args.maker left) (sym c.into_memory.ensures)
          (all_left R o m n is c.args.base.now c.args.items.now c.args.maker on c.keeps.ensures made (c.nothing_is_pending.ensures on.can.runs)),
    )

pub returns : goal.returns
returns c = λ R o is.
    let m = c.args.mount in
    let n = c.make_steps-answer.new.mount in
    let halts = subst (λ (steps : List Step). HaltsSteps m.sup c.args.base.now c.args.maker steps (tree m) n c.in-Err.halt) (c.deref.ensures.value ∙ c.in_ok-steps.ensures) c.in-Err.ensures.refused in
    IfOk-weaker c.halted.result _ _
    (one_halted R o m n is c.args.base.now c.args.items.now c.args.maker c.make_steps-answer.ensures.goes c.keeps.ensures c.in-Err.halt halts (sym is.read_only ∙ c.requires.writes))
    c.halted.ensures
