use Rattle.std.proofs.Common.{◌≡◌, ◌≢◌, ◌∙◌, false, inr, IsTrue, List, refl, subst, sym, take}
use Rattle.std.proofs.lemmas.Result.{IfOk-weaker}
use Rattle.nv_region.specs.RegionState.{RegionState}
use Rattle.nv_tree.specs.declared.refusal.Refusal.TheVariants.{Stopped}
use Rattle.nv_paths.specs.Seen.{tree_of}
use Rattle.nv_history.specs.Making.{AreMade, has_upgrade}
use Rattle.nv_history.specs.Halting.{HaltsAt}
use Rattle.nv_history.specs.declared.calls.Call.{Call}
use Rattle.nv_history.proofs.LeftTables.{LeavesTables, leaves_begun}
use Rattle.nv_script.specs.Cleaning.{CanClean}
use Rattle.nv_changes.specs.Changing.{IsMade}
use Rattle.nv_changes.proofs.Made.{all_made, calls_keep, as_refused, not_on, one_refused, unstopped}
use Rattle.nv_changes.proofs.changing.change_sound.Goals as goal

pub returns-in-Ok : goal.returns-in-Ok
returns-in-Ok c = λ R o is.
    let m = c.args.mount in
    let n = c.make_calls-answer.new.mount in
    let calls = c.in_ok-calls.calls.items in
    let said = c.in-Ok.ensures in
    let runs : n.stopped ≡ false = said.run.runs ∙ c.requires.runs in
    let fuse = said.run.keeps_fuse in
    let same = c.deref.ensures.value in
    let made = subst (λ (cs : List Call). AreMade m.sup cs (tree_of m.memory.region m.rows) (tree_of n.memory.region n.rows)) same said.made in
    let none = subst (λ (cs : List Call). has_upgrade cs ≡ false) (sym same) (calls_keep (tree_of m.memory.region m.rows) c.args.change.now c.args.cpu c.args.time calls c.in_ok-calls.ensures) in
    let ran = subst (λ (cs : List Call). LeavesTables m n cs) same (leaves_begun _ _ _ m n _ _ refl none said.run) in
    let can : CanClean n = record { runs = runs; writes = said.run.mode ∙ c.requires.writes; steady = fuse.steady c.requires.steady } in (
      sym is.read_only ∙ c.requires.writes,
      subst (λ (left : RegionState). IsMade R o c.args.change.now c.args.cpu c.args.time left) (sym c.into_memory.ensures)
          (all_made R o m n is calls c.args.change.now c.args.cpu c.args.time can ran said.run.length c.in_ok-calls.ensures made c.keeps.ensures (c.nothing_is_pending.ensures runs)),
    )

pub returns-in-Err : goal.returns-in-Err
returns-in-Err c = λ R o is.
    let m = c.args.mount in
    let n = c.make_calls-answer.new.mount in
    let calls = c.in_ok-calls.calls.items in
    let halted = c.in-Err.halted in
    let said = c.in-Err.ensures in
    let fuse = said.run.keeps_fuse in
    let same = c.deref.ensures.value in
    let never : IsTrue n.stopped → ⊥ = λ on. unstopped n.memory (fuse.steady c.requires.steady) (said.run.burnt c.requires.runs on) in
    let no_stop : halted.refusal ≢ Stopped = λ e. never (said.run.stopped.0 e) in
    let none = subst (λ (cs : List Call). has_upgrade cs ≡ false) (sym same) (calls_keep (tree_of m.memory.region m.rows) c.args.change.now c.args.cpu c.args.time calls c.in_ok-calls.ensures) in
    let ran = subst (λ (cs : List Call). LeavesTables m n (take halted.made cs)) same (leaves_begun _ _ _ m n _ _ (inr (no_stop, refl)) none said.run) in
    let halts = subst (λ (cs : List Call). HaltsAt m.sup (tree_of m.memory.region m.rows) cs halted n.memory.region n) same (said.halted no_stop) in
    IfOk-weaker c.refused.result _ _
    (as_refused R o c.args.change.now c.args.cpu c.args.time halted.refusal (sym is.read_only ∙ c.requires.writes)
    (one_refused R o m n is calls c.args.change.now c.args.cpu c.args.time halted (not_on n.stopped never) (said.run.mode ∙ c.requires.writes) ran c.in_ok-calls.ensures c.keeps.ensures no_stop halts))
    c.refused.ensures
