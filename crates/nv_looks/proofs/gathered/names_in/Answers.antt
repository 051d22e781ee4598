use Rattle.std.proofs.Common.{◌∙◌, ap, length, string_bytes, subst}
use Rattle.std.proofs.lemmas.Result.{IfOk-weaker}
use Rattle.nv_tree.specs.Refusals.{list_tests}
use Rattle.nv_session.specs.Machine.{TellsNames}
use Rattle.nv_paths.specs.Seen.{tree_of}
use Rattle.nv_looks.specs.Looking.{ListsNames}
use Rattle.nv_looks.specs.Gathered.{IsOpenedOf}
use Rattle.nv_looks.proofs.Looks.{call_by_path}
use Rattle.nv_looks.proofs.Opened.{look_mounted, look_refused, runs_opened}
use Rattle.nv_looks.proofs.Bare.{lists_anywhere}
use Rattle.nv_looks.proofs.gathered.names_in.Goals as goal

pub returns-in_ok-told-in-Mounted : goal.returns-in_ok-told-in-Mounted
returns-in_ok-told-in-Mounted c of R opened are =
    let m = c.in-Mounted.mount in
    let is = subst (IsOpenedOf of) c.in-Mounted.is opened in
    let runs = runs_opened of m is in
    let look = c.told_look.result in
    look_mounted (ListsNames c.args.path.now) R (string_bytes look.text) look.answered (λ Q S rows text status told. lists_anywhere Q S rows c.args.path.now text status told) of are m is
    (call_by_path TellsNames list_tests c.args.path.now (tree_of m.memory.memory.region m.rows) (string_bytes look.text) c.in_ok-told-in-Mounted.told.is_refused look.answered.status
    (λ p says. rw c.told_look.ensures.text (c.in_ok-told-in-Mounted.ensures.text runs p says)) (c.in_ok-told-in-Mounted.ensures.refused runs) c.told_look.ensures.status)
    (c.told_look.ensures.faults ∙ ap length c.faults.ensures)

pub returns-in-Refused : goal.returns-in-Refused
returns-in-Refused c of R opened are = IfOk-weaker c.refused_look.result _ _ (λ look said. look_refused (ListsNames c.args.path.now) R (string_bytes look.text) look.answered of are c.in-Refused.refusal
    (subst (IsOpenedOf of) c.in-Refused.is opened) said) c.refused_look.ensures
