use Rattle.std.proofs.Common.{◌∙◌, ap, length, string_bytes}
use Rattle.std.proofs.lemmas.Result.{IfOk-weaker}
use Rattle.nv_tree.specs.Refusals.{list_tests}
use Rattle.nv_session.specs.Machine.{TellsNames}
use Rattle.nv_paths.specs.Seen.{tree_of}
use Rattle.nv_looks.specs.Looking.{ListsNames}
use Rattle.nv_looks.proofs.Looks.{refused_look, mounted_look, call_by_path}
use Rattle.nv_looks.proofs.looking.names_in.Goals as goal

pub returns-in_ok-told-in-Mounted : goal.returns-in_ok-told-in-Mounted
returns-in_ok-told-in-Mounted c R opened =
    let m = c.in-Mounted.mount in
    let is = rw c.in-Mounted.is at opened in
    let look = c.told_look.result in
    mounted_look R m is (ListsNames c.args.path.now) (string_bytes look.text) look.answered
    (call_by_path TellsNames list_tests c.args.path.now (tree_of m.memory.region m.rows) (string_bytes look.text) c.in_ok-told-in-Mounted.told.is_refused look.answered.status
    (λ p says. rw c.told_look.ensures.text (c.in_ok-told-in-Mounted.ensures.text is.5 p says)) (c.in_ok-told-in-Mounted.ensures.refused is.5) c.told_look.ensures.status)
    (c.told_look.ensures.faults ∙ ap length c.faults.ensures)

pub returns-in-Refused : goal.returns-in-Refused
returns-in-Refused c R opened = IfOk-weaker c.refused_look.result _ _ (λ look said. refused_look (ListsNames c.args.path.now) R c.in-Refused.refusal (string_bytes look.text) look.answered (rw c.in-Refused.is at opened) said) c.refused_look.ensures
