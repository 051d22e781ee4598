use Rattle.std.proofs.Common.{◌∙◌, string_bytes}
use Rattle.std.proofs.lemmas.Result.{IfOk-weaker}
use Rattle.nv_region.specs.Region.{region_of}
use Rattle.nv_outcome.specs.Answer.{outcome_of}
use Rattle.nv_journal.specs.Undo.{undone}
use Rattle.nv_image_check.proofs.Found.{as_found}
use Rattle.nv_comparing.proofs.Images.{both_compared, held_in, second_refused, tree_as}
use Rattle.nv_comparing.proofs.comparing.look_beside.Goals as goal

pub shown-second-requires : goal.shown-second-requires
shown-second-requires c =
    let others = c.in-Recovered.others in
    let is = as_found (region_of c.args.b.now) c.in_ok-image.image c.in-Recovered.other others c.in-Recovered.is c.in_ok-image.ensures in
    held_in c.args.b.now c.in-Recovered.other others is

pub returns-in-Refused : goal.returns-in-Refused
returns-in-Refused c R of undo = IfOk-weaker c.refused_look.result _ _
    (λ look said. second_refused R (region_of c.args.b.now) (outcome_of c.args.found.now) of c.in-Refused.refusal (string_bytes look.text) look.compared (rw c.in-Refused.is at c.in_ok-image.ensures) said)
    c.refused_look.ensures

pub returns-in-Recovered : goal.returns-in-Recovered
returns-in-Recovered c R of undo =
    let S = region_of c.args.b.now in
    let found = c.args.found.now in
    let others = c.in-Recovered.others in
    let is = as_found S c.in_ok-image.image c.in-Recovered.other others c.in-Recovered.is c.in_ok-image.ensures in
    both_compared R S found others of is.0 _ _
    (tree_as c.shown-first.result.memory.now c.args.memory.now c.shown-first.result.rows.now found.rows c.shown-first.ensures.memory c.shown-first.ensures.rows (undone found.sup R) undo)
    (tree_as c.shown-second.result.memory.now c.in-Recovered.other c.shown-second.result.rows.now others.rows c.shown-second.ensures.memory c.shown-second.ensures.rows (undone others.sup S) is.1)
    _ _ (c.len.ensures ∙ found.faults.ok.0) (c.len-in-Recovered.ensures ∙ others.faults.ok.0)
    c.compared_look-look.result c.compared_look-look.ensures.text c.compared_look-look.ensures.status c.compared_look-look.ensures.first c.compared_look-look.ensures.second
