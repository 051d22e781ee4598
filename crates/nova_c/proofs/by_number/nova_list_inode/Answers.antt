use Rattle.std.proofs.Common.{◌∙◌, ap, subst}
use Rattle.nv_region.specs.Region.{Region}
use Rattle.nv_tree.specs.Refusals.{IsReadRefusedBy}
use Rattle.nv_calls.specs.Mount.{Mount}
use Rattle.nova_c.specs.Codes.{TellsRefusal}
use Rattle.nova_c.specs.Refused.{list_inode_refusal}
use Rattle.nova_c.proofs.by_number.nova_list_inode.Goals as goal

pub returns-in-Err-clause-refused : goal.returns-in-Err-clause-refused
returns-in-Err-clause-refused c running some other =
    let before = c.deref.ensures ∙ c.in-Some.ensures.mount.1 in
    subst (λ (m : Mount Region). TellsRefusal (IsReadRefusedBy (list_inode_refusal m c.args.inode)) c.in-Err.status) before
    (c.in-Err.ensures.refused (ap (λ (m : Mount Region). m.stopped) before ∙ running.runs))
