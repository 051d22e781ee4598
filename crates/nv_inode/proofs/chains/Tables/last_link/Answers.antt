use Rattle.std.proofs.Common.{◌∙◌, ap, sym}
use Rattle.nv_inode.specs.Chains.{first_link, link_behind}
use Rattle.nv_inode.proofs.GrownTables.{last_is}
use Rattle.nv_inode.proofs.chains.Tables.last_link.Goals as goal

pub returns-in-Some-clause-value : goal.returns-in-Some-clause-value
returns-in-Some-clause-value c = last_is (first_link c.args.cpu) c.chain.result.now c.in-Some.block.now (sym c.in-Some.ensures.value) ∙ ap (link_behind (first_link c.args.cpu)) c.chain.ensures
