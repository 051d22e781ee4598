use Rattle.std.proofs.Common.{◌≡◌, ◌+◌, ◌*◌, ◌^◌, ◌<◌, ℕ, subst, sym}
use Rattle.nv_inode.specs.Numbers.{next_number}
use Rattle.nv_inode.proofs.GrownTables.{next_small}
use Rattle.nv_inode.proofs.chains.Tables.next_number.Goals as goal

pub returns-clause-small : goal.returns-clause-small
returns-clause-small c =
    let is : c.table_size.result * c.cpus.result + c.args.cpu ≡ next_number c.args.self.now.layout c.args.cpu = λ i. c.table_size.ensures.value i * c.cpus.ensures i + c.args.cpu in
    subst (λ (n : ℕ). n < 2 ^ 32) (sym is) (next_small c.args.self.now.layout c.args.cpu c.are_laid.ensures c.requires)
