use Rattle.nv_names.proofs.table.Table.put.Goals as goal

pub returns-then-len-capacity-clause-had : goal.returns-then-len-capacity-clause-had
returns-then-len-capacity-clause-had c = c.get-had.ensures
