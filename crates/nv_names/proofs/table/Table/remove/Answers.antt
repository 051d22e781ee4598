use Rattle.nv_names.proofs.Calls.{gone, puts_none}
use Rattle.nv_names.proofs.table.Table.remove.Goals as goal

pub invariant_of-self : goal.invariant_of-self
invariant_of-self c =
    (gone c.self.inside.buckets c.take_out.new.self c.self.inside.fresh.items c.forget.new.list.items c.args.name.now
    c.self.invariant c.take_out.ensures c.forget.ensures.others).beside

pub returns-clause-names : goal.returns-clause-names
returns-clause-names c =
    rw (← c.self.view_is)
    (puts_none c.self.inside.buckets c.take_out.new.self c.self.inside.fresh.items c.forget.new.list.items c.args.name.now
    (gone c.self.inside.buckets c.take_out.new.self c.self.inside.fresh.items c.forget.new.list.items c.args.name.now
    c.self.invariant c.take_out.ensures c.forget.ensures.others))
