use Rattle.nv_names.proofs.Calls.{gone, beside_added, puts_added}
use Rattle.nv_names.proofs.table.Table.add.Goals as goal

pub invariant_of-self : goal.invariant_of-self
invariant_of-self c =
    beside_added c.self.inside.buckets c.take_out.new.self c.self.inside.fresh.items c.forget.new.list.items c.push_reserved.new.self.items c.args.name.now c.new.result _
    (gone c.self.inside.buckets c.take_out.new.self c.self.inside.fresh.items c.forget.new.list.items c.args.name.now
    c.self.invariant c.take_out.ensures c.forget.ensures.others)
    c.new.ensures c.push_reserved.ensures.items

pub returns-clause-names : goal.returns-clause-names
returns-clause-names c =
    rw (← c.self.view_is)
    (puts_added c.self.inside.buckets c.take_out.new.self c.self.inside.fresh.items c.forget.new.list.items c.push_reserved.new.self.items c.args.name.now c.new.result (record { inode = c.args.inode; place = c.args.place })
    (gone c.self.inside.buckets c.take_out.new.self c.self.inside.fresh.items c.forget.new.list.items c.args.name.now
    c.self.invariant c.take_out.ensures c.forget.ensures.others)
    c.new.ensures c.push_reserved.ensures.items)
