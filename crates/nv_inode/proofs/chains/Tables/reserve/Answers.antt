use Rattle.std.proofs.Common.{ap, arith}
use Rattle.std.proofs.lemmas.Result.{on_ok_weaker}
use Rattle.nv_inode.specs.Tables.{TableChains}
use Rattle.nv_inode.proofs.GrownTables.{has_room, layout_reserved, tables_reserved, within}
use Rattle.nv_inode.proofs.chains.Tables.reserve.Goals as goal

pub invariant_of-self-2 : goal.invariant_of-self-2
invariant_of-self-2 c =
    let t = c.self.inside in
    tables_reserved t.sup t.chains.items t.marks.items c.args.self.now.layout (ap (λ (x : TableChains). x.layout) c.self.view_is) c.self.invariant c.args.cpu c.requires
    c.index_mut.result.now c.reserve.new.self c.index_mut.ensures.value c.reserve.ensures.items c.lengthen.new.marks.items c.lengthen.ensures.same

pub returns-clause-layout : goal.returns-clause-layout
returns-clause-layout c =
    let t = c.self.inside in
    layout_reserved t.sup t.chains.items t.marks.items c.args.self.now.layout (ap (λ (x : TableChains). x.layout) c.self.view_is) c.self.invariant c.args.cpu c.requires
    c.index_mut.result.now c.reserve.new.self c.index_mut.ensures.value c.reserve.ensures.items

pub returns-clause-ready : goal.returns-clause-ready
returns-clause-ready c =
    let t = c.self.inside in
    on_ok_weaker c.reserve.result (λ ok. has_room t.sup t.chains.items c.lengthen.new.marks.items c.args.cpu c.reserve.new.self
    (within t.sup t.chains.items t.marks.items c.args.self.now.layout (ap (λ (x : TableChains). x.layout) c.self.view_is) c.self.invariant c.args.cpu c.requires)
    (let long = c.in_ok-lengthen.ensures.long in let is = c.words_for.ensures in omega (arith, long, is)) ok) c.reserve.ensures.ok
