use Rattle.std.proofs.Common.{ℕ, ◌+◌, ◌%◌, subst}
use Rattle.nv_region.specs.Region.{Region}
use Rattle.nv_records.specs.Records.{TellsRecord}
use Rattle.nv_records.proofs.Listed.{one_further}
use Rattle.nv_records.proofs.records.add_records.Goals as goal

pub loop-behind-preserved : goal.loop-behind-preserved
loop-behind-preserved g c = λ places are.
    let l = c.args.tables.now.layout in
    let R : Region = g.P.Pmem.region c.args.memory.now in
    let n : ℕ = c.loop-behind.behind in
    let told = c.record_at-record.result in
    one_further l R c.args.cpu places n c.loop-behind.records.items c.push.new.self.items told c.in_ok-push.ensures.items (c.loop-behind.invariant places are)
    (subst (λ (k : ℕ). TellsRecord l R c.args.cpu ((k + n) % 252) told) c.load-dequeue.ensures c.record_at-record.ensures)
