use Rattle.std.proofs.Common.{arith, below_more, refl}
use Rattle.nv_records.proofs.Slots.{all_searched}
use Rattle.nv_records.proofs.naming.search.Goals as goal

pub loop-ticket-preserved : goal.loop-ticket-preserved
loop-ticket-preserved c = below_more _ _ c.loop-ticket.invariant (c.in_default.ensures.none refl)

pub unreachable-requires : goal.unreachable-requires
unreachable-requires c =
    all_searched c.args.tables.now.layout c.args.slot c.requires.0 c.loop-ticket.ticket c.are_laid.ensures c.requires.1
    (omega (arith, c.slot_block_count-ticket-end.ensures, c.loop-ticket-test.false)) c.loop-ticket.invariant
