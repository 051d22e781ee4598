use Rattle.nv_claimmap.proofs.Seats.{fewer_left}
use Rattle.test_store.proofs.claim_map.draw_all.Goals as goal

pub loop-ticket-smaller : goal.loop-ticket-smaller
loop-ticket-smaller c = let drawn = c.in-Some.ensures in fewer_left c.args.map.now.sizes.tickets c.in-Some.ticket c.loop-ticket.seat.view c.draw.new.seat.view drawn.ticket.rises drawn.ticket.below drawn.joins
