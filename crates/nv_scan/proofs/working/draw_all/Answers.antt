use Rattle.std.proofs.Common.{◌<◌, ◌≤◌, ◌*◌, ◌∙◌, ℕ, length, sym, ap, subst, ⊎_elim, refl, arith}
use Rattle.nv_super.specs.Layout.{IsLayout}
use Rattle.nv_super.specs.declared.superblock.Super.{Super}
use Rattle.nv_claimcore.specs.declared.view.View.{View}
use Rattle.nv_claimcore.specs.Claims.{past}
use Rattle.nv_scan.specs.Tickets.{ticket_count, numbers_of}
use Rattle.std.specs.List.{All}
use Rattle.nv_scan.specs.Work.{IsWork, rows_in, tickets_among}
use Rattle.nv_scan.proofs.RowHeads.{heads_first}
use Rattle.nv_scan.proofs.Work.{work_none, work_past, work_more, each_none, each_past, each_more, nearer}
use Rattle.nv_scan.proofs.NoneUsed.{knows_none, set_long}
use Rattle.nv_scan.proofs.working.draw_all.Goals as goal

pub loop-ticket-init : goal.loop-ticket-init
loop-ticket-init g c = record {
  scanner = sym (c.new-scanner.ensures ∙ c.sup.ensures);
  map = c.requires.own.0;
  number = refl;
  seats = ap (λ (v : View). v.seats) c.requires.own.1;
  room = c.in_ok-each.ensures;
  known = knows_none (g.P.Pmem.region c.args.memory.now) c.sup-2.result.now.blocks c.in_ok-unused.ensures;
  set = (let long = set_long c.sup-2.result.now.blocks c.in_ok-unused.ensures in subst (λ (s : Super). s.blocks ≤ 64 * length c.in_ok-unused.unused) c.sup-2.ensures long);
  work = work_none (g.P.Pmem.region c.args.memory.now) c.args.tables.now.layout c.args.seat.now.view c.new-inodes.result.rows.items c.new-inodes.result.faults.items c.requires.own.1 c.new-inodes.ensures.rows c.new-inodes.ensures.faults;
  heads = rw (c.new-heads.ensures, c.new-inodes.ensures.rows) refl;
  entered = each_none (g.G.Gate.entered c.args.gate.now c.args.seat.now.number) (ticket_count c.args.tables.now.layout) c.args.seat.now.view c.requires.own.1;
}

pub new-scanner-requires : goal.new-scanner-requires
new-scanner-requires g c = record { layout = subst IsLayout (sym c.sup.ensures) c.are_laid.ensures.layout }

pub scan_ticket-requires-clause-own : goal.scan_ticket-requires-clause-own
scan_ticket-requires-clause-own g c = c.in-Some.ensures.map ∙ c.loop-ticket.invariant.map

pub scan_ticket-requires-clause-ticket : goal.scan_ticket-requires-clause-ticket
scan_ticket-requires-clause-ticket g c = subst (λ (n : ℕ). c.in-Some.ticket < n) c.requires.sizes.1 c.in-Some.ensures.ticket.below

pub scan_ticket-requires-clause-room : goal.scan_ticket-requires-clause-room
scan_ticket-requires-clause-room g c = c.loop-ticket.invariant.room

pub push_heads-requires : goal.push_heads-requires
push_heads-requires g c =
    let done = c.in_ok-scan_ticket.ensures.done in
    heads_first c.loop-ticket.heads.items c.loop-ticket.inodes.rows.items (rows_in done.pieces) c.scan_ticket.new.inodes.rows.items c.loop-ticket.invariant.heads done.rows_are

pub loop-ticket-smaller : goal.loop-ticket-smaller
loop-ticket-smaller g c = let d = c.in-Some.ensures in
    nearer (g.P.Pmem.region c.args.memory.now) c.args.tables.now.layout c.args.map.now.sizes.tickets c.in-Some.ticket (numbers_of c.args.tables.now.layout c.in-Some.ticket) c.loop-ticket.seat.view c.draw.new.seat.view c.scan_ticket.new.seat.view
    d.ticket.rises d.ticket.below d.joins c.in_ok-scan_ticket.ensures.done

pub loop-ticket-preserved : goal.loop-ticket-preserved
loop-ticket-preserved g c =
    let was = c.loop-ticket.invariant in let d = c.in-Some.ensures in let t = c.in-Some.ticket in
    let R = g.P.Pmem.region c.args.memory.now in let l = c.args.tables.now.layout in
    let v = c.loop-ticket.seat.view in let u = c.draw.new.seat.view in let w = c.scan_ticket.new.seat.view in
    let old = c.loop-ticket.inodes.rows.items in let new = c.scan_ticket.new.inodes.rows.items in
    let before = c.loop-ticket.inodes.faults.items in let after = c.scan_ticket.new.inodes.faults.items in
    record {
      scanner = was.scanner ∙ sym c.scan_ticket.ensures.scanner;
      map = c.scan_ticket.ensures.seat.0 ∙ d.map ∙ was.map;
      number = c.scan_ticket.ensures.seat.1 ∙ d.number ∙ was.number;
      seats = c.scan_ticket.ensures.seat.2 ∙ ap (λ (x : View). x.seats) d.joins ∙ was.seats;
      room = c.scan_ticket.ensures.room;
      known = c.scan_ticket.ensures.known;
      set = (let long = c.scan_ticket.ensures.set in let before = was.set in omega (arith, long, before));
      heads = c.in_ok-push_heads.ensures;
      work = work_more R l v u w old new before after t was.work (subst (λ (n : ℕ). t < n) c.requires.sizes.1 d.ticket.below) d.joins c.in_ok-scan_ticket.ensures.done;
      entered = each_more (g.G.Gate.entered c.args.gate.now c.args.seat.now.number) R l v u w (numbers_of l t) t was.entered
          (subst (λ (n : ℕ). g.G.Gate.entered c.args.gate.now n t) (c.number.ensures ∙ d.number ∙ was.number) c.enter.ensures)
          (subst (λ (n : ℕ). t < n) c.requires.sizes.1 d.ticket.below) d.joins c.in_ok-scan_ticket.ensures.done;
    }

pub returns-clause-seat : goal.returns-clause-seat
returns-clause-seat g c =
    let was = c.loop-ticket.invariant in let d = c.in_default.ensures in (
      d.map ∙ was.map,
      d.number ∙ was.number,
      ⊎_elim (λ same. ap (λ (x : View). x.seats) same ∙ was.seats) (λ more. ap (λ (x : View). x.seats) more.2 ∙ was.seats) d.last,
    )

pub returns-clause-done : goal.returns-clause-done
returns-clause-done g c =
    let was = c.loop-ticket.invariant in let d = c.in_default.ensures in
    let R = g.P.Pmem.region c.args.memory.now in let l = c.args.tables.now.layout in
    let v = c.loop-ticket.seat.view in let w = c.draw.new.seat.view in let rows = c.loop-ticket.inodes.rows.items in let faults = c.loop-ticket.inodes.faults.items in
    rw (c.with_heads.ensures.rows, c.with_heads.ensures.faults)
    record {
      ended = subst (λ (n : ℕ). 0 < past n w.numbers) c.requires.sizes.1 d.none;
      work = ⊎_elim (λ same. subst (λ (x : View). IsWork R l x rows faults) (sym same) was.work)
          (λ more. work_past R l v w rows faults more.0 was.work (subst (λ (n : ℕ). n ≤ more.0) c.requires.sizes.1 more.1) more.2) d.last;
    }

pub returns-clause-entered : goal.returns-clause-entered
returns-clause-entered g c =
    let was = c.loop-ticket.invariant in let d = c.in_default.ensures in
    let l = c.args.tables.now.layout in let v = c.loop-ticket.seat.view in let w = c.draw.new.seat.view in
    let P : ℕ → Type 0 = g.G.Gate.entered c.args.gate.now c.args.seat.now.number in
    ⊎_elim (λ same. subst (λ (x : View). All P (tickets_among (ticket_count l) x.numbers)) (sym same) was.entered)
    (λ more. each_past P (ticket_count l) v w more.0 was.entered (subst (λ (n : ℕ). n ≤ more.0) c.requires.sizes.1 more.1) more.2) d.last
