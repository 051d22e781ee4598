use Rattle.std.proofs.Common.{refl, ◌<◌, ◌∙◌, ℕ, sym, subst, List, ap, take, ◌≡◌, ◌++◌}
use Rattle.std.specs.List.Sorted.{IsPermutation}
use Rattle.nv_scan.specs.Tickets.{numbers_of}
use Rattle.nv_scan.specs.ClaimList.{ClaimList}
use Rattle.nv_scan.specs.Work.{claims_among, claims_in, rows_in, AreNext}
use Rattle.nv_scan.proofs.RowHeads.{heads_first}
use Rattle.nv_recover.specs.Scanned.{all_claims}
use Rattle.nv_super.specs.declared.owners.Owner.{Owner}
use Rattle.nv_recover.proofs.Inodes.{ended_at}
use Rattle.nv_recover.proofs.InOrder.{first_in_order}
use Rattle.nv_recover.proofs.Tickets.{tickets_none, tickets_more, claims_keep_up}
use Rattle.nv_recover.proofs.replaying.scan_apart.Goals as goal

pub loop-ticket-init : goal.loop-ticket-init
loop-ticket-init g c = record {
  same = c.new-scanner.ensures ∙ c.sup.ensures;
  room = c.in_ok-each.ensures;
  first = tickets_none c.new-inodes.ensures.rows c.new-inodes.ensures.faults c.new-work.ensures.items;
  heads = rw (c.new-heads.ensures, c.new-inodes.ensures.rows) refl;
  claims = c.new-claims.ensures ∙ sym (ap all_claims c.new-work.ensures.items);
}

pub push_heads-requires : goal.push_heads-requires
push_heads-requires g c =
    let l = c.loop-ticket in
    let next = c.in_ok-count.ensures.next in
    heads_first l.heads.items l.inodes.rows.items (rows_in next.pieces) c.scan_slots.new.inodes.rows.items l.invariant.heads next.rows

pub loop-ticket-preserved : goal.loop-ticket-preserved
loop-ticket-preserved g c =
    let R = g.P.Pmem.region c.args.memory.now in
    let l = c.loop-ticket in
    let t = l.ticket in
    let own = claims_among (take c.in_ok-count.count c.scan_slots.new.each.items) in
    let lay = c.args.tables.now.layout in
    let list = c.in_ok-to_list.field-0 in
    let same : list.items ≡ own = c.in_ok-to_list.ensures ∙ c.in_ok-runs.ensures ∙ ap (λ (each : List ClaimList). claims_among (take c.in_ok-count.count each)) c.deref.ensures.value in
    record {
      same = c.scan_slots.ensures.scanner ∙ l.invariant.same;
      room = c.scan_slots.ensures.room;
      first = tickets_more t list l.invariant.first (subst (AreNext R lay (numbers_of lay t) l.inodes c.scan_slots.new.inodes) (sym same) c.in_ok-count.ensures.next) c.in_ok-push.ensures.items;
      heads = c.in_ok-push_heads.ensures;
      claims = claims_keep_up l.work.items c.push.new.self.items list l.invariant.claims (c.in_ok-append.ensures.ok ∙ ap (λ (ps : List (ℕ × Owner)). l.claims.items ++ ps) (sym c.in_ok-to_list.ensures)) c.in_ok-push.ensures.items;
    }

pub returns-clause-inodes : goal.returns-clause-inodes
returns-clause-inodes g c =
    let l = c.loop-ticket in
    let all = l.invariant.first in
    let is = first_in_order c.are_laid.ensures (ended_at c.ticket_count-ticket-end.ensures c.loop-ticket-test.false l.auto.ticket-end) all.first c.with_heads.ensures.rows c.with_heads.ensures.faults in
    (is.0.sorted, is.1, subst (IsPermutation (claims_in is.0.sorted)) (sym all.claims_are) is.0.claims)

pub returns-clause-tickets : goal.returns-clause-tickets
returns-clause-tickets g c =
    let l = c.loop-ticket in
    l.invariant.first.lists_are ∙ ended_at c.ticket_count-ticket-end.ensures c.loop-ticket-test.false l.auto.ticket-end

pub scan_slots-requires-clause-tables : goal.scan_slots-requires-clause-tables
scan_slots-requires-clause-tables g c = sym c.loop-ticket.invariant.same

pub scan_slots-requires-clause-blocks : goal.scan_slots-requires-clause-blocks
scan_slots-requires-clause-blocks g c = c.requires

pub scan_slots-requires-clause-ticket : goal.scan_slots-requires-clause-ticket
scan_slots-requires-clause-ticket g c = let t = c.loop-ticket.ticket in subst (λ (n : ℕ). t < n) c.ticket_count-ticket-end.ensures c.loop-ticket-test.true
