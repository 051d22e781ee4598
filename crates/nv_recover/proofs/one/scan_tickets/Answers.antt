use Rattle.std.proofs.Common.{refl, ◌≤◌, ◌<◌, ◌*◌, ◌++◌, [], ℕ, List, length, take, sym, ap, ◌∙◌, subst, arith}
use Rattle.std.specs.List.{All}
use Rattle.nv_super.specs.declared.owners.Owner.{Owner}
use Rattle.nv_super.specs.declared.superblock.Super.{Super}
use Rattle.nv_scan.specs.ClaimList.{ClaimList}
use Rattle.nv_scan.specs.Work.{claims_among, claims_in, rows_in}
use Rattle.nv_scan.proofs.RowHeads.{heads_first}
use Rattle.nv_scan.proofs.NoneUsed.{knows_none, set_long}
use Rattle.nv_scan.proofs.Work.{claims_join}
use Rattle.nv_outcome.specs.Parts.{AreMaps}
use Rattle.nv_recover.specs.Scanned.{AreWithin, Cover, Fits}
use Rattle.nv_recover.proofs.Inodes.{ended_at}
use Rattle.nv_recover.proofs.InOrder.{first_in_order}
use Rattle.nv_recover.proofs.MadeMaps.{within_cover}
use Rattle.nv_recover.proofs.Owned.{pieces_within, sets_of}
use Rattle.nv_recover.proofs.Tickets.{first_none, first_more}
use Rattle.nv_recover.proofs.one.scan_tickets.Goals as goal

pub loop-ticket-init : goal.loop-ticket-init
loop-ticket-init g c = record {
  same = c.new-scanner.ensures ∙ c.sup.ensures;
  room = c.in_ok-each.ensures;
  first = ([], first_none c.new-inodes.ensures.rows c.new-inodes.ensures.faults, c.in_ok-sets.ensures.maps);
  cover = subst (λ (s : Super). Cover s c.in_ok-sets.sets.first.items c.in_ok-sets.sets.second.items) c.sup-2.ensures c.in_ok-sets.ensures.cover;
  heads = rw (c.new-heads.ensures, c.new-inodes.ensures.rows) refl;
  known = knows_none (g.P.Pmem.region c.args.memory.now) c.sup-3.result.now.blocks c.in_ok-unused.ensures;
  set = subst (λ (s : Super). s.blocks ≤ 64 * length c.in_ok-unused.unused) c.sup-3.ensures (set_long c.sup-3.result.now.blocks c.in_ok-unused.ensures);
}

pub scan_slots_once-requires-clause-tables : goal.scan_slots_once-requires-clause-tables
scan_slots_once-requires-clause-tables g c = sym c.loop-ticket.invariant.same

pub scan_slots_once-requires-clause-blocks : goal.scan_slots_once-requires-clause-blocks
scan_slots_once-requires-clause-blocks g c = c.requires

pub scan_slots_once-requires-clause-ticket : goal.scan_slots_once-requires-clause-ticket
scan_slots_once-requires-clause-ticket g c = let t = c.loop-ticket.ticket in subst (λ (n : ℕ). t < n) c.ticket_count-ticket-end.ensures c.loop-ticket-test.true

pub push_heads-requires : goal.push_heads-requires
push_heads-requires g c =
    let l = c.loop-ticket in
    let next = c.in_ok-count.ensures.next in
    heads_first l.heads.items l.inodes.rows.items (rows_in next.pieces) c.scan_slots_once.new.inodes.rows.items l.invariant.heads next.rows

pub claim_each-requires : goal.claim_each-requires
claim_each-requires g c =
    let R = g.P.Pmem.region c.args.memory.now in
    let lay = c.args.tables.now.layout in
    let l = c.loop-ticket in
    let n = c.in_ok-count.count in
    let first = l.sets.first.items in
    let second = l.sets.second.items in
    let own = claims_among (take n c.scan_slots_once.new.each.items) in
    let next = c.in_ok-count.ensures.next in
    let within = subst (AreWithin lay.sup) (sym next.claims_are) (pieces_within R lay next.pieces c.are_laid.ensures next.are.each) in
    record { within = subst (λ (each : List ClaimList). All (Fits first second) (claims_among (take n each))) (sym c.deref.ensures.value) (within_cover lay.sup.blocks own first second within l.invariant.cover.0 l.invariant.cover.1) }

pub loop-ticket-preserved : goal.loop-ticket-preserved
loop-ticket-preserved g c =
    let R = g.P.Pmem.region c.args.memory.now in
    let lay = c.args.tables.now.layout in
    let l = c.loop-ticket in
    let n = c.in_ok-count.count in
    let own = claims_among (take n c.scan_slots_once.new.each.items) in
    let next = c.in_ok-count.ensures.next in
    let pieces = l.invariant.first.0 in
    let claims = ap (λ (each : List ClaimList). claims_in pieces ++ claims_among (take n each)) c.deref.ensures.value ∙ ap (λ (cs : List (ℕ × Owner)). claims_in pieces ++ cs) next.claims_are ∙ sym (claims_join pieces next.pieces) in
    let long = c.claim_each.ensures.as_long in
    let cover = l.invariant.cover in record {
      same = c.scan_slots_once.ensures.scanner ∙ l.invariant.same;
      room = c.scan_slots_once.ensures.room;
      first = (
        pieces ++ next.pieces,
        first_more l.ticket pieces l.invariant.first.1 next,
        subst (λ (claims : List (ℕ × Owner)). AreMaps claims c.claim_each.new.self.first.items c.claim_each.new.self.second.items) claims (c.claim_each.ensures.maps (claims_in pieces) l.invariant.first.2),
      );
      cover = (subst (λ (n : ℕ). lay.sup.blocks ≤ 64 * n) (sym long.0) cover.0, subst (λ (n : ℕ). lay.sup.blocks ≤ 64 * n) (sym long.1) cover.1);
      heads = c.in_ok-push_heads.ensures;
      known = c.scan_slots_once.ensures.known;
      set = (let long = c.scan_slots_once.ensures.set in let before = l.invariant.set in omega (arith, long, before));
    }

pub returns : goal.returns
returns g c =
    let l = c.loop-ticket in
    let first = l.invariant.first.1 in
    let is = first_in_order c.are_laid.ensures (ended_at c.ticket_count-ticket-end.ensures c.loop-ticket-test.false l.auto.ticket-end) first c.with_heads.ensures.rows c.with_heads.ensures.faults in (
      is.0.sorted,
      l.invariant.first.0,
      is.1,
      is.0.claims,
      sets_of (g.P.Pmem.region c.args.memory.now) c.args.tables.now.layout is.0.sorted l.invariant.first.0 c.with_heads.result.rows.items l.sets.first.items l.sets.second.items c.are_laid.ensures is.1.pieces_are is.1.rows is.0.claims l.invariant.first.2 l.invariant.cover,
    )
