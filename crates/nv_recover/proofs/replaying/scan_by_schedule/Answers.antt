use Rattle.std.proofs.Common.{refl, subst, sym}
use Rattle.nv_super.specs.declared.superblock.Super.{Super}
use Rattle.nv_claimcore.specs.Replay.{Inside, lists}
use Rattle.nv_rows.proofs.UsedRows.{slots_below}
use Rattle.nv_recover.proofs.Claims.{work_inside, claims_covered, claimed_by_sets}
use Rattle.nv_recover.proofs.Inodes.{rows_slotted}
use Rattle.nv_recover.proofs.Owned.{owned_claimed}
use Rattle.nv_recover.specs.Scanned.{AreClaimedSets}
use Rattle.nv_recover.proofs.replaying.scan_by_schedule.Goals as goal

pub claim_all-requires-clause-inside : goal.claim_all-requires-clause-inside
claim_all-requires-clause-inside g c = let is = c.in_ok-inodes.ensures.inodes in
    subst (λ (s : Super). Inside s.blocks (lists c.in_ok-inodes.work.items)) (sym c.sup.ensures) (work_inside c.args.tables.now.layout is.0 c.are_laid.ensures is.1.pieces_are c.in_ok-inodes.work.items is.2)

pub cross_faults-requires : goal.cross_faults-requires
cross_faults-requires g c = slots_below c.args.tables.now.layout c.are_laid.ensures (rows_slotted c.are_laid.ensures c.in_ok-inodes.ensures.inodes.1 _ refl)

pub owned_of-requires : goal.owned_of-requires
owned_of-requires g c =
    let is = c.in_ok-inodes.ensures.inodes in
    let s = c.args.tables.now.layout.sup in
    let sets = subst (λ (x : Super). AreClaimedSets x (lists c.in_ok-inodes.work.items) c.in_ok-claimed.claimed.first.items c.in_ok-claimed.claimed.second.items) c.sup.ensures c.in_ok-claimed.ensures.sets in
    let claimed = claimed_by_sets s is.0 c.in_ok-inodes.work.items c.in_ok-claimed.claimed is.2 c.in_ok-claimed.ensures.claims sets in
    record { covers = claims_covered c.args.tables.now.layout is.0 c.in_ok-claimed.claimed c.are_laid.ensures is.1.pieces_are claimed refl refl }

pub returns : goal.returns
returns g c =
    let is = c.in_ok-inodes.ensures.inodes in
    let s = c.args.tables.now.layout.sup in
    let sets = subst (λ (x : Super). AreClaimedSets x (lists c.in_ok-inodes.work.items) c.in_ok-claimed.claimed.first.items c.in_ok-claimed.claimed.second.items) c.sup.ensures c.in_ok-claimed.ensures.sets in
    let claimed = claimed_by_sets s is.0 c.in_ok-inodes.work.items c.in_ok-claimed.claimed is.2 c.in_ok-claimed.ensures.claims sets in
    record {
      pieces = is.0;
      inodes = is.1;
      owned = owned_claimed s is.0 c.in_ok-claimed.claimed c.in_ok-owned.owned claimed c.in_ok-owned.ensures.first c.in_ok-owned.ensures.doubled;
      cross = c.in_ok-cross.ensures;
    }
