use Rattle.std.proofs.Common.{◌≡◌, ◌≢◌, ◌<◌, ◌∙◌, ◌+◌, ◌*◌, ◌++◌, length, take, ℕ, List, Some, None, sym, ap, subst, refl, append-nil, arith}
use Rattle.std.proofs.Math.ListN.{set}
use Rattle.std.proofs.Math.Nat.{le_antisymm}
use Rattle.std.proofs.lemmas.List.{length-set, take-set, take_more_set}
use Rattle.nv_super.specs.declared.owners.Owner.{Owner}
use Rattle.nv_super.specs.declared.faults.Fault.{Fault}
use Rattle.nv_scan.specs.ClaimList.{ClaimList}
use Rattle.nv_scan.specs.Kept.{KeepsFound}
use Rattle.nv_region.specs.Region.{HasBlocks}
use Rattle.nv_super.specs.declared.superblock.Super.{Super}
use Rattle.nv_super.specs.Layout.{slot_of}
use Rattle.nv_scan.specs.Tickets.{number_in, numbers_to}
use Rattle.nv_scan.specs.Work.{AreNext, claims_among}
use Rattle.nv_scan.specs.declared.inodes.Inodes.{Inodes}
use Rattle.nv_scan.proofs.Runs.{among_push}
use Rattle.nv_inode.proofs.BlockBounds.{small_block}
use Rattle.nv_inode.proofs.BlocksOfSlots.{slots_are}
use Rattle.nv_scan.proofs.BlockSlots.{next_number, number_small}
use Rattle.nv_scan.proofs.Work.{at_slot, next_none, next_slot}
use Rattle.nv_scan.proofs.working.scan_block.Goals as goal
use Rattle.nv_scan.proofs.working.scan_block.Goals.{then-found, else-found}

pub loop-preserved : goal.loop-preserved
loop-preserved g c =
    let R = g.P.Pmem.region c.args.memory.now in
    let lay = c.args.tables.now.layout in
    let block = c.args.block.now in
    let l = c.loop.invariant in
    let k = c.loop.counter in
    let n = c.loop.count in
    let each = c.loop.each.items in
    let own = c.scan_at.new.claims in
    let old = c.args.inodes.now in
    let slots = small_block lay block c.requires.laid c.requires.block in
    let room : length (set each n own) ≡ 32 = length-set each n own ∙ l.room in
    let less : n < length each = (let below = c.loop-test.true in let count = l.count in let long = l.room in let few = slots.few in omega (arith, below, count, long, few)) in
    let stands = slots_are lay block k (number_in lay block k) c.requires.laid c.requires.block record { within = c.loop-test.true; number = refl } in
    let found = subst (λ (i : ℕ). KeepsFound R lay i c.loop.inodes c.scan_at.new.inodes own c.in_ok-found.found) l.inode
    (c.in_ok-found.ensures.kept lay c.requires.laid (c.requires.tables ∙ sym l.scanner) (λ some. subst (λ (i : ℕ). slot_of lay i ≡ Some c.loop.at) (sym l.inode) (stands (subst (λ (i : ℕ). i ≢ 0) l.inode some) ∙ ap Some (sym l.at)))) in
    let at_next : c.loop.at + 128 ≡ block.start + 128 * (k + 1) = (let at = l.at in omega (arith, at)) in
    let inode_next : c.loop.inode + c.cpus-cpus.result ≡ number_in lay block (k + 1) = next_number lay block k l.inode c.cpus-cpus.ensures in
    elim c.if-found.branch [
      | then-found w ↦ (
          let kept = subst (KeepsFound R lay (number_in lay block k) c.loop.inodes c.scan_at.new.inodes own) w.if-found.true found in
          let p = kept.piece in
          let at = at_slot block k (Some p) kept.is in
          let faults = kept.faults ∙ ap (λ (fs : List Fault). c.loop.inodes.faults.items ++ fs) (sym (append-nil p.faults.items)) in
          let claims = ap (λ (m : ℕ). claims_among (take m (set each n own))) w.count-is ∙ ap claims_among (take_more_set each n own less) ∙ among_push (take n each) own
          ∙ ap (λ (cs : List (ℕ × Owner)). claims_among (take n each) ++ cs) (ap (λ (x : ClaimList). x.items) (sym kept.claims_are) ∙ sym (append-nil p.claims.items)) in
          record {
            scanner = c.scan_at.ensures.same ∙ l.scanner;
            room = room;
            count = (let same = w.count-is in let count = l.count in omega (arith, same, count));
            at = at_next;
            inode = inode_next;
            next = next_slot at l.next kept.rows faults claims;
          })
      | else-found w ↦ (
          let none = subst (KeepsFound R lay (number_in lay block k) c.loop.inodes c.scan_at.new.inodes own) w.if-found.false found in
          let at = at_slot block k None none.0 in
          let claims = ap (λ (m : ℕ). claims_among (take m (set each n own))) w.count-is ∙ ap claims_among (take-set each n own) ∙ sym (append-nil (claims_among (take n each))) in
          record {
            scanner = c.scan_at.ensures.same ∙ l.scanner;
            room = room;
            count = (let same = w.count-is in let count = l.count in omega (arith, same, count));
            at = at_next;
            inode = inode_next;
            next = subst (λ (x : Inodes). AreNext R lay (numbers_to lay block (k + 1)) old x (claims_among (take c.if-found.count (set each n own)))) (sym none.1)
                (next_slot at l.next (sym (append-nil c.loop.inodes.rows.items)) (sym (append-nil c.loop.inodes.faults.items)) claims);
          })
    ]

pub returns-clause-next : goal.returns-clause-next
returns-clause-next g c =
    let lay = c.args.tables.now.layout in
    let block = c.args.block.now in
    let all : c.loop.counter ≡ block.slots = le_antisymm c.loop.auto.counter-end c.loop-test.false in
    subst (λ (n : ℕ). AreNext (g.P.Pmem.region c.args.memory.now) lay (numbers_to lay block n) c.args.inodes.now c.loop.inodes (claims_among (take c.loop.count c.loop.each.items))) all c.loop.invariant.next

pub loop-init : goal.loop-init
loop-init g c = record {
  scanner = refl;
  room = c.requires.room;
  count = omega arith;
  at = omega arith;
  inode = omega arith;
  next = next_none refl;
}

pub scan_at-requires-clause-blocks : goal.scan_at-requires-clause-blocks
scan_at-requires-clause-blocks g c = subst (λ (s : Super). HasBlocks (g.P.Pmem.region c.args.memory.now) s.blocks) (c.requires.tables ∙ sym c.loop.invariant.scanner) c.requires.blocks

pub scan_at-requires-clause-whole : goal.scan_at-requires-clause-whole
scan_at-requires-clause-whole g c =
    let small = small_block c.args.tables.now.layout c.args.block.now c.requires.laid c.requires.block in
    let at = c.loop.invariant.at in
    let whole = small.whole in
    omega (arith, at, whole)

pub scan_at-requires-clause-inside : goal.scan_at-requires-clause-inside
scan_at-requires-clause-inside g c =
    let small = small_block c.args.tables.now.layout c.args.block.now c.requires.laid c.requires.block in
    let at = c.loop.invariant.at in
    let inside = small.inside in
    let below = c.loop-test.true in
    let same : c.args.tables.now.layout.sup.blocks ≡ c.loop.scanner.blocks = ap (λ (s : Super). s.blocks) (c.requires.tables ∙ sym c.loop.invariant.scanner) in
    omega (arith, at, inside, below, same)

pub overflow_add-at : goal.overflow_add-at
overflow_add-at g c =
    let small = small_block c.args.tables.now.layout c.args.block.now c.requires.laid c.requires.block in
    let at = c.loop.invariant.at in
    let inside = small.inside in
    let below = c.loop-test.true in
    let most = c.requires.laid.layout.areas.blocks_to in
    omega (arith, at, inside, below, most)

pub overflow_add-inode : goal.overflow_add-inode
overflow_add-inode g c =
    let lay = c.args.tables.now.layout in
    let small = small_block lay c.args.block.now c.requires.laid c.requires.block in
    let most = number_small lay c.args.block.now c.loop.counter small c.requires.laid (let below = c.loop-test.true in let few = small.few in omega (arith, below, few)) in
    let is = c.loop.invariant.inode in
    let cpus = c.cpus-cpus.ensures in
    let few = c.requires.laid.layout.areas.cpus_to in
    omega (arith, most, is, cpus, few)

pub index_mut-requires : goal.index_mut-requires
index_mut-requires g c =
    let small = small_block c.args.tables.now.layout c.args.block.now c.requires.laid c.requires.block in
    let count = c.loop.invariant.count in
    let room = c.loop.invariant.room in
    let few = small.few in
    let below = c.loop-test.true in
    omega (arith, count, room, few, below)

pub returns-clause-count : goal.returns-clause-count
returns-clause-count g c =
    let small = small_block c.args.tables.now.layout c.args.block.now c.requires.laid c.requires.block in
    let count = c.loop.invariant.count in
    let few = small.few in
    let end = c.loop.auto.counter-end in
    omega (arith, count, few, end)
