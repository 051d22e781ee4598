use Rattle.std.proofs.Common.{◌*◌, ℕ, sym, subst, arith}
use Rattle.nv_journal.specs.Undone.{SameBefore}
use Rattle.nv_metadata.specs.Memory.{MetadataState, CanHold}
use Rattle.nv_metadata.specs.Parts.{IsJoined}
use Rattle.nv_metadata.proofs.Ready.{can_still}
use Rattle.nv_metadata.proofs.parts.hold_all.Goals as goal

pub join-requires-clause-as_long : goal.join-requires-clause-as_long
join-requires-clause-as_long c =
    let here = c.requires.can.blocks in
    let there = c.requires.other.blocks in
    let a = here.0 in
    let b = here.1 in
    let d = there.0 in
    let e = there.1 in
    omega (arith, a, b, d, e)

pub join-requires-clause-within : goal.join-requires-clause-within
join-requires-clause-within c =
    let here = c.requires.can.blocks in
    let a = here.0 in
    let b = here.1 in
    let inside = c.requires.areas.room in
    omega (arith, a, b, inside, c.system_blocks.ensures)

pub join-requires-clause-behind : goal.join-requires-clause-behind
join-requires-clause-behind c =
    let here = c.requires.can.front in
    let there = c.requires.other.front in
    (omega (arith, here, c.system_blocks.ensures), omega (arith, there, c.system_blocks.ensures))

pub returns-clause-can : goal.returns-clause-can
returns-clause-can c =
    can_still c.args.sup.now c.args.memory.now c.join.new.self c.requires.can (subst (λ (b : ℕ). SameBefore (4096 * b) c.args.memory.now.memory.region c.join.new.self.memory.region) c.system_blocks.ensures c.in_ok-join.ensures.before) c.join.ensures.same

pub returns-clause-joined : goal.returns-clause-joined
returns-clause-joined c = subst (λ (b : ℕ). IsJoined b c.args.sup.now.blocks c.args.memory.now c.args.other c.join.new.self) c.system_blocks.ensures (c.in_ok-join.ensures.joined c.args.sup.now.blocks)

pub returns-in_err-join-clause-can : goal.returns-in_err-join-clause-can
returns-in_err-join-clause-can c = subst (λ (m : MetadataState). CanHold c.args.sup.now m) (sym c.in_err-join.ensures.refused) c.requires.can
