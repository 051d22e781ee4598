use Rattle.std.proofs.Common.{◌≡◌, ◌∙◌, ◌/◌, ◌<◌, ◌*◌, ◌==◌, true, ℕ, List, IsTrue, drop, length, ap, sym, subst, arith}
use Rattle.std.proofs.lemmas.List.{take_at}
use Rattle.nv_blockset.specs.BlockSet.{is_set, with_block}
use Rattle.nv_blockset.proofs.Sets.{has_same, with_block_long}
use Rattle.nv_scan.specs.Unused.{IsUnused, KnowsUnused}
use Rattle.nv_scan.proofs.NoneUsed.{knows_more, known_unused}
use Rattle.nv_scan.proofs.unused.UnusedBlocks.sees.Goals as goal

pub returns-then-contains-clause-unused : goal.returns-then-contains-clause-unused
returns-then-contains-clause-unused g c = λ _. (
    let few = c.if-block-ne-EXTRA_SLOTS.false in
    let start = c.if-block-ne-SLOT_SIZE.false in
    let in_set = subst (λ (ws : List ℕ). is_set ws (c.args.block.now.start / 4096) ≡ true) (c.deref.ensures.value ∙ c.self.view_is) (sym c.contains.ensures ∙ c.if-contains.true) in
    known_unused (g.P.Pmem.region c.args.memory.now) c.args.self.now c.args.block.now c.requires.known (omega (arith, few)) (omega (arith, start)) in_set)

pub returns-clause-known : goal.returns-clause-known
returns-clause-known g c =
    let R = g.P.Pmem.region c.args.memory.now in
    let x = c.args.block.now in
    let few = c.if-block-ne-EXTRA_SLOTS.false in
    let start = c.if-block-ne-SLOT_SIZE.false in
    let slots : x.slots ≡ 31 = omega (arith, few) in
    let unused : IsUnused R x = record { few = slots; start = omega (arith, start); none = c.has_no_word.ensures c.if-not-has_no_word.false } in
    let long = ap length c.insert.ensures ∙ with_block_long c.deref_mut.result.now (x.start / 4096) ∙ c.deref_mut.ensures.len in
    let all = take_at c.insert.new.words (drop (length c.insert.new.words) c.self.inside.words.items) c.self.inside.words.len long ∙ c.insert.ensures
    ∙ ap (λ (ws : List ℕ). with_block ws (x.start / 4096)) (c.deref_mut.ensures.value ∙ c.self.view_is) in
    subst (KnowsUnused R) (sym all) (knows_more R c.args.self.now x c.requires.known unused (c.requires.room slots))

pub returns-clause-kept : goal.returns-clause-kept
returns-clause-kept g c = λ _. (
    let x = c.args.block.now in
    let few = c.if-block-ne-EXTRA_SLOTS.false in
    let slots : x.slots ≡ 31 = omega (arith, few) in
    let room = c.requires.room slots in
    let long = ap length c.insert.ensures ∙ with_block_long c.deref_mut.result.now (x.start / 4096) ∙ c.deref_mut.ensures.len in
    let all = take_at c.insert.new.words (drop (length c.insert.new.words) c.self.inside.words.items) c.self.inside.words.len long ∙ c.insert.ensures
    ∙ ap (λ (ws : List ℕ). with_block ws (x.start / 4096)) (c.deref_mut.ensures.value ∙ c.self.view_is) in
    subst (λ (ws : List ℕ). IsTrue (is_set ws (x.start / 4096))) (sym all) (ap (λ (n : ℕ). n == 1) (has_same c.args.self.now (x.start / 4096) (omega (arith, room)))))
