use Rattle.std.proofs.Common.{◌≡◌, ◌||◌, ◌+◌, ◌/◌, ◌<◌, ◌∙◌, ℕ, Bool, true, false, refl, List, length, take, get_or, eqb, ap, sym, arith}
use Rattle.std.specs.List.{list_any}
use Rattle.std.proofs.lemmas.List.Folds.{list_any_more}
use Rattle.nv_blockset.specs.BlockSet.{is_set, with_block}
use Rattle.nv_blockset.proofs.Sets.{with_block_long}
use Rattle.nv_inode.proofs.Marks.{set_more}
use Rattle.nv_inode.proofs.chains.mark_blocks.Goals as goal

-- one block more of a row in a set
next_marked : (marks old new : List ℕ) (blocks : List ℕ) (k b : ℕ) → k < length blocks → get_or blocks k 0 / 64 < length old → new ≡ with_block old (get_or blocks k 0) → is_set old b ≡ (is_set marks b || list_any (eqb b) (take k blocks))
    → is_set new b ≡ (is_set marks b || list_any (eqb b) (take (k + 1) blocks))
next_marked marks old new blocks k b more inside is before =
    ap (λ (ws : List ℕ). is_set ws b) is ∙ set_more old (get_or blocks k 0) b inside ∙ ap (λ (t : Bool). t || eqb b (get_or blocks k 0)) before
    ∙ or_assoc (is_set marks b) (list_any (eqb b) (take k blocks)) (eqb b (get_or blocks k 0)) ∙ ap (λ (t : Bool). is_set marks b || t) (sym (list_any_more (eqb b) blocks k 0 more))
  where
    or_assoc : (x y z : Bool) → ((x || y) || z) ≡ (x || (y || z))
    or_assoc true y z = refl
    or_assoc false y z = refl

pub loop-block-preserved : goal.loop-block-preserved
loop-block-preserved c =
    let inside : get_or c.args.blocks.now c.loop-block.block-index 0 / 64 < length c.loop-block.marks = (let room = c.requires c.loop-block.block-index c.loop-block-test.true in let long = c.loop-block.invariant.count in omega (arith, room, long)) in
    record {
      count = ap length c.insert.ensures ∙ with_block_long c.loop-block.marks (get_or c.args.blocks.now c.loop-block.block-index 0) ∙ c.loop-block.invariant.count;
      marked = λ b. next_marked c.args.marks.now c.loop-block.marks c.insert.new.words c.args.blocks.now c.loop-block.block-index b c.loop-block-test.true inside c.insert.ensures (c.loop-block.invariant.marked b);
    }
