use Rattle.std.proofs.Common.{◌≡◌, ◌<◌, ℕ, arith, below_more, subst}
use Rattle.nv_region.specs.Region.{word}
use Rattle.nv_region.specs.Stops.{One}
use Rattle.nv_region.proofs.Fuses.{keeps_more}
use Rattle.nv_region.proofs.Puts.{blocks_stay}
use Rattle.nv_super.specs.Layout.{inode_limit}
use Rattle.nv_inode.specs.Slot.{nth_slot}
use Rattle.nv_format.specs.Format.{IsValidWord}
use Rattle.nv_format.proofs.Tables.{valid_at}
use Rattle.nv_format.proofs.Cleared.{zero_more, clears_more, by_inode}
use Rattle.nv_format.proofs.clearing.clear_tables.Goals as goal

pub returns-in_err-clear_word-clause-wrote : goal.returns-in_err-clear_word-clause-wrote
returns-in_err-clear_word-clause-wrote g c =
    let s = c.args.sup.now in
    let below : c.loop-place.place < inode_limit s = omega (arith, c.loop-place-test.true, c.inode_limit-place-end.ensures) in
    clears_more (IsValidWord s) c.nth_slot.result 0 _ _ _ _ _ _ (omega (arith, c.nth_slot.ensures)) (valid_at s c.loop-place.place c.nth_slot.result c.requires.layout below c.nth_slot.ensures) c.loop-place.invariant.wrote c.clear_word.ensures.wrote

pub loop-place-preserved : goal.loop-place-preserved
loop-place-preserved g c =
    let s = c.args.sup.now in
    let at = c.nth_slot.result in
    let before = g.P.Pmem.region c.loop-place.memory in
    let after = g.P.Pmem.region c.clear_word.new.memory in
    let wrote = c.clear_word.ensures.wrote in
    let below : c.loop-place.place < inode_limit s = omega (arith, c.loop-place-test.true, c.inode_limit-place-end.ensures) in
    record {
      blocks = blocks_stay before after (One at 0) s.blocks wrote.mixed c.loop-place.invariant.blocks;
      unused = below_more (λ (k : ℕ). word after (nth_slot s k) ≡ 0) c.loop-place.place
          (λ k below. zero_more before after at (nth_slot s k) wrote.mixed (c.loop-place.invariant.unused k below)) (subst (λ (a : ℕ). word after a ≡ 0) c.nth_slot.ensures c.in_ok-clear_word.ensures.cleared);
      wrote = clears_more (IsValidWord s) at 0 _ _ _ _ _ _ (omega (arith, c.nth_slot.ensures)) (valid_at s c.loop-place.place at c.requires.layout below c.nth_slot.ensures) c.loop-place.invariant.wrote wrote;
      keeps_fuse = keeps_more (λ limit past. omega (arith, c.nth_slot.ensures, below, past)) c.loop-place.invariant.keeps_fuse c.clear_word.ensures.keeps_fuse;
    }

pub returns-clause-unused : goal.returns-clause-unused
returns-clause-unused g c = by_inode c.args.sup.now (g.P.Pmem.region c.loop-place.memory) c.requires.layout (λ k below. c.loop-place.invariant.unused k (let end = c.loop-place-test.false in omega (arith, end, c.inode_limit-place-end.ensures, below)))
