use Rattle.std.proofs.Common.{◌<◌, inl, inr, subst, sym, length, arith}
use Rattle.std.specs.List.{Contains}
use Rattle.std.proofs.lemmas.List.Elements.{Contains-get_or}
use Rattle.nv_deadpages.proofs.marks.add_blocks.Goals as goal

pub loop-k-preserved : goal.loop-k-preserved
loop-k-preserved c = record {
  bound = c.add_block.ensures.bound;
  only = λ b there. elim (c.in_ok-add_block.ensures.only b there) [
    | inl same ↦ (let below : c.loop-k.k < length c.args.more.now = omega arith in inl (subst (Contains c.args.more.now) (sym same) (Contains-get_or c.args.more.now c.loop-k.k 0 below)))
    | inr w ↦ c.loop-k.invariant.only b w
  ];
}
