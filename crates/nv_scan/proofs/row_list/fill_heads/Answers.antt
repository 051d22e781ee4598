use Rattle.std.proofs.Common.{[], ◌∷◌, ◌++◌, sym, ap, ◌∙◌, take, arith}
use Rattle.nv_scan.specs.Heads.{heads_of}
use Rattle.nv_scan.proofs.RowHeads.{heads_within, heads_more, heads_all}
use Rattle.nv_scan.proofs.row_list.fill_heads.Goals as goal

pub loop-place-init : goal.loop-place-init
loop-place-init c = record {
  heads = c.requires.first ∙ ap (λ n. heads_of (take n c.args.rows.now.items)) (sym c.len-place.ensures);
  room = omega (arith, c.requires.room);
  within = omega (arith, heads_within c.args.heads.now.items c.args.rows.now.items c.requires.first);
}

pub loop-place-preserved : goal.loop-place-preserved
loop-place-preserved c = record {
  heads = heads_more c.args.rows.now.items c.loop-place.place c.at.result.now c.loop-place.heads.items c.push_reserved.new.self.items (omega arith) c.at.ensures (c.push_reserved.ensures.items ∙ ap (λ h. c.loop-place.heads.items ++ h ∷ []) c.head_of.ensures) c.loop-place.invariant.heads;
  room = omega (arith, c.push_reserved.ensures.room);
  within = omega arith;
}

pub returns : goal.returns
returns c = heads_all c.args.rows.now.items c.loop-place.place c.loop-place.heads.items (omega arith) c.loop-place.invariant.heads
