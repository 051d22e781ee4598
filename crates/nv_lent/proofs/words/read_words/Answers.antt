use Rattle.std.proofs.lemmas.List.{take_rest}
use Rattle.nv_region.proofs.Bytes.{read_more}
use Rattle.nv_lent.proofs.words.read_words.Goals as goal

pub loop-left-preserved : goal.loop-left-preserved
loop-left-preserved c = read_more _ _ _ _ _ _ c.loop-left-test.true c.read_u64.ensures c.in_ok-push.ensures.items (take_rest _ 8) c.loop-left.invariant
