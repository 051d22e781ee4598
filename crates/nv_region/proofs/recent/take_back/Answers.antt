use Rattle.std.proofs.Common.{arith, length}
use Rattle.nv_region.proofs.RecentStores.{more_taken_back, none_taken_back}
use Rattle.nv_region.proofs.recent.take_back.Goals as goal

pub loop-place-init : goal.loop-place-init
loop-place-init c = none_taken_back c.args.stores.now c.args.words.now (length c.args.stores.now) (omega arith)

pub loop-place-preserved : goal.loop-place-preserved
loop-place-preserved c = more_taken_back c.args.stores.now c.args.words.now c.loop-place.words _ _ (omega arith) (omega arith) c.loop-place.invariant
