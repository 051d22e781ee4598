use Rattle.nv_region.proofs.RecentStores.{more_done}
use Rattle.nv_region.proofs.recent.do_again.Goals as goal

pub loop-store-preserved : goal.loop-store-preserved
loop-store-preserved c = more_done c.args.stores.now c.args.words.now c.loop-store.words c.loop-store.store-index c.loop-store-test.true c.loop-store.invariant
