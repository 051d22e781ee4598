use Rattle.nv_listing.proofs.Added.{next_more}
use Rattle.nv_listing.proofs.folders.push_more.Goals as goal

pub loop-folder-preserved : goal.loop-folder-preserved
loop-folder-preserved c = next_more c.args.long c.args.rows.now.items c.args.folders.now c.loop-folder.folder-index c.folder-item.result _ _ _ _ c.loop-folder-test.true c.folder-item.is c.loop-folder.invariant c.in_ok-push_str.ensures.bytes c.in_ok-push_folder.ensures
