use Rattle.nv_listing.proofs.Added.{list_added}
use Rattle.nv_listing.proofs.folders.push_folders.Goals as goal

pub returns-in_ok-push_folder-in-len1-up : goal.returns-in_ok-push_folder-in-len1-up
returns-in_ok-push_folder-in-len1-up c = list_added c.args.long c.args.rows.now.items c.push_more.result c.args.folders.now c.first-item.result _ _ _ c.in-len1-up.len_at_least c.first-item.is c.in_ok-push_folder-in-len1-up.ensures c.push_more.ensures
