use Rattle.nv_folders.proofs.Steps.{all_on}
use Rattle.nv_folders.proofs.walk.folders_of.Goals as goal

pub returns : goal.returns
returns g c = all_on (g.S.Inodes.tree c.args.source.now) _ c.finish.new.self.folders.items _ c.finish.new.self.pending.items c.args.start c.new.ensures.items
    (rw c.new-pending.ensures.items at c.in_ok-push.ensures.items) c.in_ok-finish.ensures.done c.in_ok-finish.ensures.leads
