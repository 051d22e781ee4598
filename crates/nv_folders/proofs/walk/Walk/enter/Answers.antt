use Rattle.std.proofs.Common.{sym, ◌∙◌}
use Rattle.nv_folders.proofs.Steps.{again_on, by_kind, first_on, less_ready, more_ready, top_ready, with_key}
use Rattle.nv_folders.proofs.walk.Walk.enter.Goals as goal

pub returns-then-contains-clause-ready : goal.returns-then-contains-clause-ready
returns-then-contains-clause-ready g c = less_ready (g.S.Inodes.tree c.args.source.now) c.args.self.now.folders.items c.args.self.now.pending.items c.args.next _ c.requires

pub returns-then-contains-clause-leads : goal.returns-then-contains-clause-leads
returns-then-contains-clause-leads g c = again_on (g.S.Inodes.tree c.args.source.now) c.args.self.now.folders.items c.args.self.now.pending.items c.args.next
    (sym (c.requires.told c.args.next.inode) ∙ sym c.contains.ensures ∙ c.if-contains.true)

pub folders_in-requires : goal.folders_in-requires
folders_in-requires g c =
    let t = g.S.Inodes.tree c.args.source.now in
    by_kind t c.args.next.inode (top_ready t c.args.self.now.folders.items c.args.self.now.pending.items c.args.next _ c.requires)

pub returns-clause-ready : goal.returns-clause-ready
returns-clause-ready g c =
    let t = g.S.Inodes.tree c.args.source.now in
    rw (c.in_ok-append.ensures.items, c.reverse.ensures.items, c.in_ok-push.ensures.items)
    (more_ready t c.args.self.now.folders.items c.args.self.now.pending.items c.in_ok-below.below.items c.args.next _ _ c.requires c.in_ok-below.ensures
    (with_key c.args.self.now.seen c.insert.new.self c.args.next.inode c.in_ok-insert.ensures.updates))

pub returns-clause-leads : goal.returns-clause-leads
returns-clause-leads g c =
    let t = g.S.Inodes.tree c.args.source.now in
    rw (c.in_ok-append.ensures.items, c.reverse.ensures.items, c.in_ok-push.ensures.items)
    (first_on t c.args.self.now.folders.items c.args.self.now.pending.items c.in_ok-below.below.items c.args.next
    (sym (c.requires.told c.args.next.inode) ∙ sym c.contains.ensures ∙ c.if-contains.false) c.in_ok-below.ensures)
