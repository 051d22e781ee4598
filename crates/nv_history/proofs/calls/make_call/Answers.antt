-- What comes of each call that changes names, by the contract of its method.
use Rattle.std.proofs.Common.{[], refl, ap}
use Rattle.nv_super.specs.declared.kind.Kind.TheVariants.{File, Directory}
use Rattle.nv_history.specs.declared.calls.Answer.TheVariants.{Done}
use Rattle.nv_history.specs.Said.{said, Create, MakeDirectory, Link, Unlink, RemoveDirectory, Rename}
use Rattle.nv_history.proofs.Kept.{called_by, err_by, of_call, of_inode, ok_by}
use Rattle.nv_history.proofs.Logged.{done_logged, inode_logged, linked_logged, moved_logged, removal_logged, unlink_logged}
use Rattle.nv_history.proofs.calls.make_call.Goals as goal

-- ---- `create`
pub returns-in-Create : goal.returns-in-Create
returns-in-Create g c =
    let m = c.args.mount.now in
    let a = c.in-Create in
    let n = c.create.new.self in
    let r = c.create.result in
    called_by g.P.Pmem.region g.P.Pmem.may_hold g.P.Pmem.fuse (Create a.cpu a.path.now a.mode a.time) m n (λ made. Done) (said c.args.call.now) (ap said a.is) c.done.result r c.done.ensures
    (λ tests asked. ok_by r tests _ asked.2 (c.create.ensures.allowed asked.0 asked.1)) (λ runs tests asked. err_by r tests _ asked.2 (c.create.ensures.refused runs asked.0 asked.1)) (λ names others is. c.create.ensures.changed names is.0)
    (λ names others is. done_logged r _ (inode_logged (g.P.Pmem.region m.memory) (g.P.Pmem.region n.memory) m names File a.cpu a.mode a.time r (λ d j held h. c.create.ensures.log names d j held h is.0)))
    (of_inode g.P.Pmem.region g.P.Pmem.fuse m n r a.cpu (Create a.cpu a.path.now a.mode a.time) refl (λ laid. laid) (λ laid. laid) c.create.ensures.call.call c.create.ensures.tables) (λ none. c.create.ensures.call.bad_text (λ names is. none names [] (is, refl))) (λ names others is. c.create.ensures.any_stop names is.0)

-- ---- `mkdir`
pub returns-in-MakeDirectory : goal.returns-in-MakeDirectory
returns-in-MakeDirectory g c =
    let m = c.args.mount.now in
    let a = c.in-MakeDirectory in
    let n = c.mkdir.new.self in
    let r = c.mkdir.result in
    called_by g.P.Pmem.region g.P.Pmem.may_hold g.P.Pmem.fuse (MakeDirectory a.cpu a.path.now a.mode a.time) m n (λ made. Done) (said c.args.call.now) (ap said a.is) c.done-in-MakeDirectory.result r c.done-in-MakeDirectory.ensures
    (λ tests asked. ok_by r tests _ asked.2 (c.mkdir.ensures.allowed asked.0 asked.1)) (λ runs tests asked. err_by r tests _ asked.2 (c.mkdir.ensures.refused runs asked.0 asked.1)) (λ names others is. c.mkdir.ensures.changed names is.0)
    (λ names others is. done_logged r _ (inode_logged (g.P.Pmem.region m.memory) (g.P.Pmem.region n.memory) m names Directory a.cpu a.mode a.time r (λ d j held h. c.mkdir.ensures.log names d j held h is.0)))
    (of_inode g.P.Pmem.region g.P.Pmem.fuse m n r a.cpu (MakeDirectory a.cpu a.path.now a.mode a.time) refl (λ laid. laid) (λ laid. laid) c.mkdir.ensures.call.call c.mkdir.ensures.tables) (λ none. c.mkdir.ensures.call.bad_text (λ names is. none names [] (is, refl))) (λ names others is. c.mkdir.ensures.any_stop names is.0)

-- ---- `link`
pub returns-in-Link : goal.returns-in-Link
returns-in-Link g c =
    let m = c.args.mount.now in
    let a = c.in-Link in
    let n = c.link.new.self in
    let r = c.link.result in
    called_by g.P.Pmem.region g.P.Pmem.may_hold g.P.Pmem.fuse (Link a.cpu a.old.now a.new.now a.time) m n (λ made. Done) (said c.args.call.now) (ap said a.is) c.done-in-Link.result r c.done-in-Link.ensures
    (λ tests asked. ok_by r tests _ asked.4 (c.link.ensures.allowed asked.0 asked.1 asked.2 asked.3)) (λ runs tests asked. err_by r tests _ asked.4 (c.link.ensures.refused runs asked.0 asked.1 asked.2 asked.3)) (λ names others is. c.link.ensures.changed names others is.0 is.1)
    (λ names others is. done_logged r _ (linked_logged (g.P.Pmem.region m.memory) (g.P.Pmem.region n.memory) m names a.cpu a.time others r (λ i d node held f h. c.link.ensures.log names others i d node held f h is.0 is.1)))
    (of_call g.P.Pmem.region g.P.Pmem.fuse m n r (Link a.cpu a.old.now a.new.now a.time) refl (λ same. same) (λ same. same) c.link.ensures.call.call) (λ none. c.link.ensures.call.bad_text (λ names others is are. none names others (is, are))) (λ names others is. c.link.ensures.any_stop names others is.0 is.1)

-- ---- `unlink`
pub returns-in-Unlink : goal.returns-in-Unlink
returns-in-Unlink g c =
    let m = c.args.mount.now in
    let a = c.in-Unlink in
    let n = c.unlink.new.self in
    let r = c.unlink.result in
    called_by g.P.Pmem.region g.P.Pmem.may_hold g.P.Pmem.fuse (Unlink a.cpu a.path.now a.time) m n (λ made. Done) (said c.args.call.now) (ap said a.is) c.done-in-Unlink.result r c.done-in-Unlink.ensures
    (λ tests asked. ok_by r tests _ asked.2 (c.unlink.ensures.allowed asked.0 asked.1)) (λ runs tests asked. err_by r tests _ asked.2 (c.unlink.ensures.refused runs asked.0 asked.1)) (λ names others is. c.unlink.ensures.changed names is.0)
    (λ names others is. done_logged r _ (unlink_logged (g.P.Pmem.region m.memory) (g.P.Pmem.region n.memory) m names a.cpu a.time r (λ i d node held h f. c.unlink.ensures.log names i d node held h f is.0) (λ i d node held h. c.unlink.ensures.last names i d node held h is.0)))
    (of_call g.P.Pmem.region g.P.Pmem.fuse m n r (Unlink a.cpu a.path.now a.time) refl (λ same. same) (λ same. same) c.unlink.ensures.call.call) (λ none. c.unlink.ensures.call.bad_text (λ names is. none names [] (is, refl))) (λ names others is. c.unlink.ensures.any_stop names is.0)

-- ---- `rmdir`
pub returns-in-RemoveDirectory : goal.returns-in-RemoveDirectory
returns-in-RemoveDirectory g c =
    let m = c.args.mount.now in
    let a = c.in-RemoveDirectory in
    let n = c.rmdir.new.self in
    let r = c.rmdir.result in
    called_by g.P.Pmem.region g.P.Pmem.may_hold g.P.Pmem.fuse (RemoveDirectory a.cpu a.path.now a.time) m n (λ made. Done) (said c.args.call.now) (ap said a.is) c.done-in-RemoveDirectory.result r c.done-in-RemoveDirectory.ensures
    (λ tests asked. ok_by r tests _ asked.2 (c.rmdir.ensures.allowed asked.0 asked.1)) (λ runs tests asked. err_by r tests _ asked.2 (c.rmdir.ensures.refused runs asked.0 asked.1)) (λ names others is. c.rmdir.ensures.changed names is.0)
    (λ names others is. done_logged r _ (removal_logged (g.P.Pmem.region m.memory) (g.P.Pmem.region n.memory) m names a.cpu a.time r (λ i d node held h. c.rmdir.ensures.log names i d node held h is.0)))
    (of_call g.P.Pmem.region g.P.Pmem.fuse m n r (RemoveDirectory a.cpu a.path.now a.time) refl (λ same. same) (λ same. same) c.rmdir.ensures.call.call) (λ none. c.rmdir.ensures.call.bad_text (λ names is. none names [] (is, refl))) (λ names others is. c.rmdir.ensures.any_stop names is.0)

-- ---- `rename`
pub returns-in-Rename : goal.returns-in-Rename
returns-in-Rename g c =
    let m = c.args.mount.now in
    let a = c.in-Rename in
    let n = c.rename.new.self in
    let r = c.rename.result in
    called_by g.P.Pmem.region g.P.Pmem.may_hold g.P.Pmem.fuse (Rename a.cpu a.old.now a.new.now a.time) m n (λ made. Done) (said c.args.call.now) (ap said a.is) c.done-in-Rename.result r c.done-in-Rename.ensures
    (λ tests asked. ok_by r tests _ asked.4 (c.rename.ensures.allowed asked.0 asked.1 asked.2 asked.3)) (λ runs tests asked. err_by r tests _ asked.4 (c.rename.ensures.refused runs asked.0 asked.1 asked.2 asked.3)) (λ names others is. c.rename.ensures.changed names others is.0 is.1)
    (λ names others is. done_logged r _ (moved_logged (g.P.Pmem.region m.memory) (g.P.Pmem.region n.memory) m names a.cpu a.time others r (λ i d e node held h k. c.rename.ensures.log names others i d e node held h k is.0 is.1) (λ i d node held h. c.rename.ensures.within names others i d node held h is.0 is.1)))
    (of_call g.P.Pmem.region g.P.Pmem.fuse m n r (Rename a.cpu a.old.now a.new.now a.time) refl (λ same. same) (λ same. same) c.rename.ensures.call.call) (λ none. c.rename.ensures.call.bad_text (λ names others is are. none names others (is, are))) (λ names others is. c.rename.ensures.any_stop names others is.0 is.1)
