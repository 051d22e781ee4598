use Rattle.std.proofs.Common.{◌≡◌, false}
use Rattle.nv_script.proofs.Cleanings.{page_fewer, page_lost, page_turns, runs_after, wants_memory}
use Rattle.nv_script.proofs.cleaning.clean_page.Goals as goal

pub returns-in-Ok-clause-pages : goal.returns-in-Ok-clause-pages
returns-in-Ok-clause-pages c =
    let can = c.requires.can in
    let said = c.in-Ok.ensures in
    let fuse = said.call.keeps_fuse in
    page_lost c.args.mount.now c.keeps.ensures can c.clean_page.new.self c.args.inode c.args.place c.in-Ok.field-0 c.requires.used said.call.keeps c.requires.known said.log
    (runs_after c.in-Ok.field-0 c.clean_page.new.self.stopped (said.call.stopped can.runs).0) (fuse.steady can.steady) said.call.length said.same_tree

pub returns-in-Ok-clause-fewer : goal.returns-in-Ok-clause-fewer
returns-in-Ok-clause-fewer c =
    let said = c.in-Ok.ensures in
    page_fewer c.args.mount.now c.keeps.ensures c.requires.can c.clean_page.new.self c.args.inode c.args.place c.in-Ok.field-0 c.requires.used said.call.keeps c.requires.known said.log

pub returns-in-Ok-clause-rest : goal.returns-in-Ok-clause-rest
returns-in-Ok-clause-rest c = λ n.
    let said = c.in-Ok.ensures in
    page_turns c.args.mount.now c.keeps.ensures c.requires.can c.clean_page.new.self c.args.inode c.args.place c.in-Ok.field-0 c.requires.used said.call.keeps c.requires.known said.log n
