use Rattle.std.proofs.Common.{◌≡◌, ◌%◌, ◌∙◌, List, subst, refl, arith}
use Rattle.nv_entry.specs.declared.entry.Entry.{Entry}
use Rattle.nv_logpage.specs.Append.{needed}
use Rattle.nv_steps.specs.Writes.{data_entries}
use Rattle.nv_steps.proofs.NeededBlocks.{entries_few, needed_few}
use Rattle.nv_steps.proofs.preparing_data.prepare_entries.Goals as goal

pub returns-in_err-fresh-clause-room : goal.returns-in_err-fresh-clause-room
returns-in_err-fresh-clause-room c =
    let plan = c.args.plan.now in
    let runs = c.args.runs.now in
    let few = entries_few plan runs c.requires.given.some (λ r there. (c.requires.given.blocks r there).0) in
    let pages = needed_few (c.args.row.now.tail % 4096) (data_entries plan runs) in
    let same = subst (λ (xs : List Entry). needed (c.args.row.now.tail % 4096) c.deref.result.now ≡ needed (c.args.row.now.tail % 4096) xs) (c.deref.ensures.value ∙ c.in-Ok.ensures) refl in
    omega (arith, few, pages, same, c.requires.given.count, c.in_err-fresh.ensures.room_left)
