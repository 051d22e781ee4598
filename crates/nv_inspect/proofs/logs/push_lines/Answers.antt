use Rattle.std.proofs.Common.{◌∙◌, ◌+◌, ◌/◌, ◌<◌, ◌++◌, ℕ, List, length, drop, ap, sym, arith, string_bytes}
use Rattle.nv_inspect.specs.Entry.{entry_line}
use Rattle.nv_inspect.specs.Log.{lines_of, links_to}
use Rattle.nv_inspect.proofs.Lines.{lines_next, lines_step}
use Rattle.nv_inspect.proofs.logs.push_lines.Goals as goal

pub loop-place-preserved : goal.loop-place-preserved
loop-place-preserved c =
    let x = c.index-entries-place.result in
    let fate = c.fate_at.result in
    let place = c.loop-place.place in
    let left = c.loop-place.left.now in
    let s = c.args.sup.now in
    let row = c.args.row.now in
    let fates = c.args.fates.now in
    let entries = c.args.entries.now in
    let below : place < length entries = (let test = c.loop-place-test.true in let end = c.loop-place.auto.place-end in omega (arith, test, end)) in
    let links = links_to (x.at / 4096) left in
    let entry = entry_line s row fate x in
    let next = lines_next s row fates left entries place x fate c.requires.fates below c.index-entries-place.is c.fate_at.ensures
    ∙ ap (λ (pages : List ℕ). links ++ entry ++ lines_of s row (drop (place + 1) fates) pages (drop (place + 1) entries)) (sym c.in_ok-left.ensures.rest) in
    lines_step (string_bytes c.loop-place.out) (string_bytes c.push_links_to.new.out) (string_bytes c.push_entry.new.out) links entry
    (lines_of s row (drop (place + 1) fates) c.in_ok-left.left.now (drop (place + 1) entries)) (lines_of s row (drop place fates) left (drop place entries))
    (string_bytes c.args.out.now ++ lines_of s row fates c.args.pages.now entries) c.in_ok-left.ensures.text c.in_ok-push_entry.ensures next c.loop-place.invariant
