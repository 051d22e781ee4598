use Rattle.std.proofs.Common.{◌≡◌, ap, sym, ◌∙◌, refl, Some, None}
use Rattle.std.specs.Option.{option_map}
use Rattle.nv_names.specs.Names.{name_at, inode_and_place}
use Rattle.nv_paths.proofs.Targets.{held_by}
use Rattle.nv_paths.proofs.Walks.{one_byte, longer, found_below, rows_in_use}
use Rattle.nv_paths.proofs.walking.found.Goals as goal

pub returns-then-path-eq1-clause-row : goal.returns-then-path-eq1-clause-row
returns-then-path-eq1-clause-row c region names p = rw (one_byte c.args.path.now names p c.if-path-eq1.true) (c.get.ensures ∙ sym (rows_in_use region c.args.rows.now.items (Some 1)))

pub returns-then-path-eq1-clause-held : goal.returns-then-path-eq1-clause-held
returns-then-path-eq1-clause-held c = held_by c.args.rows.now.items c.get.result 1 c.get.ensures

pub returns-then-path-eq1-clause-walk : goal.returns-then-path-eq1-clause-walk
returns-then-path-eq1-clause-walk c region names p = rw (one_byte c.args.path.now names p c.if-path-eq1.true) (1, refl)

pub returns-in-Some-clause-row : goal.returns-in-Some-clause-row
returns-in-Some-clause-row c region names p =
    let l = longer c.args.path.now names p c.if-path-eq1.false in
    let walked = c.in_ok-directory.ensures.reply region names l.3 in
    let last = c.in_ok-directory.ensures.name names l.3 in
    let named : name_at c.row.result.now.names c.in_ok-directory.name.now ≡ Some (c.in-Some.target.inode, c.in-Some.target.place) = sym c.get-2.ensures ∙ ap (option_map inode_and_place) c.in-Some.is in
    c.get-in-Some.ensures ∙ sym (found_below region c.args.rows.now.items c.args.path.now c.in_ok-directory.name.now names c.in_ok-directory.directory c.row.result.now (Some (c.in-Some.target.inode, c.in-Some.target.place)) p c.if-path-eq1.false (sym walked) c.row.ensures last named)

pub returns-in-Some-clause-held : goal.returns-in-Some-clause-held
returns-in-Some-clause-held c = held_by c.args.rows.now.items c.get-in-Some.result c.in-Some.target.inode c.get-in-Some.ensures

pub returns-in-None-clause-row : goal.returns-in-None-clause-row
returns-in-None-clause-row c region names p =
    let l = longer c.args.path.now names p c.if-path-eq1.false in
    let walked = c.in_ok-directory.ensures.reply region names l.3 in
    let last = c.in_ok-directory.ensures.name names l.3 in
    let named : name_at c.row.result.now.names c.in_ok-directory.name.now ≡ None = sym c.get-2.ensures ∙ ap (option_map inode_and_place) c.in-None.is in
    sym (found_below region c.args.rows.now.items c.args.path.now c.in_ok-directory.name.now names c.in_ok-directory.directory c.row.result.now None p c.if-path-eq1.false (sym walked) c.row.ensures last named)
