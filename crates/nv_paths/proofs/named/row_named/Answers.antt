use Rattle.std.proofs.Common.{◌≡◌, ◌∙◌, Some, None, ap, sym, option_copied}
use Rattle.nv_rows.proofs.Places.{in_use}
use Rattle.nv_paths.proofs.Directories.{lookup_missing, lookup_passes, stands_in}
use Rattle.nv_paths.proofs.Targets.{held_of}
use Rattle.nv_paths.proofs.named.row_named.Goals as goal

pub returns-in-Some-clause-in_use : goal.returns-in-Some-clause-in_use
returns-in-Some-clause-in_use c = in_use c.args.rows.now.items c.args.directory c.in_ok-row.row.now c.in_ok-row.ensures.row

pub returns-in-Some-clause-held : goal.returns-in-Some-clause-held
returns-in-Some-clause-held c = held_of c.args.rows.now.items c.target_of.result c.in-Some.target c.in-Some.is c.target_of.ensures.held

pub returns-in-Some-clause-spot : goal.returns-in-Some-clause-spot
returns-in-Some-clause-spot c region =
    stands_in region c.args.rows.now.items c.args.directory c.in_ok-row.row.now c.in_ok-row.ensures.row c.in_ok-row.ensures.kind c.args.name.now c.in-Some.target.now (sym c.target_of.ensures.row ∙ ap option_copied c.in-Some.is)
    (held_of c.args.rows.now.items c.target_of.result c.in-Some.target c.in-Some.is c.target_of.ensures.held)

pub returns-in-Some-clause-passed : goal.returns-in-Some-clause-passed
returns-in-Some-clause-passed c region more =
    lookup_passes region c.args.rows.now.items c.args.directory c.in_ok-row.row.now c.in_ok-row.ensures.row c.in_ok-row.ensures.kind c.args.name.now c.in_ok-row.ensures.name c.in-Some.target.now more (sym c.target_of.ensures.row ∙ ap option_copied c.in-Some.is)

pub returns-in-None-clause-refused : goal.returns-in-None-clause-refused
returns-in-None-clause-refused c region more =
    lookup_missing region c.args.rows.now.items c.args.directory c.in_ok-row.row.now c.in_ok-row.ensures.row c.in_ok-row.ensures.kind c.args.name.now c.in_ok-row.ensures.name more (sym c.target_of.ensures.row ∙ ap option_copied c.in-None.is)
