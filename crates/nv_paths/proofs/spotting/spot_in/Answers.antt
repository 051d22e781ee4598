use Rattle.std.proofs.Common.{◌≡◌, ◌∙◌, ◌∷◌, Some, None, ap, sym, subst, is_none, option_copied}
use Rattle.nv_tree.specs.declared.refusal.Refusal.TheVariants.{NoInodes}
use Rattle.nv_tree.specs.Refusals.{first_refusal}
use Rattle.nv_paths.specs.Spots.{IsNoneNamed, new_number}
use Rattle.nv_paths.specs.Seen.{tree_of}
use Rattle.nv_rows.proofs.Places.{at_place, in_use, numbered}
use Rattle.nv_scan.specs.declared.piece.Row.{Row}
use Rattle.nv_paths.proofs.CreateTests.{none_of, some_of}
use Rattle.nv_paths.proofs.Directories.{stands_at, spot_taken, spot_told}
use Rattle.nv_paths.proofs.spotting.spot_in.Goals as goal

pub returns-then-is_some-clause-refused : goal.returns-then-is_some-clause-refused
returns-then-is_some-clause-refused c region more =
    let w = some_of c.target_of.result (sym c.is_some.ensures ∙ c.if-is_some.true) in
    spot_taken region c.args.rows.now.items c.args.directory c.in_ok-row.row.now c.in_ok-row.ensures.row c.in_ok-row.ensures.kind c.args.name.now c.in_ok-row.ensures.name
    (new_number c.args.tables.now.layout c.args.rows.now.items c.args.cpu) w.0.now more (sym c.target_of.ensures.row ∙ ap option_copied w.1)

pub returns-in-Some-clause-in_use : goal.returns-in-Some-clause-in_use
returns-in-Some-clause-in_use c = in_use c.args.rows.now.items c.args.directory c.in_ok-row.row.now c.in_ok-row.ensures.row

pub returns-in-Some-clause-spot : goal.returns-in-Some-clause-spot
returns-in-Some-clause-spot c = record {
  directory = stands_at c.args.rows.now.items c.args.directory c.in_ok-row.row.now c.in_ok-row.ensures.row c.in_ok-row.ensures.kind;
  absent = λ row at. (
      let both : Some row ≡ Some c.in_ok-row.row.now = sym at ∙ at_place c.args.rows.now.items c.args.directory ∙ c.in_ok-row.ensures.row in
      let one : c.in_ok-row.row.now ≡ row = cc in
      subst (λ (r : Row). IsNoneNamed c.args.rows.now.items r c.args.name.now) one (sym c.target_of.ensures.row ∙ ap option_copied (none_of c.target_of.result (sym c.is_some.ensures ∙ c.if-is_some.false))));
  unused = sym c.new_number.ensures ∙ c.in-Some.is;
}

pub returns-in-Some-clause-passed : goal.returns-in-Some-clause-passed
returns-in-Some-clause-passed c region more =
    spot_told region c.args.rows.now.items c.args.directory c.in_ok-row.row.now c.in_ok-row.ensures.row c.in_ok-row.ensures.kind c.args.name.now c.in_ok-row.ensures.name
    (new_number c.args.tables.now.layout c.args.rows.now.items c.args.cpu) more (sym c.target_of.ensures.row ∙ ap option_copied (none_of c.target_of.result (sym c.is_some.ensures ∙ c.if-is_some.false)))
    ∙ ap (λ o. first_refusal ((is_none o, NoInodes) ∷ more)) (sym c.new_number.ensures ∙ c.in-Some.is)

pub returns-in-None-clause-refused : goal.returns-in-None-clause-refused
returns-in-None-clause-refused c region more =
    spot_told region c.args.rows.now.items c.args.directory c.in_ok-row.row.now c.in_ok-row.ensures.row c.in_ok-row.ensures.kind c.args.name.now c.in_ok-row.ensures.name
    (new_number c.args.tables.now.layout c.args.rows.now.items c.args.cpu) more (sym c.target_of.ensures.row ∙ ap option_copied (none_of c.target_of.result (sym c.is_some.ensures ∙ c.if-is_some.false)))
    ∙ ap (λ o. first_refusal ((is_none o, NoInodes) ∷ more)) (sym c.new_number.ensures ∙ c.in-None.is)
