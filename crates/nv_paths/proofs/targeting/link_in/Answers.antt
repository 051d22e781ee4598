use Rattle.std.proofs.Common.{◌≡◌, ◌∙◌, ◌<◌, Some, None, ap, slice_get, sym, subst, option_copied}
use Rattle.std.proofs.lemmas.Option.{same_Some}
use Rattle.nv_super.specs.declared.kind.Kind.TheVariants.{File}
use Rattle.nv_super.specs.Layout.{most_links}
use Rattle.nv_scan.specs.declared.piece.Row.{Row}
use Rattle.nv_rows.proofs.Places.{at_place, in_use, numbered}
use Rattle.nv_paths.specs.Spots.{IsNoneNamed}
use Rattle.nv_paths.proofs.CreateTests.{none_of, some_of}
use Rattle.nv_paths.proofs.Directories.{stands_at}
use Rattle.nv_paths.proofs.LinkSpots.{a_directory, few_links, is_file, link_passes, links_full, name_there, no_file}
use Rattle.nv_paths.proofs.targeting.link_in.Goals as goal

pub returns-in_default-clause-refused : goal.returns-in_default-clause-refused
returns-in_default-clause-refused c region more = no_file region c.args.rows.now.items c.args.inode c.args.directory c.in_ok-row.row.now c.in_ok-row.ensures.row c.in_ok-row.ensures.kind c.args.name.now c.in_ok-row.ensures.name more (sym c.get.ensures ∙ ap option_copied c.in_default.is)

pub returns-then-is_directory-clause-refused : goal.returns-then-is_directory-clause-refused
returns-then-is_directory-clause-refused c region more = a_directory region c.args.rows.now.items c.args.inode c.args.directory c.in_ok-row.row.now c.in_ok-row.ensures.row c.in_ok-row.ensures.kind c.args.name.now c.in_ok-row.ensures.name more c.in-Some.file.now (sym c.get.ensures ∙ ap option_copied c.in-Some.is) (sym c.is_directory.ensures ∙ c.if-is_directory.true)

pub returns-then-is_some-clause-refused : goal.returns-then-is_some-clause-refused
returns-then-is_some-clause-refused c region more =
    let w = some_of c.target_of.result (sym c.is_some.ensures ∙ c.if-is_some.true) in
    name_there region c.args.rows.now.items c.args.inode c.args.directory c.in_ok-row.row.now c.in_ok-row.ensures.row c.in_ok-row.ensures.kind c.args.name.now c.in_ok-row.ensures.name more c.in-Some.file.now (sym c.get.ensures ∙ ap option_copied c.in-Some.is) (sym c.is_directory.ensures ∙ c.if-is_directory.false) w.0.now (sym c.target_of.ensures.row ∙ ap option_copied w.1)

pub returns-then-has_most_links-clause-refused : goal.returns-then-has_most_links-clause-refused
returns-then-has_most_links-clause-refused c region more =
    links_full region c.args.rows.now.items c.args.inode c.args.directory c.in_ok-row.row.now c.in_ok-row.ensures.row c.in_ok-row.ensures.kind c.args.name.now c.in_ok-row.ensures.name more c.in-Some.file.now (sym c.get.ensures ∙ ap option_copied c.in-Some.is) (sym c.is_directory.ensures ∙ c.if-is_directory.false)
    (sym c.target_of.ensures.row ∙ ap option_copied (none_of c.target_of.result (sym c.is_some.ensures ∙ c.if-is_some.false))) (sym c.has_most_links.ensures ∙ c.if-has_most_links.true)

pub returns-clause-passed : goal.returns-clause-passed
returns-clause-passed c region more =
    link_passes region c.args.rows.now.items c.args.inode c.args.directory c.in_ok-row.row.now c.in_ok-row.ensures.row c.in_ok-row.ensures.kind c.args.name.now c.in_ok-row.ensures.name more c.in-Some.file.now (sym c.get.ensures ∙ ap option_copied c.in-Some.is) (sym c.is_directory.ensures ∙ c.if-is_directory.false)
    (sym c.target_of.ensures.row ∙ ap option_copied (none_of c.target_of.result (sym c.is_some.ensures ∙ c.if-is_some.false))) (sym c.has_most_links.ensures ∙ c.if-has_most_links.false)

pub returns-clause-in_use : goal.returns-clause-in_use
returns-clause-in_use c = in_use c.args.rows.now.items c.args.directory c.in_ok-row.row.now c.in_ok-row.ensures.row

pub returns-clause-target : goal.returns-clause-target
returns-clause-target c = in_use c.args.rows.now.items c.args.inode c.in-Some.file.now (sym c.get.ensures ∙ ap option_copied c.in-Some.is)

pub returns-clause-name : goal.returns-clause-name
returns-clause-name c = c.in_ok-row.ensures.name

pub returns-clause-spot : goal.returns-clause-spot
returns-clause-spot c =
    let few : c.in-Some.file.now.numbers.links < most_links = few_links c.in-Some.file.now.numbers.links (sym c.has_most_links.ensures ∙ c.if-has_most_links.false) in
    let file = is_file c.in-Some.file.now.kind (sym c.is_directory.ensures ∙ c.if-is_directory.false) in
    record {
      directory = stands_at c.args.rows.now.items c.args.directory c.in_ok-row.row.now c.in_ok-row.ensures.row c.in_ok-row.ensures.kind;
      absent = λ row at. (
          let one : c.in_ok-row.row.now ≡ row = same_Some _ _ (sym c.in_ok-row.ensures.row ∙ sym (at_place c.args.rows.now.items c.args.directory) ∙ at) in
          subst (λ (r : Row). IsNoneNamed c.args.rows.now.items r c.args.name.now) one (sym c.target_of.ensures.row ∙ ap option_copied (none_of c.target_of.result (sym c.is_some.ensures ∙ c.if-is_some.false))));
      file = λ row at. (
          let one : c.in-Some.file.now ≡ row = same_Some _ _ (sym (sym c.get.ensures ∙ ap option_copied c.in-Some.is) ∙ sym (at_place c.args.rows.now.items c.args.inode) ∙ at) in
          (ap (λ (r : Row). r.inode) (sym one) ∙ numbered c.args.rows.now.items c.args.inode c.in-Some.file.now (sym c.get.ensures ∙ ap option_copied c.in-Some.is), subst (λ (r : Row). r.kind ≡ File) one file, subst (λ (r : Row). r.numbers.links < most_links) one few));
    }
