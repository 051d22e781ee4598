use Rattle.std.proofs.Common.{arith, sym, ◌∙◌}
use Rattle.nv_cross_check.proofs.Follow.{with_root, without_one, with_file, as_long}
use Rattle.nv_cross_check.proofs.walk.mark_root.Goals as goal

pub head-requires : goal.head-requires
head-requires c = (c.requires.places.at _ _ (sym c.find.ensures ∙ c.in-Some.is)).0

pub index_mut-requires : goal.index_mut-requires
index_mut-requires c = let lt = c.head.ensures.1.0 in let e = as_long c.args.listings.now c.args.places.now c.requires.places c.args.marks.now.items c.requires.clear in omega (arith, lt, e)

pub returns-in_ok-push-in-Directory : goal.returns-in_ok-push-in-Directory
returns-in_ok-push-in-Directory c =
    let here = c.head.ensures in
    with_root c.args.listings.now c.args.places.now c.requires.places _ c.requires.clear _ _ _ here.0 here.1 (sym c.find.ensures ∙ c.in-Some.is) (sym here.3 ∙ c.in-Directory.is) c.requires.none c.in_ok-push-in-Directory.ensures.items

pub returns-in-File : goal.returns-in-File
returns-in-File c =
    let here = c.head.ensures in
    with_file c.args.listings.now c.args.places.now c.requires.places _ c.requires.clear _ _ here.0 here.1 (sym c.find.ensures ∙ c.in-Some.is) (sym here.3 ∙ c.in-File.is) c.requires.none

pub returns-in_default : goal.returns-in_default
returns-in_default c = without_one c.args.listings.now c.args.places.now c.requires.places _ c.requires.clear _ c.requires.none (sym c.find.ensures ∙ c.in_default.is)
