use Rattle.std.proofs.Common.{sym, ◌∙◌}
use Rattle.nv_cross_check.proofs.Together.{root_there, root_a_file, root_unused}
use Rattle.nv_cross_check.proofs.walk.has_root.Goals as goal

pub head-requires : goal.head-requires
head-requires c = (c.requires.at _ _ (sym c.find.ensures ∙ c.in-Some.is)).0

pub returns-in-Directory : goal.returns-in-Directory
returns-in-Directory c = let here = c.head.ensures in root_there c.args.listings.now c.args.places.now c.requires _ here.0 here.1 (sym c.find.ensures ∙ c.in-Some.is) (sym here.3 ∙ c.in-Directory.is)

pub returns-in-File : goal.returns-in-File
returns-in-File c = let here = c.head.ensures in root_a_file c.args.listings.now c.args.places.now c.requires _ here.0 here.1 (sym c.find.ensures ∙ c.in-Some.is) (sym here.3 ∙ c.in-File.is)

pub returns-in-None : goal.returns-in-None
returns-in-None c = root_unused c.args.listings.now c.args.places.now c.requires (sym c.find.ensures ∙ c.in-None.is)
