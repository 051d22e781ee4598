use Rattle.std.proofs.Common.{◌∙◌, sym}
use Rattle.nv_radix.proofs.Fronts.{got_behind, got_first, got_other}
use Rattle.nv_radix.proofs.extent_map.ExtentMap.get.Goals as goal

pub returns-then-page-ge-LEAF_PAGES : goal.returns-then-page-ge-LEAF_PAGES
returns-then-page-ge-LEAF_PAGES c = rw (← c.self.view_is) (c.get.ensures ∙ sym (got_behind c.self.inside.front c.self.inside.runs c.args.page c.if-page-ge-LEAF_PAGES.true))

pub returns-in-Some : goal.returns-in-Some
returns-in-Some c = rw (← c.self.view_is) (sym (got_first c.self.inside.front c.self.inside.runs c.args.page c.in-Some.block c.if-page-ge-LEAF_PAGES.false (sym c.in-Some.ensures)))

pub returns-in-None : goal.returns-in-None
returns-in-None c = rw (← c.self.view_is) (c.get-in-None.ensures ∙ sym (got_other c.self.inside.front c.self.inside.runs c.args.page (sym c.in-None.ensures)))
