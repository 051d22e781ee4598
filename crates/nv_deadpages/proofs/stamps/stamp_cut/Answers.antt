use Rattle.std.proofs.Common.{sym}
use Rattle.std.proofs.lemmas.Result.{on_ok_weaker}
use Rattle.nv_deadpages.proofs.Stamping.{stamps_cut}
use Rattle.nv_deadpages.proofs.stamps.stamp_cut.Goals as goal

pub returns-in-None-clause-stamps : goal.returns-in-None-clause-stamps
returns-in-None-clause-stamps c =
    on_ok_weaker c.stamp.result (λ h. stamps_cut c.args.sup.now c.args.kind c.args._at c.args.page c.first_page_past.result c.args.e.now c.args.stamps.now c.stamp.new.stamps
    c.requires.page (sym c.in-None.ensures.good) c.first_page_past.ensures h) c.stamp.ensures.stamps
