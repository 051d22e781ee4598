use Rattle.std.proofs.Common.{◌∙◌, ap}
use Rattle.nv_report.specs.Last.{status_of}
use Rattle.nv_image_check.proofs.checking.status_of.Goals as goal

pub returns : goal.returns
returns c = c.status.ensures ∙ ap status_of c.how_it_went.ensures
