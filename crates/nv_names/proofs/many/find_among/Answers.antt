use Rattle.std.proofs.Common.{◌∙◌}
use Rattle.nv_names.proofs.Choosing.{found_by_key}
use Rattle.nv_names.proofs.many.find_among.Goals as goal

pub returns : goal.returns
returns c = c.find.ensures ∙ found_by_key c.args.buckets.now c.args.key c.place_of.result c.index-buckets-place_of.result c.args.name.now c.requires.many c.requires.key c.place_of.ensures.place c.place_of.ensures.within c.index-buckets-place_of.is
