use Rattle.std.proofs.Common.{refl}
use Rattle.nv_image_files.proofs.Lengths.{refused_length, taken_length}
use Rattle.nv_image_files.proofs.image.told_length.Goals as goal

pub returns-else-is_region_length-clause-told : goal.returns-else-is_region_length-clause-told
returns-else-is_region_length-clause-told c = (refl, refused_length c.args.length (c.is_region_length.ensures.refused c.if-is_region_length.false))

pub returns-then-is_region_length-clause-none : goal.returns-then-is_region_length-clause-none
returns-then-is_region_length-clause-none c _ = taken_length c.args.length (c.is_region_length.ensures.taken c.if-is_region_length.true)
