use Rattle.nv_region.specs.Region.{region_of}
use Rattle.nv_looks.proofs.looking.look_at_names.Goals as goal

pub returns : goal.returns
returns c = c.names_in-look.ensures (region_of c.args.bytes.now) c.in_ok-opened.ensures
