use Rattle.nv_region.specs.Region.{region_of}
use Rattle.nv_looks.proofs.looking_by_number.look_at_inode_names.Goals as goal

pub returns : goal.returns
returns c = c.inode_names_in-look.ensures (region_of c.args.bytes.now) c.in_ok-opened.ensures
