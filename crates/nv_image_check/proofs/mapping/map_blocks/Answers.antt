use Rattle.nv_region.specs.Region.{region_of}
use Rattle.nv_image_check.proofs.mapping.map_blocks.Goals as goal

pub returns-clause-map : goal.returns-clause-map
returns-clause-map g c bytes known = c.in_ok-map_gathered.ensures (region_of bytes) (c.in_ok-gathered.ensures.gathered bytes known)
