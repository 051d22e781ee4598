use Rattle.std.proofs.Common.{◌∙◌}
use Rattle.nv_region.specs.Region.{region_of}
use Rattle.nv_outcome.specs.Answer.{outcome_of}
use Rattle.nv_outcome.proofs.SuperOf.{layout_of_super}
use Rattle.nv_image_check.proofs.Found.{as_found}
use Rattle.nv_image_check.proofs.mapping.map_cells.Goals as goal

pub cells_of-made-requires : goal.cells_of-made-requires
cells_of-made-requires c =
    let found = as_found (region_of c.args.bytes.now) c.in_ok-image.image c.in-Recovered.memory c.in-Recovered.recovered c.in-Recovered.is c.in_ok-image.ensures in
    record { layout = layout_of_super _ _ found.0.sup }

pub returns-in_ok-cells-in-Recovered : goal.returns-in_ok-cells-in-Recovered
returns-in_ok-cells-in-Recovered c =
    let found = as_found (region_of c.args.bytes.now) c.in_ok-image.image c.in-Recovered.memory c.in-Recovered.recovered c.in-Recovered.is c.in_ok-image.ensures in
    (outcome_of c.in-Recovered.recovered, found.0, rw c.in_ok-cells-in-Recovered.was at c.cells_of-made.ensures, c.len-faults.ensures ∙ c.in-Recovered.recovered.faults.ok.0)
