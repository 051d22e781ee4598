use Rattle.std.proofs.Common.{◌∙◌, subst}
use Rattle.nv_outcome.specs.Answer.{outcome_of}
use Rattle.nv_image_check.specs.GatheredImage.{IsFoundIn}
use Rattle.nv_image_check.proofs.Gathering.{found_layout, found_outcome, found_refused}
use Rattle.nv_image_check.proofs.mapping.map_gathered.Goals as goal

pub cells_of-made-requires : goal.cells_of-made-requires
cells_of-made-requires c =
    let is = subst (IsFoundIn c.args.gathered) c.in-Recovered.is c.in_ok-image.ensures in
    record { layout = found_layout c.args.gathered c.in-Recovered.memory c.in-Recovered.found is }

pub returns-in_ok-cells-in-Recovered : goal.returns-in_ok-cells-in-Recovered
returns-in_ok-cells-in-Recovered c R are =
    let is = subst (IsFoundIn c.args.gathered) c.in-Recovered.is c.in_ok-image.ensures in
    (outcome_of c.in-Recovered.found, found_outcome R c.args.gathered are c.in-Recovered.memory c.in-Recovered.found is, rw c.in_ok-cells-in-Recovered.was at c.cells_of-made.ensures, c.len-faults.ensures ∙ c.in-Recovered.found.faults.ok.0)

pub returns-in-Refused : goal.returns-in-Refused
returns-in-Refused c R are = found_refused R c.args.gathered are c.in-Refused.refusal (subst (IsFoundIn c.args.gathered) c.in-Refused.is c.in_ok-image.ensures)
