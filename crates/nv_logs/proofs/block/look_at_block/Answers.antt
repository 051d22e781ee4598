use Rattle.std.proofs.Common.{string_bytes}
use Rattle.std.proofs.lemmas.Result.{IfOk-weaker}
use Rattle.nv_region.specs.Region.{region_of}
use Rattle.nv_journal.specs.Undo.{undone}
use Rattle.nv_image_check.proofs.Found.{as_found}
use Rattle.nv_logs.proofs.BlockLooks.{found_block, found_rows, refused_block}
use Rattle.nv_logs.proofs.block.look_at_block.Goals as goal

pub look_in-look-requires : goal.look_in-look-requires
look_in-look-requires c =
    let R = region_of c.args.bytes.now in
    let found = c.in-Recovered.found in
    let is = as_found R c.in_ok-image.image c.in-Recovered.memory found c.in-Recovered.is c.in_ok-image.ensures in
    (undone found.sup R, found_rows R c.in-Recovered.memory found is)

pub returns-in-Recovered : goal.returns-in-Recovered
returns-in-Recovered c =
    let bytes = c.args.bytes.now in
    let found = c.in-Recovered.found in
    let is = as_found (region_of bytes) c.in_ok-image.image c.in-Recovered.memory found c.in-Recovered.is c.in_ok-image.ensures in
    found_block bytes c.in-Recovered.memory found is c.args.block c.args.hex c.look_in-look.result c.look_in-look.ensures.told c.look_in-look.ensures.faults

pub returns-in-Refused : goal.returns-in-Refused
returns-in-Refused c = IfOk-weaker c.unaccepted_look.result _ _
    (λ look said. refused_block c.args.bytes.now c.args.block c.args.hex c.in-Refused.refusal (string_bytes look.text) look.answered (rw c.in-Refused.is at c.in_ok-image.ensures) said)
    c.unaccepted_look.ensures
