use Rattle.std.proofs.Common.{◌≡◌, take, map}
use Rattle.nv_image_check.specs.Answering.{worker_number}
use Rattle.nv_image_check.proofs.recovering.worker_numbers.Given as goal

abbrev pub invariant-loop-number : goal.invariant-loop-number
invariant-loop-number l = l.numbers.items ≡ map worker_number (take l.number-index l.schedule)
