use Rattle.std.proofs.Common.{◌≡◌, ◌≤◌, ◌<◌, ℕ, length, get_or}
use Rattle.nv_metadata.specs.Places.{taken_number}
use Rattle.nv_metadata.proofs.places.take_numbers.Given as goal

abbrev pub invariant-loop-block : goal.invariant-loop-block
invariant-loop-block l = record {
  as_many : length l.numbers ≡ length l.fn.numbers;
  done : (b : ℕ) → b < l.block → get_or l.numbers b 0 ≡ taken_number l.from l.base b l.here l.there (get_or l.fn.numbers b 0) (get_or l.others b 0);
  rest : (b : ℕ) → l.block ≤ b → get_or l.numbers b 0 ≡ get_or l.fn.numbers b 0;
}
