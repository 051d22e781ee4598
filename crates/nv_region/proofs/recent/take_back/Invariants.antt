use Rattle.std.proofs.Common.{◌≡◌, drop}
use Rattle.nv_region.specs.Recent.{taken_back}
use Rattle.nv_region.proofs.recent.take_back.Given as goal

abbrev pub invariant-loop-place : goal.invariant-loop-place
invariant-loop-place l = l.words ≡ taken_back (drop l.place l.stores) l.initial.words
