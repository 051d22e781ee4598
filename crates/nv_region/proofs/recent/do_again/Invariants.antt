use Rattle.std.proofs.Common.{◌≡◌, take}
use Rattle.nv_region.specs.Recent.{done_again}
use Rattle.nv_region.proofs.recent.do_again.Given as goal

abbrev pub invariant-loop-store : goal.invariant-loop-store
invariant-loop-store l = l.words ≡ done_again (take l.store-index l.stores) l.initial.words
