use Rattle.std.proofs.Common.{◌≡◌, ◌+◌, ◌++◌, take}
use Rattle.smallvec.specs.SmallVec.{small_vec_len}
use Rattle.nv_steps.proofs.settling.push_all.Given as goal

abbrev pub invariant-loop-page : goal.invariant-loop-page
invariant-loop-page l = (l.pages.items ≡ l.initial.pages.items ++ take l.page-index l.more) × (small_vec_len l.pages ≡ small_vec_len l.initial.pages + l.page-index) × (l.pages.capacity ≡ l.initial.pages.capacity)
