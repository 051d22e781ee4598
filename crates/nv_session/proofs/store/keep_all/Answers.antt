use Rattle.std.proofs.Common.{◌≡◌}
use Rattle.nv_session.proofs.store.keep_all.Goals as goal

pub returns-clause-region : goal.returns-clause-region
returns-clause-region c =
    let left = c.after_stop.ensures.left in
    let words : c.after_stop.result.region.words ≡ c.args.memory.region.words = c.after_stop.ensures.words in
    λ i. record { words = words i; rest = left.same_rest i }
