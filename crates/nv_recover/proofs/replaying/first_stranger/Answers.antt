use Rattle.std.proofs.Common.{rules, nat_le}
use Rattle.std.proofs.lemmas.Iterator.{YieldsList-from_slice}
use Rattle.std.proofs.lemmas.Iterator.Search.{position_from_yields_List}
use borrow.Author.Tests.{tests}
use Rattle.nv_recover.proofs.replaying.first_stranger.Goals as goal

pub returns : goal.returns
returns c = position_from_yields_List (nat_le c.args.workers) _ _ _ c.position.ensures.ran (YieldsList-from_slice c.args.schedule.now (cc)) (λ x b q k. search (rules, tests))
