use Rattle.std.proofs.Common.{rules, ◌≡◌}
use Rattle.nv_names.proofs.Listing.{has_own}
use Rattle.nv_names.proofs.index.NameIndex.iter.Goals as goal

pub returns-in-Some : goal.returns-in-Some
returns-in-Some c =
    let names : c.iter.result ≡ c.args.self.now.names = search rules in
    rw names (has_own c.args.self.now c.len-count.ensures.each_once)
