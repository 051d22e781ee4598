use Rattle.std.proofs.Common.{rules, ◌∙◌}
use Rattle.std.specs.Ordering.{nat_cmp}
use Rattle.std.specs.BTreeMap.{is_at}
use Rattle.std.proofs.lemmas.Map.Steps.{set_value_same}
use Rattle.nv_radix.proofs.runs.replace.Goals as goal

-- nothing was written through what the map lent
pub returns-in_default-clause-same : goal.returns-in_default-clause-same
returns-in_default-clause-same c = λ _. (c.get_mut.follows.holds c.in-Some.had.now).0 ∙ set_value_same (is_at (nat_cmp c.args.page)) c.args.runs.now.entries c.in-Some.had.now (search rules)
