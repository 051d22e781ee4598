use Rattle.std.proofs.Common.{rules, sym}
use Rattle.std.proofs.lemmas.Fn.{filter_same}
use Rattle.nv_names.proofs.Entries.{fresh-lacks}
use Rattle.nv_names.proofs.fresh.forget.Goals as goal

pub returns-in-Some-clause-others : goal.returns-in-Some-clause-others
returns-in-Some-clause-others c = filter_same _ _ _ (λ x b f' k. search rules) _ _ c.retain.ensures.filtered

pub returns-in-None-clause-others : goal.returns-in-None-clause-others
returns-in-None-clause-others c = sym (fresh-lacks c.args.list.now.items c.args.name.now (sym (rw c.as_slice.ensures.value at c.in-None.ensures)))
