use Rattle.std.proofs.Common.{sym, ◌∙◌, false, true, subst, ◌<◌}
use Rattle.nv_cross_check.proofs.Spread.{spread_opened, spread_nameless, spread_old, spread_none, read_at}
use Rattle.nv_cross_check.proofs.walk.spread_to.Goals as goal

pub has_names-requires : goal.has_names-requires
has_names-requires c = subst (λ n. c.in-Some.place < n) c.requires.same (c.requires.table.within _ _ (sym c.find.ensures ∙ c.in-Some.is))

pub returns-in_ok-push : goal.returns-in_ok-push
returns-in_ok-push c =
    let at = sym c.find.ensures ∙ c.in-Some.is in
    let within = c.requires.table.within _ _ at in
    rw c.in_ok-push.ensures.items (spread_opened c.args.listings.now _ _ _ _ at within (read_at _ _ _ false false within c.index.ensures c.if-not-index.true) _)

pub returns-else-has_names : goal.returns-else-has_names
returns-else-has_names c =
    let at = sym c.find.ensures ∙ c.in-Some.is in
    let within = c.requires.table.within _ _ at in
    spread_nameless c.args.listings.now _ _ _ _ at within (read_at _ _ _ false false within c.index.ensures c.if-not-index.true) _ (c.has_names.ensures c.if-has_names.false)

pub returns-else-not-index : goal.returns-else-not-index
returns-else-not-index c =
    let at = sym c.find.ensures ∙ c.in-Some.is in
    let within = c.requires.table.within _ _ at in
    spread_old _ _ _ _ _ _ at (read_at _ _ _ true false within c.index.ensures c.if-not-index.false)

pub returns-in_default : goal.returns-in_default
returns-in_default c = spread_none _ _ _ _ _ (sym c.find.ensures ∙ c.in_default.is)
