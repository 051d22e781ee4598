use Rattle.std.proofs.Common.{inl, inr}
use Rattle.nv_region.specs.Stops.{One}
use Rattle.nv_region.proofs.Wordwise.{fenced_stores, put_stores, same_stores, stores_more, stores_within}
use Rattle.nv_journal.specs.Recorded.{Two}
use Rattle.nv_journal.proofs.InOrder.{both_first, none_first, one_first}
use Rattle.nv_journal.proofs.committing.store_both.Goals as goal

pub returns-in_err-store-clause-wrote : goal.returns-in_err-store-clause-wrote
returns-in_err-store-clause-wrote g c = same_stores _ _ _ _ _ c.in_err-store.ensures.refused c.in_err-store.ensures.refused_keep

pub returns-in_err-store-2-clause-wrote : goal.returns-in_err-store-2-clause-wrote
returns-in_err-store-2-clause-wrote g c =
    let these = Two c.args.first c.args.first_value c.args.second c.args.second_value in
    stores_more these these _ _ _ _ _ _ (λ i x one. one)
    (stores_within these (One c.args.first c.args.first_value) _ _ _ _ (λ i x one. inl one) (put_stores _ _ _ _ _ _ c.in_ok-store.ensures.stored c.in_ok-store.ensures.may_keep))
    (same_stores _ _ _ _ _ c.in_err-store-2.ensures.refused c.in_err-store-2.ensures.refused_keep)

pub returns-clause-wrote : goal.returns-clause-wrote
returns-clause-wrote g c =
    let these = Two c.args.first c.args.first_value c.args.second c.args.second_value in
    fenced_stores c.fence.result these _ _ _ _ _ _
    (stores_more these (One c.args.second c.args.second_value) _ _ _ _ _ _ (λ i x one. inr one)
    (stores_within these (One c.args.first c.args.first_value) _ _ _ _ (λ i x one. inl one) (put_stores _ _ _ _ _ _ c.in_ok-store.ensures.stored c.in_ok-store.ensures.may_keep))
    (put_stores _ _ _ _ _ _ c.in_ok-store-2.ensures.stored c.in_ok-store-2.ensures.may_keep))
    c.fence.ensures.same c.fence.ensures.fenced c.fence.ensures.refused_keep (g.met.P.Pmem.holds_now _)

pub returns-in_err-store-clause-in_order : goal.returns-in_err-store-clause-in_order
returns-in_err-store-clause-in_order g c differ = none_first _ _ c.args.first c.args.first_value c.args.second c.in_err-store.ensures.refused

pub returns-in_err-store-2-clause-in_order : goal.returns-in_err-store-2-clause-in_order
returns-in_err-store-2-clause-in_order g c differ = one_first _ _ _ c.args.first c.args.first_value c.args.second c.requires.first.0 c.requires.second.0 differ c.in_ok-store.ensures.stored c.in_err-store-2.ensures.refused

pub returns-clause-in_order : goal.returns-clause-in_order
returns-clause-in_order g c differ = both_first _ _ _ _ c.args.first c.args.first_value c.args.second c.args.second_value c.requires.first.0 c.requires.second.0 c.requires.first.1 c.len-end.ensures.short differ c.in_ok-store.ensures.stored c.in_ok-store-2.ensures.stored c.fence.ensures.same
