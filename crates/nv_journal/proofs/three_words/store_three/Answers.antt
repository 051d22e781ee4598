use Rattle.std.proofs.Common.{rules, ◌∷◌, [], inl, inr}
use Rattle.nv_region.specs.Stops.{One}
use Rattle.nv_region.proofs.Fuses.{keeps_more, keeps_within}
use Rattle.nv_region.proofs.Wordwise.{fenced_stores, put_stores, same_stores, stores_more, stores_within}
use Rattle.nv_journal.specs.Several.{Values}
use Rattle.nv_journal.proofs.InOrder.{three_all, three_none, three_one, three_two}
use Rattle.nv_journal.proofs.three_words.store_three.Goals as goal

pub returns-in_err-store-clause-in_order : goal.returns-in_err-store-clause-in_order
returns-in_err-store-clause-in_order g c one two three = three_none _ c.args.first c.args.second c.args.third c.requires.first c.requires.second c.requires.third.0 one two three _ c.in_err-store.ensures.refused

pub returns-in_err-store-2-clause-in_order : goal.returns-in_err-store-2-clause-in_order
returns-in_err-store-2-clause-in_order g c one two three = three_one _ c.args.first c.args.second c.args.third c.requires.first c.requires.second c.requires.third.0 one two three _ _ c.in_ok-store.ensures.stored c.in_err-store-2.ensures.refused

pub returns-in_err-store-3-clause-in_order : goal.returns-in_err-store-3-clause-in_order
returns-in_err-store-3-clause-in_order g c one two three =
    three_two _ c.args.first c.args.second c.args.third c.requires.first c.requires.second c.requires.third.0 one two three c.len-end.ensures.short _ _ _ c.in_ok-store.ensures.stored c.in_ok-store-2.ensures.stored c.in_err-store-3.ensures.refused

pub returns-clause-in_order : goal.returns-clause-in_order
returns-clause-in_order g c one two three =
    three_all _ c.args.first c.args.second c.args.third c.requires.first c.requires.second c.requires.third.0 one two three c.len-end.ensures.short _ _ _ _ c.in_ok-store.ensures.stored c.in_ok-store-2.ensures.stored c.in_ok-store-3.ensures.stored c.fence.ensures.same

pub returns-in_err-store-clause-wrote : goal.returns-in_err-store-clause-wrote
returns-in_err-store-clause-wrote g c = same_stores _ _ _ _ _ c.in_err-store.ensures.refused c.in_err-store.ensures.refused_keep

pub returns-in_err-store-clause-keeps_fuse : goal.returns-in_err-store-clause-keeps_fuse
returns-in_err-store-clause-keeps_fuse g c = keeps_within (λ limit past. past.0) c.store.ensures.keeps_fuse

pub returns-in_err-store-2-clause-wrote : goal.returns-in_err-store-2-clause-wrote
returns-in_err-store-2-clause-wrote g c = let these = Values (c.args.first ∷ c.args.second ∷ c.args.third ∷ []) in stores_more these these _ _ _ _ _ _ (λ i x one. one) (stores_within these (One c.args.first.0 c.args.first.1) _ _ _ _ (λ i x one. inl one) (put_stores _ _ _ _ _ _ c.in_ok-store.ensures.stored c.in_ok-store.ensures.may_keep)) (same_stores _ _ _ _ _ c.in_err-store-2.ensures.refused c.in_err-store-2.ensures.refused_keep)

pub returns-in_err-store-2-clause-keeps_fuse : goal.returns-in_err-store-2-clause-keeps_fuse
returns-in_err-store-2-clause-keeps_fuse g c = keeps_more (λ limit past. past.1) (keeps_within (λ limit past. past.0) c.store.ensures.keeps_fuse) c.store-2.ensures.keeps_fuse

pub returns-in_err-store-3-clause-wrote : goal.returns-in_err-store-3-clause-wrote
returns-in_err-store-3-clause-wrote g c = let these = Values (c.args.first ∷ c.args.second ∷ c.args.third ∷ []) in stores_more these these _ _ _ _ _ _ (λ i x one. one) (stores_more these (One c.args.second.0 c.args.second.1) _ _ _ _ _ _ (λ i x one. inr (inl one)) (stores_within these (One c.args.first.0 c.args.first.1) _ _ _ _ (λ i x one. inl one) (put_stores _ _ _ _ _ _ c.in_ok-store.ensures.stored c.in_ok-store.ensures.may_keep)) (put_stores _ _ _ _ _ _ c.in_ok-store-2.ensures.stored c.in_ok-store-2.ensures.may_keep)) (same_stores _ _ _ _ _ c.in_err-store-3.ensures.refused c.in_err-store-3.ensures.refused_keep)

pub returns-in_err-store-3-clause-keeps_fuse : goal.returns-in_err-store-3-clause-keeps_fuse
returns-in_err-store-3-clause-keeps_fuse g c = keeps_more (λ limit past. past.2) (keeps_more (λ limit past. past.1) (keeps_within (λ limit past. past.0) c.store.ensures.keeps_fuse) c.store-2.ensures.keeps_fuse) c.store-3.ensures.keeps_fuse

pub returns-clause-wrote : goal.returns-clause-wrote
returns-clause-wrote g c = let these = Values (c.args.first ∷ c.args.second ∷ c.args.third ∷ []) in fenced_stores c.fence.result these _ _ _ _ _ _ (stores_more these (One c.args.third.0 c.args.third.1) _ _ _ _ _ _ (λ i x one. inr (inr (inl one))) (stores_more these (One c.args.second.0 c.args.second.1) _ _ _ _ _ _ (λ i x one. inr (inl one)) (stores_within these (One c.args.first.0 c.args.first.1) _ _ _ _ (λ i x one. inl one) (put_stores _ _ _ _ _ _ c.in_ok-store.ensures.stored c.in_ok-store.ensures.may_keep)) (put_stores _ _ _ _ _ _ c.in_ok-store-2.ensures.stored c.in_ok-store-2.ensures.may_keep)) (put_stores _ _ _ _ _ _ c.in_ok-store-3.ensures.stored c.in_ok-store-3.ensures.may_keep)) c.fence.ensures.same c.fence.ensures.fenced c.fence.ensures.refused_keep (g.met.P.Pmem.holds_now _)

pub returns-clause-keeps_fuse : goal.returns-clause-keeps_fuse
returns-clause-keeps_fuse g c = keeps_more (λ limit past. search rules) (keeps_more (λ limit past. past.2) (keeps_more (λ limit past. past.1) (keeps_within (λ limit past. past.0) c.store.ensures.keeps_fuse) c.store-2.ensures.keeps_fuse) c.store-3.ensures.keeps_fuse) c.fence.ensures.keeps_fuse
