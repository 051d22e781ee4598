use Rattle.std.proofs.Common.{rules}
use Rattle.std.proofs.lemmas.List.Sorted.{answers_always}
use Rattle.nv_names.proofs.Listing.{lists_names}
use Rattle.nv_names.proofs.index.NameIndex.list.Goals as goal

pub returns : goal.returns
returns c =
    lists_names _ _ _ c.in_ok-listed.ensures.each_once c.in_ok-listed.ensures.names c.sort_unstable_by_key.ensures.permutation
    (c.sort_unstable_by_key.ensures.sorted (λ n. n.name) (answers_always _ _ _ (λ f a r g h. search rules)))
