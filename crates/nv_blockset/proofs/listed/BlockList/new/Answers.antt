use Rattle.std.proofs.Common.{◌≡◌, ◌∙◌, arith, ap, length, replicate, ℕ}
use Rattle.std.proofs.lemmas.List.{length-replicate}
use Rattle.nv_blockset.specs.BlockSet.{words_for}
use Rattle.nv_blockset.proofs.Lists.{none_set, none_listed}
use Rattle.nv_blockset.proofs.listed.BlockList.new.Goals as goal

pub invariant_of-result : goal.invariant_of-result
invariant_of-result c =
    let blank : c.in_ok-vec.field-0.items ≡ replicate (words_for c.args.bound) 0 = c.in_ok-vec.ensures.items_if_clones_equal (λ y same. same) ∙ ap (λ (n : ℕ). replicate n 0) c.words_for.ensures in
    none_listed _ c.in_ok-with_capacity.ensures.items (none_set c.in_ok-vec.field-0.items (words_for c.args.bound) blank)
    (omega (arith, ap length blank, length-replicate {A = ℕ} (words_for c.args.bound) 0))
    (omega (arith, c.in_ok-with_capacity.ensures.exact))
