use Rattle.std.proofs.Common.{ℕ, List, [], ◌∷◌, ◌++◌, map, ap, sym, ◌∙◌, append-nil}
use Rattle.std.proofs.lemmas.List.{append_assoc}
use Rattle.nv_script.proofs.cleaning.numbers_of.Goals as goal

pub loop-inode-init : goal.loop-inode-init
loop-inode-init c =
    ap (λ (xs : List ℕ). xs ++ map (λ entry. entry.0) c.into_iter-inode-iterator.result) c.in_ok-numbers.ensures.items
    ∙ ap (map (λ entry. entry.0)) c.into_iter-inode-iterator.ensures.into_iter_gives ∙ c.iter-inode-items.ensures.numbers

pub loop-inode-preserved : goal.loop-inode-preserved
loop-inode-preserved c =
    ap (λ (xs : List ℕ). xs ++ map (λ entry. entry.0) c.next.new.self) c.in_ok-push.ensures.items
    ∙ append_assoc c.loop-inode.numbers.items (c.in-Some.inode ∷ []) (map (λ entry. entry.0) c.next.new.self)
    ∙ ap (λ rest. c.loop-inode.numbers.items ++ map (λ entry. entry.0) rest) (sym c.in-Some.ensures.steps)
    ∙ c.loop-inode.invariant

pub returns : goal.returns
returns c = sym (append-nil c.loop-inode.numbers.items) ∙ ap (λ rest. c.loop-inode.numbers.items ++ map (λ entry. entry.0) rest) (sym c.in-None.ensures.steps.0) ∙ c.loop-inode.invariant
