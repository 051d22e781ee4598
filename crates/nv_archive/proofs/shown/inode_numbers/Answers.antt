use Rattle.std.proofs.Common.{◌∙◌, ◌++◌, [], ◌∷◌, List, ℕ, map, ap, sym, append-nil, append_assoc}
use Rattle.nv_archive.proofs.shown.inode_numbers.Goals as goal

pub loop-inode-preserved : goal.loop-inode-preserved
loop-inode-preserved c =
    let left = ap (map (λ entry. entry.0)) c.in-Some.ensures.steps in
    let numbers = c.loop-inode.numbers.items in
    rw c.in_ok-push.ensures.items (append_assoc numbers (c.in-Some.inode ∷ []) _ ∙ ap (λ (l : List ℕ). numbers ++ l) (sym left) ∙ c.loop-inode.invariant)

pub returns : goal.returns
returns c =
    let numbers = c.loop-inode.numbers.items in
    sym (append-nil numbers) ∙ ap (λ (l : List ℕ). numbers ++ l) (sym (ap (map (λ entry. entry.0)) c.in-None.ensures.steps.0)) ∙ c.loop-inode.invariant
