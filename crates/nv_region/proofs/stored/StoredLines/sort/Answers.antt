use Rattle.std.proofs.Common.{refl, sym, ap, ◌∙◌, rules}
use Rattle.std.proofs.lemmas.List.Sorted.{IsNonDecreasingBy-from_sort, list_any-IsPermutation, answers_always}
use Rattle.nv_region.specs.StoredLines.{Noted, holds, is_stored, words_before}
use Rattle.nv_region.proofs.Marks.{permuted_kept, permuted_marked, kept_rise}
use Rattle.nv_region.proofs.Before.{permuted_before}
use Rattle.nv_region.proofs.stored.StoredLines.sort.Goals as goal

pub invariant_of-self : goal.invariant_of-self
invariant_of-self c = permuted_marked c.self.inside _ c.self.invariant refl refl refl c.sort_unstable_by_key.ensures.permutation c.sort_unstable_by_key.ensures.capacity refl

pub returns-clause-lines : goal.returns-clause-lines
returns-clause-lines c p = sym (list_any-IsPermutation (λ row. holds row p) c.self.inside.rows.items _ c.sort_unstable_by_key.ensures.permutation) ∙ ap (λ (noted : Noted). is_stored noted p) c.self.view_is

pub returns-clause-before : goal.returns-clause-before
returns-clause-before c words =
    permuted_before c.self.inside.total c.self.inside.rows.items _ c.self.inside.kept.items words c.self.invariant.rows c.sort_unstable_by_key.ensures.permutation
    ∙ ap (λ (noted : Noted). words_before noted.rows noted.kept words) c.self.view_is

pub returns-clause-rising : goal.returns-clause-rising
returns-clause-rising c =
    kept_rise c.self.inside.total _ c.self.inside.kept.items (permuted_kept c.self.inside.total c.self.inside.rows.items _ c.self.inside.kept.items c.self.invariant.rows c.sort_unstable_by_key.ensures.permutation)
    (IsNonDecreasingBy-from_sort (λ r. r.first) _ (c.sort_unstable_by_key.ensures.sorted (λ r. r.first) (answers_always _ _ _ (λ f a r g h. search rules))))
