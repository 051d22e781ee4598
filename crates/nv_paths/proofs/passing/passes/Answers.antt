use Rattle.std.proofs.Common.{◌∷◌, List, ℕ, eqb, ap, sym, ◌∙◌}
use Rattle.std.specs.List.{list_any}
use Rattle.nv_tree.specs.Tree.{passed}
use Rattle.nv_tree.proofs.Spelled.{has_bytes}
use Rattle.nv_paths.specs.Seen.{tree_of}
use Rattle.nv_paths.proofs.Passes.{passes_end, passes_here, passes_lost, passes_on}
use Rattle.nv_paths.proofs.Walks.{cut, no_names, some_names}
use Rattle.nv_paths.proofs.passing.passes.Goals as goal

pub returns-then-directory-inode : goal.returns-then-directory-inode
returns-then-directory-inode c region names s =
    let left = c.loop-directory.invariant.1 names s in
    let some = some_names c.loop-directory.rest.now left.0 c.loop-directory.invariant.0 left.1 in
    sym (left.2 region ∙ ap (λ (l : List (List ℕ)). list_any (eqb c.args.inode) (passed (tree_of region c.args.rows.now.items) c.loop-directory.directory l)) some.2
    ∙ passes_here (tree_of region c.args.rows.now.items) c.loop-directory.directory c.args.inode some.0 some.1 c.if-directory-inode.true)

pub returns-then-is_empty : goal.returns-then-is_empty
returns-then-is_empty c region names s =
    let left = c.loop-directory.invariant.1 names s in
    let parts = cut c.loop-directory.rest.now c.split_name.result.0.now c.split_name.result.1.now left.0 c.loop-directory.invariant.0 c.split_name.ensures.names left.1 in
    let none = no_names c.split_name.result.1.now c.is_empty.result c.is_empty.ensures c.if-is_empty.true parts.names parts.rest in
    sym (left.2 region ∙ ap (λ (l : List (List ℕ)). list_any (eqb c.args.inode) (passed (tree_of region c.args.rows.now.items) c.loop-directory.directory l)) (parts.is ∙ ap (λ (l : List (List ℕ)). c.split_name.result.0.now ∷ l) none)
    ∙ passes_end (tree_of region c.args.rows.now.items) c.loop-directory.directory c.args.inode c.split_name.result.0.now c.if-directory-inode.false)

pub returns-in_default : goal.returns-in_default
returns-in_default c region names s =
    let left = c.loop-directory.invariant.1 names s in
    let parts = cut c.loop-directory.rest.now c.split_name.result.0.now c.split_name.result.1.now left.0 c.loop-directory.invariant.0 c.split_name.ensures.names left.1 in
    let more = some_names c.split_name.result.1.now parts.names (has_bytes c.split_name.result.1.now c.is_empty.result c.is_empty.ensures c.if-is_empty.false) parts.rest in
    sym (left.2 region ∙ ap (λ (l : List (List ℕ)). list_any (eqb c.args.inode) (passed (tree_of region c.args.rows.now.items) c.loop-directory.directory l)) (parts.is ∙ ap (λ (l : List (List ℕ)). c.split_name.result.0.now ∷ l) more.2)
    ∙ passes_lost (tree_of region c.args.rows.now.items) c.loop-directory.directory c.args.inode c.split_name.result.0.now more.0 more.1 c.if-directory-inode.false (sym (c.inode_named.ensures region) ∙ c.in_default.is))

pub loop-directory-preserved : goal.loop-directory-preserved
loop-directory-preserved c =
    let some = has_bytes c.split_name.result.1.now c.is_empty.result c.is_empty.ensures c.if-is_empty.false in (
      some,
      λ names s.
          let left = c.loop-directory.invariant.1 names s in
          let parts = cut c.loop-directory.rest.now c.split_name.result.0.now c.split_name.result.1.now left.0 c.loop-directory.invariant.0 c.split_name.ensures.names left.1 in
          let more = some_names c.split_name.result.1.now parts.names some parts.rest in (
            parts.names,
            parts.rest,
            λ region. left.2 region
                ∙ ap (λ (l : List (List ℕ)). list_any (eqb c.args.inode) (passed (tree_of region c.args.rows.now.items) c.loop-directory.directory l)) (parts.is ∙ ap (λ (l : List (List ℕ)). c.split_name.result.0.now ∷ l) more.2)
                ∙ passes_on (tree_of region c.args.rows.now.items) c.loop-directory.directory c.in-Some.next c.args.inode c.split_name.result.0.now more.0 more.1 c.if-directory-inode.false (sym (c.inode_named.ensures region) ∙ c.in-Some.is)
                ∙ sym (ap (λ (l : List (List ℕ)). list_any (eqb c.args.inode) (passed (tree_of region c.args.rows.now.items) c.in-Some.next l)) more.2),
          ),
    )
