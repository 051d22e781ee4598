use Rattle.std.proofs.Common.{◌≡◌, ℕ, List, ◌∷◌, ap, sym, ◌∙◌, refl, Some, None}
use Rattle.std.specs.Option.{option_map}
use Rattle.std.proofs.lemmas.Result.{err_from_is_err_and}
use Rattle.nv_names.specs.Names.{name_at, inode_and_place}
use Rattle.nv_tree.specs.Tree.{walk}
use Rattle.nv_tree.proofs.Spelled.{has_bytes}
use Rattle.nv_paths.specs.Seen.{tree_of}
use Rattle.nv_rows.proofs.Places.{in_use}
use Rattle.nv_paths.proofs.Spots.{spot_found}
use Rattle.nv_paths.proofs.Walks.{cut, no_names, some_names, told_refused, refused_so, walk_refused, walk_lost, goes_on, same_last, name_in_row}
use Rattle.nv_paths.proofs.walking.walk.Goals as goal

pub returns-in_err-row-clause-reply : goal.returns-in_err-row-clause-reply
returns-in_err-row-clause-reply c region names s =
    let p = err_from_is_err_and c.from_residual.result c.from_residual.ensures.1 in
    let left = c.loop-row.invariant.1 names s in
    let some = some_names c.loop-row.rest.now left.0 c.loop-row.invariant.0 left.1 in
    let refused = walk_refused (tree_of region c.args.rows.now.items) c.loop-row.directory some.0 some.1 c.in_err-row.field-0.0 (sym (c.in_err-row.ensures.reply region)) in
    told_refused c.from_residual.result (λ r. r.0) c.in_err-row.field-0.0 p.0 (walk (tree_of region c.args.rows.now.items) 1 names) p.1 p.2
    (left.3 region ∙ ap (walk (tree_of region c.args.rows.now.items) c.loop-row.directory) some.2 ∙ refused)

pub returns-then-is_empty-clause-reply : goal.returns-then-is_empty-clause-reply
returns-then-is_empty-clause-reply c region names s =
    let left = c.loop-row.invariant.1 names s in
    let parts = cut c.loop-row.rest.now c.split_name.result.0.now c.split_name.result.1.now left.0 c.loop-row.invariant.0 c.split_name.ensures.names left.1 in
    let none = no_names c.split_name.result.1.now c.is_empty.result c.is_empty.ensures c.if-is_empty.true parts.names parts.rest in
    c.in_ok-row.ensures.reply region
    ∙ sym (left.3 region ∙ ap (walk (tree_of region c.args.rows.now.items) c.loop-row.directory) (parts.is ∙ ap (λ (l : List (List ℕ)). c.split_name.result.0.now ∷ l) none))

pub returns-in_err-row-clause-refused : goal.returns-in_err-row-clause-refused
returns-in_err-row-clause-refused c region names s = refused_so c.from_residual.result (λ r. r.0) (walk (tree_of region c.args.rows.now.items) 1 names) (returns-in_err-row-clause-reply c region names s)

pub returns-then-is_empty-clause-in_use : goal.returns-then-is_empty-clause-in_use
returns-then-is_empty-clause-in_use c = in_use c.args.rows.now.items c.loop-row.directory c.in_ok-row.row.now c.in_ok-row.ensures.row

pub returns-then-is_empty-clause-directory : goal.returns-then-is_empty-clause-directory
returns-then-is_empty-clause-directory c region names s = spot_found region c.args.rows.now.items c.args.path.now names c.requires.some s c.loop-row.directory (sym (returns-then-is_empty-clause-reply c region names s))

pub returns-then-is_empty-clause-name : goal.returns-then-is_empty-clause-name
returns-then-is_empty-clause-name c names s =
    let left = c.loop-row.invariant.1 names s in
    let parts = cut c.loop-row.rest.now c.split_name.result.0.now c.split_name.result.1.now left.0 c.loop-row.invariant.0 c.split_name.ensures.names left.1 in
    let none = no_names c.split_name.result.1.now c.is_empty.result c.is_empty.ensures c.if-is_empty.true parts.names parts.rest in
    sym (left.2 ∙ rw parts.is (rw none refl))

pub returns-in_default-clause-reply : goal.returns-in_default-clause-reply
returns-in_default-clause-reply c region names s =
    let left = c.loop-row.invariant.1 names s in
    let parts = cut c.loop-row.rest.now c.split_name.result.0.now c.split_name.result.1.now left.0 c.loop-row.invariant.0 c.split_name.ensures.names left.1 in
    let more = some_names c.split_name.result.1.now parts.names (has_bytes c.split_name.result.1.now c.is_empty.result c.is_empty.ensures c.if-is_empty.false) parts.rest in
    let named : name_at c.in_ok-row.row.now.names c.split_name.result.0.now ≡ None = sym c.get.ensures ∙ ap (option_map inode_and_place) c.in_default.is in
    let lost = name_in_row region c.args.rows.now.items c.loop-row.directory c.in_ok-row.row.now c.split_name.result.0.now None c.in_ok-row.ensures.row named in
    sym (left.3 region ∙ rw parts.is (rw more.2 (walk_lost (tree_of region c.args.rows.now.items) c.loop-row.directory c.split_name.result.0.now more.0 more.1 (sym (c.in_ok-row.ensures.reply region)) lost)))

pub returns-in_default-clause-refused : goal.returns-in_default-clause-refused
returns-in_default-clause-refused c region names s = sym (returns-in_default-clause-reply c region names s)

pub loop-row-preserved : goal.loop-row-preserved
loop-row-preserved c =
    let some = has_bytes c.split_name.result.1.now c.is_empty.result c.is_empty.ensures c.if-is_empty.false in (
      some,
      λ names s.
          let left = c.loop-row.invariant.1 names s in
          let parts = cut c.loop-row.rest.now c.split_name.result.0.now c.split_name.result.1.now left.0 c.loop-row.invariant.0 c.split_name.ensures.names left.1 in
          let more = some_names c.split_name.result.1.now parts.names some parts.rest in
          let named : name_at c.in_ok-row.row.now.names c.split_name.result.0.now ≡ Some (c.in-Some.target.inode, c.in-Some.target.place) = sym c.get.ensures ∙ ap (option_map inode_and_place) c.in-Some.is in (
            parts.names,
            parts.rest,
            left.2 ∙ same_last left.0 c.split_name.result.0.now parts.names more.0 more.1 parts.is more.2,
            λ region.
                let on = name_in_row region c.args.rows.now.items c.loop-row.directory c.in_ok-row.row.now c.split_name.result.0.now (Some (c.in-Some.target.inode, c.in-Some.target.place)) c.in_ok-row.ensures.row named in
                left.3 region ∙ goes_on (tree_of region c.args.rows.now.items) c.loop-row.directory c.in-Some.target.inode left.0 c.split_name.result.0.now parts.names more.0 more.1 parts.is more.2 (sym (c.in_ok-row.ensures.reply region)) on,
          ),
    )

pub loop-row-init : goal.loop-row-init
loop-row-init c = (c.requires.some, λ names s. (names, s, refl, λ region. refl))
