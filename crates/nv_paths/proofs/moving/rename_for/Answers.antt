use Rattle.std.proofs.Common.{◌≡◌, ◌∙◌, ◌∷◌, [], Some, None, ap, cond, sym, option_copied, Bool}
use Rattle.std.proofs.lemmas.Result.{err_from_is_err_and}
use Rattle.nv_tree.specs.declared.refusal.Refusal.{Refusal}
use Rattle.nv_tree.specs.declared.refusal.Refusal.TheVariants.{Exists}
use Rattle.nv_tree.specs.Refusals.{first_refusal, is_there}
use Rattle.nv_tree.proofs.Replies.{refused_by}
use Rattle.nv_paths.specs.MoveSpots.{rename_spot_tests}
use Rattle.nv_paths.specs.Seen.{tree_of}
use Rattle.nv_rows.proofs.Places.{at_place}
use Rattle.nv_paths.proofs.CreateTests.{none_of}
use Rattle.nv_paths.proofs.MoveSpots.{more_allows, more_refuses, some_there}
use Rattle.nv_paths.proofs.moving.rename_for.Goals as goal

pub returns-in_err-moved-clause-refused : goal.returns-in_err-moved-clause-refused
returns-in_err-moved-clause-refused c region p q says says_new =
    let w = err_from_is_err_and c.from_residual.result c.from_residual.ensures.1 in
    let t = tree_of region c.args.rows.now.items in
    refused_by c.from_residual.result c.in_err-moved.field-0.0 w.0 (λ (e : Refusal). first_refusal (rename_spot_tests t p q) ≡ Some e) w.1 w.2 (more_refuses t p q (is_there t q ∷ []) c.in_err-moved.field-0.0 (c.in_err-moved.ensures.refused region p q says says_new))

pub target_at-requires : goal.target_at-requires
target_at-requires c = record { in_use = c.in_ok-moved.ensures.in_use.directory }

pub returns-then-is_some-clause-refused : goal.returns-then-is_some-clause-refused
returns-then-is_some-clause-refused c region p q says says_new =
    let t = tree_of region c.args.rows.now.items in
    more_allows t p q (is_there t q ∷ []) (c.in_ok-moved.ensures.allowed region p q says says_new)
    ∙ ap (λ (b : Bool). cond b (Some Exists) None) (some_there region c.args.rows.now.items c.args.new.now c.in_ok-moved.moved.name.now c.in_ok-moved.moved.directory c.in_ok-moved.ensures.in_use.directory c.target_at.result c.in_ok-moved.ensures.paths.1 (c.in_ok-moved.ensures.ended region) c.in_ok-moved.ensures.last c.target_at.ensures.row q says_new ∙ sym c.is_some.ensures ∙ c.if-is_some.true)

pub returns-clause-allowed : goal.returns-clause-allowed
returns-clause-allowed c region p q says says_new =
    let t = tree_of region c.args.rows.now.items in
    more_allows t p q (is_there t q ∷ []) (c.in_ok-moved.ensures.allowed region p q says says_new)
    ∙ ap (λ (b : Bool). cond b (Some Exists) None) (some_there region c.args.rows.now.items c.args.new.now c.in_ok-moved.moved.name.now c.in_ok-moved.moved.directory c.in_ok-moved.ensures.in_use.directory c.target_at.result c.in_ok-moved.ensures.paths.1 (c.in_ok-moved.ensures.ended region) c.in_ok-moved.ensures.last c.target_at.ensures.row q says_new ∙ sym c.is_some.ensures ∙ c.if-is_some.false)

pub returns-clause-spot : goal.returns-clause-spot
returns-clause-spot c region names others path other_path =
    let way = c.in_ok-moved.ensures.way region names others path other_path in
    record {
      from = way.from;
      spot = record {
        directory = way.to;
        absent = λ row at. sym (c.target_at.ensures.row row (sym (at_place c.args.rows.now.items c.in_ok-moved.moved.directory) ∙ at)) ∙ ap option_copied (none_of c.target_at.result (sym c.is_some.ensures ∙ c.if-is_some.false));
      };
      apart = way.apart;
    }

pub returns-clause-paths : goal.returns-clause-paths
returns-clause-paths c =
    let some = c.in_ok-moved.ensures.paths.0 in
    ((some.0 ∷ some.1, some.2), c.in_ok-moved.ensures.paths.1)

pub returns-clause-in_use : goal.returns-clause-in_use
returns-clause-in_use c = c.in_ok-moved.ensures.in_use

pub returns-clause-former : goal.returns-clause-former
returns-clause-former c = c.in_ok-moved.ensures.former

pub returns-clause-name : goal.returns-clause-name
returns-clause-name c = c.in_ok-moved.ensures.name
