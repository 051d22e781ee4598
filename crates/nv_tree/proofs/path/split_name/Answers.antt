use Rattle.std.proofs.Common.{ℕ, ◌-◌, not, List, length, take, drop, ap, ◌∙◌, arith}
use Rattle.std.specs.List.{before_first, position_or_len}
use Rattle.std.proofs.lemmas.List.{take_rest}
use Rattle.std.proofs.lemmas.List.Sums.{prefix_len-le-length}
use Rattle.nv_tree.specs.Path.{is_slash}
use Rattle.nv_tree.proofs.Spelled.{first_spelled}
use Rattle.nv_tree.proofs.path.split_name.Goals as goal

pub split_at-requires : goal.split_at-requires
split_at-requires c =
    let text = take (length c.args.text.now - 1) (drop 1 c.args.text.now) in
    omega (arith, c.name_length.ensures, prefix_len-le-length (λ b. not (is_slash b)) text)

pub returns-clause-first : goal.returns-clause-first
returns-clause-first c =
    let text = take (length c.args.text.now - 1) (drop 1 c.args.text.now) in
    c.split_at.ensures.front ∙ ap (λ n. take n text) c.name_length.ensures ∙ ap (before_first is_slash) (take_rest c.args.text.now 1)

pub returns-clause-others : goal.returns-clause-others
returns-clause-others c =
    let text = take (length c.args.text.now - 1) (drop 1 c.args.text.now) in
    c.split_at.ensures.back ∙ ap (λ n. drop n text) c.name_length.ensures ∙ ap (λ (l : List ℕ). drop (position_or_len is_slash l) l) (take_rest c.args.text.now 1)

pub returns-clause-names : goal.returns-clause-names
returns-clause-names c name names good whole =
    let cut = first_spelled c.args.text.now name names good whole in
    (returns-clause-first c ∙ cut.0, returns-clause-others c ∙ cut.1)
