use Rattle.std.proofs.Common.{◌∷◌}
use Rattle.std.proofs.lemmas.Bool.{both_ways}
use Rattle.nv_tree.proofs.Texts.{no_path}
use Rattle.nv_tree.proofs.path.is_path.Goals as goal

pub returns-then-text-le-MOST_BYTES-clause-none : goal.returns-then-text-le-MOST_BYTES-clause-none
returns-then-text-le-MOST_BYTES-clause-none c fails = no_path c.args.text.now
    (λ root. both_ways c.is_root.result c.if-is_root.false (c.is_root.ensures.1 root))
    (λ name names s. c.are_names.ensures.none fails (name ∷ names) s)
