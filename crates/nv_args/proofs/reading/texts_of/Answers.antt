use Rattle.std.proofs.Common.{◌∙◌, Some, map, ap, sym}
use Rattle.clap.specs.Matches.{found_of}
use Rattle.clap.proofs.WalkLemmas.{raw_values-rows}
use Rattle.nv_args.proofs.reading.texts_of.Goals as goal

pub returns-in_ok-copies-in-Some : goal.returns-in_ok-copies-in-Some
returns-in_ok-copies-in-Some c =
    sym (raw_values-rows (found_of c.args.values.now) c.args.name.now) ∙ sym c.in-Some.ensures
    ∙ ap (λ texts. Some (map (λ text. text.now) texts)) (sym c.in_ok-copies-in-Some.ensures)

pub returns-in-None : goal.returns-in-None
returns-in-None c = sym (raw_values-rows (found_of c.args.values.now) c.args.name.now) ∙ sym c.in-None.ensures
