use Rattle.std.proofs.Common.{is_some, ap, sym, ◌∙◌}
use Rattle.nv_history.proofs.NewNumbers.{numbers_same}
use Rattle.nv_unpack.proofs.turns.has_number.Goals as goal

pub returns : goal.returns
returns c = c.is_some.ensures ∙ ap is_some (c.new_number-number.ensures ∙ sym (numbers_same c.keeps.ensures c.requires.can.runs c.requires.can.writes c.args.cpu c.requires.cpu))
