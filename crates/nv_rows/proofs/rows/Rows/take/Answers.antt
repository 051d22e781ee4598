use Rattle.std.proofs.Common.{is_some, sym, ap, ◌∙◌}
use Rattle.std.proofs.lemmas.Bool.{true≢false}
use Rattle.nv_rows.specs.Rows.{place_in}
use Rattle.nv_rows.proofs.Places.{is_place}
use Rattle.nv_rows.proofs.rows.Rows.take.Goals as goal

pub returns-clause-rows : goal.returns-clause-rows
returns-clause-rows c = c.remove.ensures.rows (place_in c.args.self.now.items c.args.inode) (is_place c.args.self.now.items c.args.inode c.in-Some.row (sym c.in-Some.ensures.row))

pub unreachable-requires : goal.unreachable-requires
unreachable-requires c = true≢false (sym c.requires ∙ ap is_some (sym c.in-None.ensures.row))

pub returns-clause-row : goal.returns-clause-row
returns-clause-row c = sym c.in-Some.ensures.row

pub returns-clause-number : goal.returns-clause-number
returns-clause-number c = c.in-Some.ensures.number.0

pub returns-clause-within : goal.returns-clause-within
returns-clause-within c = c.in-Some.ensures.number.1

pub returns-clause-gone : goal.returns-clause-gone
returns-clause-gone c = c.in-Some.ensures.gone

pub returns-clause-sup : goal.returns-clause-sup
returns-clause-sup c = c.in-Some.ensures.sup

pub returns-clause-sizes : goal.returns-clause-sizes
returns-clause-sizes c = c.in-Some.ensures.sizes

pub returns-clause-room : goal.returns-clause-room
returns-clause-room c = c.in-Some.ensures.freed
