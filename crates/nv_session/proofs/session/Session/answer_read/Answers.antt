use Rattle.std.proofs.Common.{◌∙◌, sym, ap}
use Rattle.std.specs.Option.{option_map}
use Rattle.nv_session.specs.Machine.{TellsBytes}
use Rattle.nv_session.proofs.Moved.{read_moves}
use Rattle.nv_session.proofs.FileParts.{part_prints}
use Rattle.nv_session.proofs.session.Session.answer_read.Goals as goal

pub returns-in-Some-2 : goal.returns-in-Some-2
returns-in-Some-2 c =
    let there = sym c.mount.ensures ∙ ap (option_map (λ mount. mount.now)) c.in-Some.is in
    let long = rw c.in-Some-2.is at c.in_ok-part.ensures in
    let w = part_prints c.args.self.now c.in-Some.mount.now c.args.path.now c.args.offset c.args.count c.in-Some-2.part there long in
    (w.0, w.1, read_moves (TellsBytes c.args.offset c.args.count) c.args.path.now c.args.self.now c.in-Some.mount.now w.0 there (λ runs p says. w.2 p says))
