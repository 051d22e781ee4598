use Rattle.std.proofs.Common.{◌∙◌, sym, ap}
use Rattle.std.specs.Option.{option_map}
use Rattle.std.proofs.lemmas.Result.{IfOk-weaker}
use Rattle.nv_session.specs.Machine.{TellsNames}
use Rattle.nv_session.proofs.Moved.{read_moves, unread_moves}
use Rattle.nv_session.proofs.session.Session.list.Goals as goal

pub returns-in_ok-list_text-in-Some : goal.returns-in_ok-list_text-in-Some
returns-in_ok-list_text-in-Some c = read_moves TellsNames c.args.path.now c.args.self.now c.in-Some.mount.now _ (sym c.mount.ensures ∙ ap (option_map (λ mount. mount.now)) c.in-Some.is) c.in_ok-list_text-in-Some.ensures.text

pub returns-in-None : goal.returns-in-None
returns-in-None c = IfOk-weaker c.refused_text.result _ _ (λ text said. unread_moves TellsNames c.args.path.now c.args.self.now _ (sym c.mount.ensures ∙ ap (option_map (λ mount. mount.now)) c.in-None.is) said) c.refused_text.ensures
