use Rattle.std.proofs.Common.{◌∙◌, sym, ap, subst, string_bytes}
use Rattle.std.specs.Option.{option_map}
use Rattle.std.proofs.lemmas.Result.{IfOk-weaker}
use Rattle.nv_outcome.specs.Outcome.{Outcome}
use Rattle.nv_report.specs.Texts.{IsPartText}
use Rattle.nv_session.proofs.Moved.{seen_moves, unseen_moves}
use Rattle.nv_session.proofs.session.Session.show.Goals as goal

pub returns-in-Some : goal.returns-in-Some
returns-in-Some c = IfOk-weaker c.shown_text.result _ _ (λ text is. seen_moves c.args.part c.args.self.now c.in-Some.mount.now (string_bytes text) (sym c.mount.ensures ∙ ap (option_map (λ mount. mount.now)) c.in-Some.is)
    (subst (λ (o : Outcome). IsPartText c.args.part o (string_bytes text)) c.shown.ensures is)) c.shown_text.ensures

pub returns-in-None : goal.returns-in-None
returns-in-None c = IfOk-weaker c.refused_text.result _ _ (λ text said. unseen_moves c.args.part c.args.self.now _ (sym c.mount.ensures ∙ ap (option_map (λ mount. mount.now)) c.in-None.is) said) c.refused_text.ensures
