use Rattle.std.proofs.Common.{◌∙◌, List, ℕ, sym, ap, subst}
use Rattle.std.specs.Prelude.{OnOk, OnErr}
use Rattle.std.specs.Option.{option_map}
use Rattle.std.specs.Io.KnownBytes.{Appends}
use Rattle.nv_stream.specs.Streams.{AppendsShort}
use Rattle.nv_session.proofs.FileParts.{shows_there}
use Rattle.nv_session.proofs.session.Session.print.Goals as goal

pub write_part-requires : goal.write_part-requires
write_part-requires g c =
    let there = sym c.mount.ensures ∙ ap (option_map (λ mount. mount.now)) c.in-Some.is in
    let shows = shows_there c.args.self.now c.in-Some.mount.now c.args.printed c.in-Part.part c.requires.0 c.in-Part.is there c.requires.1 in
    (shows.0, shows.1)

pub returns-in-Some-clause-ok : goal.returns-in-Some-clause-ok
returns-in-Some-clause-ok g c = λ said prints.
    let there = sym c.mount.ensures ∙ ap (option_map (λ mount. mount.now)) c.in-Some.is in
    let shows = shows_there c.args.self.now c.in-Some.mount.now c.args.printed c.in-Part.part said c.in-Part.is there prints in
    subst (λ (text : List ℕ). OnOk c.write_part.result (Appends (g.W.Write.contents c.args.writer.now) (g.W.Write.contents c.write_part.new.writer) text)) (sym shows.2) (c.write_part.ensures.ok shows.0 shows.1)

pub returns-in-Some-clause-short : goal.returns-in-Some-clause-short
returns-in-Some-clause-short g c = λ said prints.
    let there = sym c.mount.ensures ∙ ap (option_map (λ mount. mount.now)) c.in-Some.is in
    let shows = shows_there c.args.self.now c.in-Some.mount.now c.args.printed c.in-Part.part said c.in-Part.is there prints in
    subst (λ (text : List ℕ). OnErr c.write_part.result (AppendsShort (g.W.Write.contents c.args.writer.now) (g.W.Write.contents c.write_part.new.writer) text)) (sym shows.2) (c.write_part.ensures.short shows.0 shows.1)
