use Rattle.std.proofs.Common.{◌≡◌, ◌∙◌, ℕ, List, Some, length, ap, subst}
use Rattle.std.specs.Prelude.{OnOk, OnErr}
use Rattle.std.specs.Io.KnownBytes.{Appends}
use Rattle.nv_stream.specs.Streams.{AppendsShort}
use Rattle.nv_session.specs.Printed.{bytes_from, digits_of}
use Rattle.nv_session.proofs.FileParts.{piece_is}
use Rattle.nv_session.proofs.parts.write_piece.Goals as goal

pub unreachable-requires : goal.unreachable-requires
unreachable-requires g c =
    let file = c.requires.there.0 in
    let allowed = file.allowed in
    let refused = c.in-Err.ensures.refused file.runs (Some file.names) file.is_path in
    cc

pub returns-clause-ok : goal.returns-clause-ok
returns-clause-ok g c = λ file within.
    let bytes : c.read_into.new.buffer ≡ bytes_from file.node c.args.at (length c.args.bytes.now) = piece_is c.args.mount.now c.args.path.now file c.args.at c.in-Ok._count c.args.bytes.now c.read_into.new.buffer within (c.in-Ok.ensures.ok file.names file.is_path) in
    let digits = c.put_digits.ensures ∙ ap digits_of bytes in
    subst (λ (text : List ℕ). OnOk c.write_text.result (Appends (g.W.Write.contents c.args.writer.now) (g.W.Write.contents c.write_text.new.writer) text)) digits c.write_text.ensures.ok

pub returns-clause-short : goal.returns-clause-short
returns-clause-short g c = λ file within.
    let bytes : c.read_into.new.buffer ≡ bytes_from file.node c.args.at (length c.args.bytes.now) = piece_is c.args.mount.now c.args.path.now file c.args.at c.in-Ok._count c.args.bytes.now c.read_into.new.buffer within (c.in-Ok.ensures.ok file.names file.is_path) in
    let digits = c.put_digits.ensures ∙ ap digits_of bytes in
    subst (λ (text : List ℕ). OnErr c.write_text.result (AppendsShort (g.W.Write.contents c.args.writer.now) (g.W.Write.contents c.write_text.new.writer) text)) digits c.write_text.ensures.short
