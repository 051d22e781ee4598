use Rattle.std.proofs.Common.{ap, inr, length, string_bytes, subst}
use Rattle.std.proofs.KnownBytes.{Keeps-refl}
use Rattle.std.proofs.lemmas.Result.{err_from_is_err_and}
use Rattle.nv_region.specs.Region.{region_of}
use Rattle.nv_looks.specs.Looking.{GivesBytes}
use Rattle.nv_looks.specs.Gathered.{IsOpenedOf, is_whole}
use Rattle.nv_looks.specs.Sent.{written}
use Rattle.nv_looks.proofs.Cats.{no_zero}
use Rattle.nv_looks.proofs.Opened.{look_refused}
use Rattle.nv_looks.proofs.Filed.{cat_opened, cat_opened_fails, opened_small}
use Rattle.nv_looks.proofs.ReadFrom.{read_there}
use Rattle.nv_looks.proofs.catting.cat_opened.Goals as goal

pub cat_mounted-requires : goal.cat_mounted-requires
cat_mounted-requires g c = opened_small c.requires.0 c.in-Mounted.mount (subst (IsOpenedOf c.requires.0) c.in-Mounted.is c.requires.1)

pub returns-in_ok-status-in-Mounted-clause-ok : goal.returns-in_ok-status-in-Mounted-clause-ok
returns-in_ok-status-in-Mounted-clause-ok g c of bytes opened wholly known are =
    let is = subst (IsOpenedOf of) c.in-Mounted.is opened in
    let old = written (g.W.Write.contents c.args.writer.now) (g.E.Write.contents c.args.errors.now) in
    let new = written (g.W.Write.contents c.cat_mounted.new.writer) (g.E.Write.contents c.cat_mounted.new.errors) in
    cat_opened bytes c.args.path.now of are c.in-Mounted.mount is old new _
    (λ Q reads p says. c.in_ok-status-in-Mounted.ensures.ok Q (read_there c.args.whole (is_whole of) (g.B.Blocks.bytes c.args.source.now) bytes c.in-Mounted.mount.memory Q c.in-Mounted.mount.rows wholly known reads) p says)
    (ap length c.faults.ensures)

pub returns-in_err-status-in-Mounted-clause-err : goal.returns-in_err-status-in-Mounted-clause-err
returns-in_err-status-in-Mounted-clause-err g c of bytes opened wholly known are =
    let is = subst (IsOpenedOf of) c.in-Mounted.is opened in
    let old = written (g.W.Write.contents c.args.writer.now) (g.E.Write.contents c.args.errors.now) in
    let new = written (g.W.Write.contents c.cat_mounted.new.writer) (g.E.Write.contents c.cat_mounted.new.errors) in
    let e = c.in_err-status-in-Mounted.field-0.0 in
    let q = err_from_is_err_and c.from_residual.result c.from_residual.ensures.1 in
    rw (q.1, q.2) (cat_opened_fails bytes c.args.path.now of are c.in-Mounted.mount is old new e
    (λ Q reads p says. c.in_err-status-in-Mounted.ensures.err Q (read_there c.args.whole (is_whole of) (g.B.Blocks.bytes c.args.source.now) bytes c.in-Mounted.mount.memory Q c.in-Mounted.mount.rows wholly known reads) p says))

pub returns-in_ok-write_text-in-Refused-clause-ok : goal.returns-in_ok-write_text-in-Refused-clause-ok
returns-in_ok-write_text-in-Refused-clause-ok g c of bytes opened wholly known are =
    let look = c.in_ok-look-in-Refused.look in (
      string_bytes look.text,
      look_refused (GivesBytes c.args.path.now) (region_of bytes) (string_bytes look.text) look.answered of are c.in-Refused.refusal (subst (IsOpenedOf of) c.in-Refused.is opened) c.in_ok-look-in-Refused.ensures,
      inr (no_zero look.answered.status c.in_ok-look-in-Refused.ensures.0.1, Keeps-refl _, rw c.as_bytes.ensures.value at c.in_ok-write_text-in-Refused.ensures.ok),
    )

pub returns-in_err-write_text-in-Refused-clause-err : goal.returns-in_err-write_text-in-Refused-clause-err
returns-in_err-write_text-in-Refused-clause-err g c of bytes opened wholly known are =
    let look = c.in_ok-look-in-Refused.look in
    let q = err_from_is_err_and c.from_residual-in_err-write_text-in-Refused.result c.from_residual-in_err-write_text-in-Refused.ensures.1 in
    rw (q.1, q.2, c.in_err-write_text-in-Refused.ensures.kind) (
      string_bytes look.text,
      look.answered,
      look_refused (GivesBytes c.args.path.now) (region_of bytes) (string_bytes look.text) look.answered of are c.in-Refused.refusal (subst (IsOpenedOf of) c.in-Refused.is opened) c.in_ok-look-in-Refused.ensures,
      inr (no_zero look.answered.status c.in_ok-look-in-Refused.ensures.0.1, Keeps-refl _, rw c.as_bytes.ensures.value at c.in_err-write_text-in-Refused.ensures.err),
    )
