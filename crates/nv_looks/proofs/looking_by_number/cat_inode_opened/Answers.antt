use Rattle.std.proofs.Common.{ap, inr, length, string_bytes}
use Rattle.std.proofs.KnownBytes.{Keeps-refl}
use Rattle.std.proofs.lemmas.Result.{err_from_is_err_and}
use Rattle.nv_region.specs.Region.{region_of}
use Rattle.nv_looks.specs.LookingByNumber.{GivesInodeBytes}
use Rattle.nv_looks.specs.Sent.{written}
use Rattle.nv_looks.proofs.Looks.{refused_look}
use Rattle.nv_looks.proofs.Cats.{no_zero}
use Rattle.nv_looks.proofs.CatsByNumber.{cat_looks, cat_fails}
use Rattle.nv_looks.proofs.looking_by_number.cat_inode_opened.Goals as goal

pub cat_inode-requires : goal.cat_inode-requires
cat_inode-requires g c = let is = rw c.in-Mounted.is at c.requires.1 in is.5

pub returns-in_ok-status-in-Mounted-clause-ok : goal.returns-in_ok-status-in-Mounted-clause-ok
returns-in_ok-status-in-Mounted-clause-ok g c bytes opened = let is = rw c.in-Mounted.is at opened in
    cat_looks bytes c.args.inode c.in-Mounted.mount is (written (g.W.Write.contents c.args.writer.now) (g.E.Write.contents c.args.errors.now))
    (written (g.W.Write.contents c.cat_inode.new.writer) (g.E.Write.contents c.cat_inode.new.errors)) _ c.in_ok-status-in-Mounted.ensures.ok (ap length c.faults.ensures)

pub returns-in_err-status-in-Mounted-clause-err : goal.returns-in_err-status-in-Mounted-clause-err
returns-in_err-status-in-Mounted-clause-err g c bytes opened =
    let is = rw c.in-Mounted.is at opened in
    let q = err_from_is_err_and c.from_residual.result c.from_residual.ensures.1 in
    rw (q.1, q.2) (cat_fails bytes c.args.inode c.in-Mounted.mount is _ _ _ c.in_err-status-in-Mounted.ensures.err)

pub returns-in_ok-write_text-in-Refused-clause-ok : goal.returns-in_ok-write_text-in-Refused-clause-ok
returns-in_ok-write_text-in-Refused-clause-ok g c bytes opened =
    let look = c.in_ok-look-in-Refused.look in (
      string_bytes look.text,
      refused_look (GivesInodeBytes c.args.inode) (region_of bytes) c.in-Refused.refusal (string_bytes look.text) look.answered (rw c.in-Refused.is at opened) c.in_ok-look-in-Refused.ensures,
      inr (no_zero look.answered.status c.in_ok-look-in-Refused.ensures.0.1, Keeps-refl _, rw c.as_bytes.ensures.value at c.in_ok-write_text-in-Refused.ensures.ok),
    )

pub returns-in_err-write_text-in-Refused-clause-err : goal.returns-in_err-write_text-in-Refused-clause-err
returns-in_err-write_text-in-Refused-clause-err g c bytes opened =
    let look = c.in_ok-look-in-Refused.look in
    let q = err_from_is_err_and c.from_residual-in_err-write_text-in-Refused.result c.from_residual-in_err-write_text-in-Refused.ensures.1 in
    rw (q.1, q.2, c.in_err-write_text-in-Refused.ensures.kind) (
      string_bytes look.text,
      look.answered,
      refused_look (GivesInodeBytes c.args.inode) (region_of bytes) c.in-Refused.refusal (string_bytes look.text) look.answered (rw c.in-Refused.is at opened) c.in_ok-look-in-Refused.ensures,
      inr (no_zero look.answered.status c.in_ok-look-in-Refused.ensures.0.1, Keeps-refl _, rw c.as_bytes.ensures.value at c.in_err-write_text-in-Refused.ensures.err),
    )
