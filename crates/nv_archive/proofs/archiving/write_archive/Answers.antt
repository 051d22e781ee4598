use Rattle.std.proofs.Common.{ℕ, List, length, ap, sym, subst, arith}
use Rattle.nv_region.specs.Region.{region_of}
use Rattle.nv_tar.proofs.Fronts.{on_err}
use Rattle.nv_archive.specs.Chosen.{IsBase}
use Rattle.nv_archive.specs.Shown.{bytes_or_none, shown_tree}
use Rattle.nv_archive.proofs.Shows.{tree_in_use}
use Rattle.nv_archive.proofs.Archived.{base_short, archive_fails}
use Rattle.nv_archive.proofs.archiving.write_archive.Goals as goal

pub write_tar-requires-clause-used : goal.write_tar-requires-clause-used
write_tar-requires-clause-used g c = tree_in_use (region_of (bytes_or_none (g.B.Blocks.bytes c.args.source.now))) c.args.rows.now.items c.args.inode c.requires.used

pub write_tar-requires-clause-short : goal.write_tar-requires-clause-short
write_tar-requires-clause-short g c =
    let short = base_short c.args.chosen c.args.inode c.in_ok-base.base.items c.requires.named c.ranges.inode.fits c.in_ok-base.ensures in
    let same = ap (length {A = ℕ}) c.deref.ensures.value in
    omega (arith, short, same)

pub returns-clause-err : goal.returns-clause-err
returns-clause-err g c = λ known.
    let t = shown_tree (g.B.Blocks.bytes c.args.source.now) c.args.rows.now.items in
    let is = subst (λ (base : List ℕ). IsBase c.args.chosen base) (sym c.deref.ensures.value) c.in_ok-base.ensures in
    on_err c.write_tar.result _ _ (c.write_tar.ensures.err known) (λ e f. archive_fails t c.args.chosen c.args.inode c.args.all c.deref.result.now is e _ _ f)
