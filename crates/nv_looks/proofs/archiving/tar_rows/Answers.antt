use Rattle.std.proofs.Common.{[], Ok}
use Rattle.std.proofs.lemmas.Result.{err_from_is_err_and}
use Rattle.nv_region.specs.Region.{region_of}
use Rattle.nv_paths.specs.Seen.{tree_of}
use Rattle.nv_archive.specs.Shown.{bytes_or_none}
use Rattle.nv_looks.proofs.Archived.{archive_ok, archive_err, is_named, refused_ok, refused_err, tests_of}
use Rattle.nv_looks.proofs.archiving.tar_rows.Goals as goal

pub write_archive-requires : goal.write_archive-requires
write_archive-requires g c =
    let R = region_of [] in
    let t = tree_of R c.args.rows.now.items in
    let tests = tests_of t c.args.chosen in
    record {
      small = c.requires;
      used = c.in-Ok.ensures.used;
      named = is_named t c.args.chosen tests.0 tests.1 (c.in-Ok.ensures.tests R tests.0 tests.1) c.in-Ok.inode (c.in-Ok.ensures.found R);
    }

pub returns-in-Ok-clause-ok : goal.returns-in-Ok-clause-ok
returns-in-Ok-clause-ok g c = λ known.
    let R = region_of (bytes_or_none (g.B.Blocks.bytes c.args.source.now)) in
    let t = tree_of R c.args.rows.now.items in
    archive_ok t c.args.chosen c.args.all c.in-Ok.inode (c.in-Ok.ensures.found R) (c.in-Ok.ensures.tests R) _ _ _ c.write_archive.result c.told.result c.told.ensures (c.write_archive.ensures.ok known)

pub returns-in-Ok-clause-err : goal.returns-in-Ok-clause-err
returns-in-Ok-clause-err g c = λ known.
    let R = region_of (bytes_or_none (g.B.Blocks.bytes c.args.source.now)) in
    let t = tree_of R c.args.rows.now.items in
    archive_err t c.args.chosen c.args.all c.in-Ok.inode (c.in-Ok.ensures.found R) (c.in-Ok.ensures.tests R) _ _ _ c.write_archive.result c.told.result c.told.ensures (c.write_archive.ensures.err known)

pub returns-in_ok-status-in-Err-clause-ok : goal.returns-in_ok-status-in-Err-clause-ok
returns-in_ok-status-in-Err-clause-ok g c = λ known.
    let R = region_of (bytes_or_none (g.B.Blocks.bytes c.args.source.now)) in
    let t = tree_of R c.args.rows.now.items in
    refused_ok t c.args.chosen c.args.all c.in-Err.refusal (c.in-Err.ensures.tests R) _ _ _ (Ok c.in_ok-status-in-Err.status) c.in_ok-status-in-Err.ensures.ok

pub returns-in_err-status-in-Err-clause-err : goal.returns-in_err-status-in-Err-clause-err
returns-in_err-status-in-Err-clause-err g c = λ known.
    let R = region_of (bytes_or_none (g.B.Blocks.bytes c.args.source.now)) in
    let t = tree_of R c.args.rows.now.items in
    let q = err_from_is_err_and c.from_residual.result c.from_residual.ensures.1 in
    rw (q.1, q.2) (refused_err t c.args.chosen c.args.all c.in-Err.refusal (c.in-Err.ensures.tests R) _ _ _ c.in_err-status-in-Err.field-0.0 c.in_err-status-in-Err.ensures.err)
