use Rattle.nv_paths.specs.Seen.{tree_of}
use Rattle.nv_looks.proofs.Cats.{file_ok, file_err, refusal_ok, refusal_err}
use Rattle.nv_looks.proofs.looking.cat_file.Goals as goal

pub returns-in-Ok-clause-ok : goal.returns-in-Ok-clause-ok
returns-in-Ok-clause-ok g c = λ p says. file_ok (tree_of (g.P.Pmem.region c.args.mount.now.memory) c.args.mount.now.rows) c.args.path.now p says _ _ _ (c.in-Ok.ensures.allowed p says) c.write_file.result c.write_file.ensures.ok c.write_file.ensures.status

pub returns-in-Ok-clause-err : goal.returns-in-Ok-clause-err
returns-in-Ok-clause-err g c = λ p says. file_err (tree_of (g.P.Pmem.region c.args.mount.now.memory) c.args.mount.now.rows) c.args.path.now p says _ _ _ (c.in-Ok.ensures.allowed p says) c.write_file.result c.write_file.ensures.err

pub returns-in-Err-clause-ok : goal.returns-in-Err-clause-ok
returns-in-Err-clause-ok g c = λ p says. refusal_ok (tree_of (g.P.Pmem.region c.args.mount.now.memory) c.args.mount.now.rows) c.args.path.now p says _ _ _ c.in-Err.refusal (c.in-Err.ensures.refused c.requires p says) c.write_refusal.result c.write_refusal.ensures.ok

pub returns-in-Err-clause-err : goal.returns-in-Err-clause-err
returns-in-Err-clause-err g c = λ p says. refusal_err (tree_of (g.P.Pmem.region c.args.mount.now.memory) c.args.mount.now.rows) c.args.path.now p says _ _ _ c.in-Err.refusal (c.in-Err.ensures.refused c.requires p says) c.write_refusal.result c.write_refusal.ensures.err
