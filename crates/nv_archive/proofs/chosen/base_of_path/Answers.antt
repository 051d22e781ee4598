use Rattle.std.proofs.Common.{arith}
use Rattle.nv_archive.proofs.Named.{base_of_root, base_of_names}
use Rattle.nv_archive.proofs.chosen.base_of_path.Goals as goal

pub returns-then-path-lt2 : goal.returns-then-path-lt2
returns-then-path-lt2 c names s = base_of_root c.args.path.now names s c.if-path-lt2.true

pub returns-else-path-lt2 : goal.returns-else-path-lt2
returns-else-path-lt2 c names s = base_of_names c.args.path.now c.last_name.result.now names s (let long = c.if-path-lt2.false in λ few. omega (arith, few, long)) c.last_name.ensures
