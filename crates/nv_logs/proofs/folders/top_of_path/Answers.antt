use Rattle.std.proofs.Common.{arith}
use Rattle.nv_logs.proofs.Tops.{top_of_names, top_of_root}
use Rattle.nv_logs.proofs.folders.top_of_path.Goals as goal

pub returns-then-path-lt2 : goal.returns-then-path-lt2
returns-then-path-lt2 c names is = top_of_root c.args.path.now names is c.if-path-lt2.true

pub returns-else-path-lt2 : goal.returns-else-path-lt2
returns-else-path-lt2 c names is = top_of_names c.args.path.now names is (let long = c.if-path-lt2.false in λ few. omega (arith, few, long))
