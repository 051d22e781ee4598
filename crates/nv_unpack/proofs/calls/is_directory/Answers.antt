use Rattle.std.proofs.Common.{◌≡◌, IsTrue, rules}
use Rattle.nv_super.specs.declared.kind.Kind.TheVariants.{Directory}
use Rattle.nv_paths.specs.Seen.{tree_of}
use Rattle.nv_unpack.proofs.Standing.{directory_told, refused_no_directory, told_directory}
use Rattle.nv_unpack.proofs.calls.is_directory.Goals as goal

pub returns-in-Ok : goal.returns-in-Ok
returns-in-Ok c =
    let t = tree_of c.args.mount.now.memory.region c.args.mount.now.rows in
    let is : IsTrue c.eq.result → c.in-Ok.stat.kind ≡ Directory = search rules in
    let on : c.in-Ok.stat.kind ≡ Directory → IsTrue c.eq.result = search rules in (
      (λ told. directory_told t c.args.path.now c.in-Ok.stat c.in-Ok.ensures.ok c.in-Ok.ensures.allowed (is told)),
      (λ there. on (told_directory t c.args.path.now c.in-Ok.stat c.in-Ok.ensures.ok there)),
    )

pub returns-in-Err : goal.returns-in-Err
returns-in-Err c = (
  (λ off. absurd (cc)),
  (λ there. absurd (refused_no_directory (tree_of c.args.mount.now.memory.region c.args.mount.now.rows) c.args.path.now c.in-Err.field-0 (c.in-Err.ensures.refused c.requires) there)),
)
