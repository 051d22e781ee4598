use Rattle.std.proofs.Common.{◌<◌, ◌%◌, sym, subst, arith}
use Rattle.nv_super.specs.declared.superblock.Super.{Super}
use Rattle.nv_script.proofs.Cleanings.{layout_here}
use Rattle.nv_unpack.specs.declared.maker.Maker.{Maker}
use Rattle.nv_unpack.specs.Turns.{IsMaker}
use Rattle.nv_unpack.proofs.Unused.{of_any}
use Rattle.nv_unpack.proofs.turns.any_cpu.Goals as goal

pub nonzero_rem-result : goal.nonzero_rem-result
nonzero_rem-result c =
    let layout = layout_here c.args.mount.now c.keeps.ensures c.requires in
    subst (λ (s : Super). 0 < s.cpus) (sym c.superblock.ensures) (omega (arith, layout.cpus_from))

pub returns-in-Free : goal.returns-in-Free
returns-in-Free c =
    let m = c.args.mount.now in
    subst (λ (maker : Maker). IsMaker maker m.sup (c.args.hint % c.superblock.result.now.cpus)) (sym c.in-Free.is)
    (of_any m.sup c.superblock.result.now c.superblock.ensures (layout_here m c.keeps.ensures c.requires) c.args.hint)
