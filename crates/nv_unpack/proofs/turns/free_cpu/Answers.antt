use Rattle.std.proofs.Common.{◌<◌, ◌≤◌, ap, refl, subst, sym, arith}
use Rattle.nv_super.specs.declared.superblock.Super.{Super}
use Rattle.nv_paths.specs.Seen.{tree_of}
use Rattle.nv_script.proofs.Cleanings.{layout_here}
use Rattle.nv_unpack.proofs.Unused.{of_some, of_none}
use Rattle.nv_unpack.proofs.turns.free_cpu.Goals as goal

pub nonzero_rem-from : goal.nonzero_rem-from
nonzero_rem-from c =
    let layout = layout_here c.args.mount.now c.keeps.ensures c.requires in
    subst (λ (s : Super). 0 < s.cpus) (sym c.superblock-sup.ensures) (omega (arith, layout.cpus_from))

pub cpu_from-requires-clause-end : goal.cpu_from-requires-clause-end
cpu_from-requires-clause-end c = subst (λ (s : Super). c.superblock-sup.result.now.cpus ≤ s.cpus) c.superblock-sup.ensures (omega arith)

pub overflow_add-hint : goal.overflow_add-hint
overflow_add-hint c =
    let layout = layout_here c.args.mount.now c.keeps.ensures c.requires in
    let some = c.in-Some.ensures.some in
    omega (arith, layout.areas.cpus_to, ap (λ (s : Super). s.cpus) c.superblock-sup.ensures, some.0)

pub returns-in-Some : goal.returns-in-Some
returns-in-Some c =
    let m = c.args.mount.now in
    of_some m.sup (tree_of m.memory.region m.rows) c.superblock-sup.result.now c.superblock-sup.ensures c.in-Some.cpu c.in-Some.ensures.some.0 c.in-Some.ensures.some.1

pub returns-in-None : goal.returns-in-None
returns-in-None c =
    let m = c.args.mount.now in
    let layout = layout_here m c.keeps.ensures c.requires in
    of_none m.sup (tree_of m.memory.region m.rows) c.superblock-sup.result.now c.superblock-sup.ensures (omega (arith, layout.cpus_from)) (c.in-None.ensures.none refl)
