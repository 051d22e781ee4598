use Rattle.std.proofs.Common.{List, ℕ, sym, subst, arith}
use Rattle.nv_metadata.specs.Gathered.{SaysSuper}
use Rattle.nv_metadata.proofs.gathering.read_accepted_on.Goals as goal

pub returns-then-sup-eq-WITH_CHAINS-clause-sound : goal.returns-then-sup-eq-WITH_CHAINS-clause-sound
returns-then-sup-eq-WITH_CHAINS-clause-sound g c =
    let read = c.in_ok-bytes.ensures in (
      c.requires.layout,
      record {
        version = c.if-sup-eq-WITH_CHAINS.true;
        superblock = subst (λ (l : List ℕ). SaysSuper l c.args.sup) (sym read.begins) c.requires.says;
        count = read.count;
      },
    )

pub returns-clause-sound : goal.returns-clause-sound
returns-clause-sound g c =
    let read = c.in_ok-system.ensures in
    let count = read.count in
    let from = c.requires.layout.version_from in
    let to = c.requires.layout.version_to in (
      c.requires.layout,
      omega (arith, from, to, c.if-sup-eq-WITH_CHAINS.false),
      record {
        begins = omega (arith, count, c.system_blocks.ensures);
        whole = omega (arith, count);
        ends = omega (arith, count, c.system_blocks.ensures);
        superblock = subst (λ (l : List ℕ). SaysSuper l c.args.sup) (sym read.begins) c.requires.says;
      },
      omega (arith, count, c.system_blocks.ensures),
    )
