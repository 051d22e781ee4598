use Rattle.std.proofs.Common.{◌∙◌, ◌<◌, ap, sym, subst}
use Rattle.nv_super.specs.declared.superblock.Super.{Super}
use Rattle.nv_paths.specs.Spots.{or_next}
use Rattle.nv_rows.proofs.TableNumbers.{lowest_in}
use Rattle.nv_paths.proofs.spotting.new_number.Goals as goal

pub lowest_unused-requires : goal.lowest_unused-requires
lowest_unused-requires c = subst (λ (s : Super). c.args.cpu < s.cpus) (sym c.requires.numbers.sup) c.requires.cpu

pub returns-in-Some : goal.returns-in-Some
returns-in-Some c =
    let low = subst (λ (s : Super). c.args.cpu < s.cpus) (sym c.requires.numbers.sup) c.requires.cpu in
    ap (or_next c.args.tables.now.layout c.args.cpu) (sym c.in-Some.is ∙ c.lowest_unused.ensures ∙ lowest_in c.args.tables.now.layout c.args.rows.now c.args.cpu c.requires.numbers low)

pub returns-in-None : goal.returns-in-None
returns-in-None c =
    let low = subst (λ (s : Super). c.args.cpu < s.cpus) (sym c.requires.numbers.sup) c.requires.cpu in
    c.next_in_chain.ensures ∙ ap (or_next c.args.tables.now.layout c.args.cpu) (sym c.in-None.is ∙ c.lowest_unused.ensures ∙ lowest_in c.args.tables.now.layout c.args.rows.now c.args.cpu c.requires.numbers low)
