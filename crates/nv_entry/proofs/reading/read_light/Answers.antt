use Rattle.std.proofs.Common.{arith, ◌≡◌, ◌%◌}
use Rattle.std.proofs.lemmas.Result.{on_err_weaker}
use Rattle.nv_region.specs.Region.{word}
use Rattle.nv_entry.proofs.ByKind.{no_write, no_attr, no_links}
use Rattle.nv_entry.proofs.reading.read_light.Goals as goal

pub returns-in-None-clause-none : goal.returns-in-None-clause-none
returns-in-None-clause-none g c =
    let kind : word (g.P.Pmem.region c.args.memory.now) c.args.at % 256 ≡ 1 = omega arith in
    no_write _ _ c.args.room kind c.in-None.ensures.none

pub returns-in-2-clause-none : goal.returns-in-2-clause-none
returns-in-2-clause-none g c =
    let kind : word (g.P.Pmem.region c.args.memory.now) c.args.at % 256 ≡ 2 = omega arith in
    on_err_weaker _ (no_attr _ _ c.args.room kind) c.read_attr.ensures.none

pub returns-in-4-clause-none : goal.returns-in-4-clause-none
returns-in-4-clause-none g c =
    let kind : word (g.P.Pmem.region c.args.memory.now) c.args.at % 256 ≡ 4 = omega arith in
    on_err_weaker _ (no_links _ _ c.args.room kind) c.read_links.ensures.none
