use Rattle.std.proofs.Common.{◌≡◌, map}
use Rattle.nv_names.specs.Names.{HasNames, line_of}
use Rattle.nv_deadpages.specs.Needed.{AreNeeded}
use Rattle.nv_deadpages.proofs.needed.add_named.Given as goal

abbrev pub invariant-loop-k : goal.invariant-loop-k
invariant-loop-k g l = record {
  listed : HasNames l.row.names (map line_of l.listed.items);
  bound : l.needed.bound ≡ l.sup.blocks;
  needed : AreNeeded (g.P.Pmem.region l._memory) l.sup l._created l.row l.fn.needed.blocks → AreNeeded (g.P.Pmem.region l._memory) l.sup l._created l.row l.needed.blocks;
}
