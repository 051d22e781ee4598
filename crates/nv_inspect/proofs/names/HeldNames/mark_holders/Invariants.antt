use Rattle.std.proofs.Common.{map}
use Rattle.nv_names.specs.Names.{HasNames, line_of}
use Rattle.nv_inspect.specs.Held.{Marks}
use Rattle.nv_inspect.proofs.ListedNames.{TellsOf}
use Rattle.nv_inspect.proofs.names.HeldNames.mark_holders.Given as goal

-- the holders in the lines so far are marked
abbrev pub invariant-loop-k : goal.invariant-loop-k
invariant-loop-k l = record {
  listed : HasNames l.self.holders (map line_of l.listed.items);
  marked : Marks l.by (TellsOf l.listed.items l.k) l.fn.marks l.marks;
}
