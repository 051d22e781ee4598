use Rattle.std.proofs.Common.{◌≡◌, ℕ, inl, inr, List, length, subst}
use Rattle.std.specs.List.{Contains}
use Rattle.std.proofs.lemmas.Result.{on_ok_weaker}
use Rattle.nv_deadpages.proofs.Pairing.{unpaired_needed}
use Rattle.nv_deadpages.proofs.pairs.add_unpaired.Goals as goal

pub find_unpaired-requires-clause-none : goal.find_unpaired-requires-clause-none
find_unpaired-requires-clause-none g c = c.new-fold.ensures c.args.sup.now c.args.row.now.kind c.args.row.now.inode

pub returns-clause-needed : goal.returns-clause-needed
returns-clause-needed g c =
    let fold = c.find_unpaired.new.fold in
    let none : length fold.faults.items ≡ 0 = c.is_right.ensures c.if-not-is_right.false in
    on_ok_weaker c.add_blocks.result (λ only before b there. elim (only b there) [
      | inl w ↦ unpaired_needed (g.P.Pmem.region c.args.memory.now) c.args.sup.now c.args.row.now c.args.created fold c.find_unpaired.new.found.blocks c.find_unpaired.new.reader.pages c.in_ok-_fault._fault none c.in_ok-_fault.ensures.unpaired b
          (subst (λ (bs : List ℕ). Contains bs b) c.as_slice.ensures w)
      | inr w ↦ before b w
    ]) c.add_blocks.ensures.only
