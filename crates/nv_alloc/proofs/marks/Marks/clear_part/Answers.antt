use Rattle.std.proofs.Common.{arith}
use Rattle.nv_alloc.proofs.SetParts.{and_part}
use Rattle.nv_alloc.proofs.marks.Marks.clear_part.Goals as goal

pub returns : goal.returns
returns c =
    let within = rw (← c.self.view_is) at c.requires.within in
    rw (c.put.ensures, c.as_slice.ensures.value, ← c.self.view_is)
    (and_part c.self.inside.words.items c.args.from c.args.to c.requires.some c.requires.part within c.mask.result c.mask.ensures.inside c.mask.ensures.outside (omega arith))
