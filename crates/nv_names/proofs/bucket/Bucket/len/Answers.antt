use Rattle.std.proofs.Common.{map}
use Rattle.std.proofs.lemmas.List.Elements.{recursion_from_All}
use Rattle.nv_names.specs.Bucket.{first_line, other_line}
use Rattle.nv_names.proofs.Beside.{distinct-both, distinct-first, distinct-others}
use Rattle.nv_names.proofs.bucket.Bucket.len.Goals as goal

pub returns-clause-each_once : goal.returns-clause-each_once
returns-clause-each_once c =
    rw (← c.self.view_is)
    (distinct-both (map first_line c.self.inside.first.entries) (map other_line c.self.inside.others.entries)
    (distinct-first c.self.inside.first.entries (recursion_from_All _ _ c.self.invariant.keyed) c.len.ensures.unique)
    (distinct-others c.self.inside.others.entries c.len-2.ensures.ordered) c.self.invariant.apart)
