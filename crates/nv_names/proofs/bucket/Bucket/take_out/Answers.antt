use Rattle.std.proofs.Common.{map, is_some, ap, ◌∙◌, arith}
use Rattle.nv_names.specs.Bucket.{first_line, other_line}
use Rattle.nv_names.proofs.Entries.{found_in-first, found_in-second, some_of}
use Rattle.nv_names.proofs.Keeping.{first_taken, first_there, first_less, other_taken_out, other_less}
use Rattle.nv_names.proofs.bucket.Bucket.take_out.Goals as goal

pub take_first-requires-clause-there : goal.take_first-requires-clause-there
take_first-requires-clause-there c = first_there c.self.inside.first.entries c.self.inside.others.entries c.args.key c.args.name.now _ c.self.invariant c.requires c.in-Some.ensures

pub invariant_of-self : goal.invariant_of-self
invariant_of-self c =
    (first_taken c.self.inside.first.entries c.take_first.new.first.entries c.self.inside.others.entries c.args.key c.args.name.now _ c.self.invariant c.requires c.in-Some.ensures
    c.take_first.ensures.keyed c.take_first.ensures.once (let less = c.take_first.ensures.len in omega (arith, less)) c.take_first.ensures.taken).bucket

pub returns-in-Some-clause-had : goal.returns-in-Some-clause-had
returns-in-Some-clause-had c = rw (← c.self.view_is) (ap is_some (found_in-first (map first_line c.self.inside.first.entries) (map other_line c.self.inside.others.entries) c.args.name.now _ c.in-Some.ensures))

pub returns-in-Some-clause-names : goal.returns-in-Some-clause-names
returns-in-Some-clause-names c =
    rw (← c.self.view_is)
    (first_taken c.self.inside.first.entries c.take_first.new.first.entries c.self.inside.others.entries c.args.key c.args.name.now _ c.self.invariant c.requires c.in-Some.ensures
    c.take_first.ensures.keyed c.take_first.ensures.once (let less = c.take_first.ensures.len in omega (arith, less)) c.take_first.ensures.taken).names

pub returns-in-Some-clause-less : goal.returns-in-Some-clause-less
returns-in-Some-clause-less c = rw (← c.self.view_is) (first_less c.self.inside.first.entries c.take_first.new.first.entries c.self.inside.others.entries c.take_first.ensures.len)

pub returns-in-None-clause-had : goal.returns-in-None-clause-had
returns-in-None-clause-had c =
    rw (← c.self.view_is)
    (c.is_some.ensures
    ∙ some_of c.take_other.result
    ∙ ap is_some (found_in-second (map first_line c.self.inside.first.entries) (map other_line c.self.inside.others.entries) c.args.name.now _ c.in-None.ensures c.take_other.ensures.had))

pub returns-in-None-clause-names : goal.returns-in-None-clause-names
returns-in-None-clause-names c =
    rw (← c.self.view_is)
    (other_taken_out c.self.inside.first.entries c.self.inside.others.entries c.take_other.new.others.entries c.args.name.now c.self.invariant c.in-None.ensures (let less = c.take_other.ensures.len in omega (arith, less))
    c.take_other.ensures.names).names

pub returns-in-None-clause-less : goal.returns-in-None-clause-less
returns-in-None-clause-less c =
    rw (← c.self.view_is, c.is_some.ensures)
    (other_less c.self.inside.first.entries c.self.inside.others.entries c.take_other.new.others.entries _ c.take_other.ensures.len)
