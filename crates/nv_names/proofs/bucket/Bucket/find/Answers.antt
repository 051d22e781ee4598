use Rattle.std.proofs.Common.{map}
use Rattle.nv_names.specs.Bucket.{first_line, other_line}
use Rattle.nv_names.proofs.Entries.{found_in-first, found_in-second}
use Rattle.nv_names.proofs.bucket.Bucket.find.Goals as goal

pub returns-in-Some : goal.returns-in-Some
returns-in-Some c = rw (← c.self.view_is) (found_in-first (map first_line c.self.inside.first.entries) (map other_line c.self.inside.others.entries) c.args.name.now _ c.in-Some.ensures)

pub returns-in-None : goal.returns-in-None
returns-in-None c =
    rw (← c.self.view_is) (found_in-second (map first_line c.self.inside.first.entries) (map other_line c.self.inside.others.entries) c.args.name.now _ c.in-None.ensures c.find_other.ensures)
