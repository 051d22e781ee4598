use Rattle.std.proofs.Common.{ap, sym, ◌∙◌}
use Rattle.std.specs.Option.{option_map}
use Rattle.nv_names.specs.Names.{inode_and_place}
use Rattle.nv_names.proofs.Entries.{found_other, other_taken}
use Rattle.nv_names.proofs.bucket.remove_other.Goals as goal

pub returns-clause-had : goal.returns-clause-had
returns-clause-had c = ap (option_map inode_and_place) c.remove.ensures.value ∙ sym (found_other c.args.others.now.entries c.args.name.now)

pub returns-clause-names : goal.returns-clause-names
returns-clause-names c = other_taken c.args.others.now.entries c.remove.new.self.entries c.args.name.now c.remove.ensures.entries c.remove.ensures.updates.1
