use Rattle.std.proofs.Common.{ap, sym, ◌∙◌}
use Rattle.std.specs.Option.{option_map}
use Rattle.nv_names.specs.Names.{inode_and_place}
use Rattle.nv_names.proofs.Entries.{found_other}
use Rattle.nv_names.proofs.bucket.find_other.Goals as goal

pub returns : goal.returns
returns c = ap (option_map inode_and_place) (c.copied.ensures ∙ c.get.ensures.value) ∙ sym (found_other c.args.others.now.entries c.args.name.now)
