use Rattle.std.proofs.Common.{ap, sym, ◌∙◌}
use Rattle.std.specs.Option.{option_map}
use Rattle.std.specs.Map.{lookup}
use Rattle.nv_names.specs.Names.{inode_and_place}
use Rattle.nv_names.proofs.Entries.{found_other, has_bytes, other_put}
use Rattle.nv_names.proofs.bucket.put_other.Goals as goal

pub returns-clause-had : goal.returns-clause-had
returns-clause-had c =
    ap (option_map inode_and_place) (c.in_ok-insert.ensures.old ∙ ap (λ bytes. lookup (has_bytes bytes) c.args.others.now.entries) c.in_ok-bytes.ensures.items)
    ∙ sym (found_other c.args.others.now.entries c.args.name.now)

pub returns-clause-ok : goal.returns-clause-ok
returns-clause-ok c = other_put c.args.others.now.entries c.insert.new.self.entries c.in_ok-bytes.bytes c.args.target c.args.name.now c.in_ok-bytes.ensures.items c.in_ok-insert.ensures.entries
