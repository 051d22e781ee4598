use Rattle.std.proofs.Common.{length, ap, ◌∙◌}
use Rattle.std.specs.Option.{unwrap_or}
use Rattle.nv_tree.proofs.Spelled.{slash_or_end}
use Rattle.nv_tree.proofs.path.name_length.Goals as goal

pub returns : goal.returns
returns c = c.unwrap_or.ensures ∙ ap (λ o. unwrap_or o (length c.args.bytes.now)) c.first_slash.ensures ∙ slash_or_end c.args.bytes.now
