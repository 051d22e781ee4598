use Rattle.std.proofs.Common.{[], List, ℕ, sym, subst}
use Rattle.std.specs.List.{Contains}
use Rattle.std.proofs.lemmas.Result.{IfOk-weaker}
use Rattle.nv_region.specs.Region.{region_of}
use Rattle.nv_archive.proofs.Shows.{used_number}
use Rattle.nv_usage.proofs.named.NamedRowsInodes.numbers.Goals as goal

pub returns : goal.returns
returns c = IfOk-weaker c.inode_numbers.result _ _ (λ numbers are i used. subst (λ (l : List ℕ). Contains l i) (sym are) (used_number (region_of []) c.args.self.now.rows.now.items i used)) c.inode_numbers.ensures
