use Rattle.std.proofs.Common.{List, ℕ, sym, subst}
use Rattle.std.specs.List.{Contains}
use Rattle.std.proofs.lemmas.Result.{IfOk-weaker}
use Rattle.nv_region.specs.Region.{region_of}
use Rattle.nv_archive.specs.Shown.{bytes_or_none}
use Rattle.nv_archive.proofs.Shows.{used_number}
use Rattle.nv_archive.proofs.shown.ShownInodes.numbers.Goals as goal

pub returns : goal.returns
returns g c = IfOk-weaker c.inode_numbers.result _ _
    (λ numbers are i used. subst (λ (l : List ℕ). Contains l i) (sym are) (used_number (region_of (bytes_or_none (g.B.Blocks.bytes c.args.self.now.source.now))) c.args.self.now.rows.now.items i used))
    c.inode_numbers.ensures
