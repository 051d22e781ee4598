use Rattle.std.proofs.Common.{◌≡◌, ◌++◌, ℕ, List, length}
use Rattle.nv_super.specs.declared.owners.Owner.{Owner}
use Rattle.nv_super.specs.declared.owners.Owner.TheVariants.{Data}
use Rattle.nv_super.specs.Owners.{pairs}
use Rattle.nv_outcome.specs.Parts.{AreMaps}
use Rattle.nv_recover.proofs.sets.fill_blocks.Given as goal

abbrev pub invariant-loop-by : goal.invariant-loop-by
invariant-loop-by l = record {
  first_long : length l.first ≡ length l.fn.first;
  second_long : length l.second ≡ length l.fn.second;
  maps : (before : List (ℕ × Owner)) → AreMaps before l.fn.first l.fn.second → AreMaps (before ++ pairs l.run.block (Data l._inode l.run.page) l.by) l.first l.second;
}
