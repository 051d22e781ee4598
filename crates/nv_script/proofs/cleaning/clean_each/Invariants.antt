use Rattle.std.proofs.Common.{◌<◌, ℕ, get_or}
use Rattle.nv_script.specs.Cleaning.{IsOneOf, LosesPages, NeedsPages}
use Rattle.nv_script.specs.declared.cleaning.Logs.TheVariants as which
use Rattle.nv_script.proofs.cleaning.clean_each.Given as goal

abbrev pub invariant-loop-inode : goal.invariant-loop-inode
invariant-loop-inode l = record {
  lost : LosesPages l.fn.mount l.mount (IsOneOf which.All) l.pages;
  done : (k : ℕ) → k < l.inode-index → NeedsPages l.mount.memory.region l.mount.layout (get_or l.numbers k 0);
}
