use Rattle.std.proofs.Common.{◌≤◌, ◌+◌, ◌-◌, ℕ}
use Rattle.nv_script.specs.Cleaning.{HasAtMost, IsOneOf, LosesPages}
use Rattle.nv_script.specs.declared.cleaning.Logs.TheVariants as which
use Rattle.nv_script.proofs.cleaning.clean_log.Given as goal

abbrev pub invariant-loop-gone : goal.invariant-loop-gone
invariant-loop-gone l = record {
  lost : LosesPages l.fn.mount l.mount (IsOneOf (which.Of l.inode)) l.gone;
  left : (n : ℕ) → l.pages ≤ l.gone + n → HasAtMost l.mount l.inode n;
}

abbrev pub decreases-loop-gone : goal.decreases-loop-gone
decreases-loop-gone l = l.pages - l.gone
