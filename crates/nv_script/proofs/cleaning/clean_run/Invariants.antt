use Rattle.std.proofs.Common.{◌≡◌, ◌≤◌, ◌+◌, ◌-◌, ℕ}
use Rattle.nv_script.specs.Cleaning.{HasFewer, HasTurns, IsOneOf, LosesPages}
use Rattle.nv_script.specs.declared.cleaning.Logs.TheVariants as which
use Rattle.nv_script.proofs.cleaning.clean_run.Given as goal

abbrev pub invariant-loop-gone : goal.invariant-loop-gone
invariant-loop-gone l = record {
  within : l.gone ≤ l.count;
  lost : LosesPages l.fn.mount l.mount (IsOneOf (which.Of l.inode)) l.gone;
  fewer : HasFewer l.fn.mount l.mount l.inode l.gone;
  rest : (n : ℕ) → l.gone + n ≡ l.count → HasTurns l.mount l.inode l.dead.first n;
}

abbrev pub decreases-loop-gone : goal.decreases-loop-gone
decreases-loop-gone l = l.count - l.gone
