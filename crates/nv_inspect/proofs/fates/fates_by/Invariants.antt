use Rattle.std.proofs.Common.{◌≡◌, ◌<◌, ℕ, length, get_or, None}
use Rattle.nv_inspect.specs.declared.fate.Fate.TheVariants.{Stands}
use Rattle.nv_inspect.specs.Held.{fate_with}
use Rattle.nv_inspect.proofs.fates.fates_by.Given as goal

-- the fates of the entries so far
abbrev pub invariant-loop-place : goal.invariant-loop-place
invariant-loop-place l = record {
  long : length l.fates.items ≡ l.place;
  each : (k : ℕ) → k < l.place → get_or l.fates.items k Stands ≡ fate_with l.entries (get_or l.takers k None) (get_or l.holders k None);
}
