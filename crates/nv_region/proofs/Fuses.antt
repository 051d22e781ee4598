-- What a memory's fuse keeps over one step after another.
use Rattle.std.proofs.Common.{ℕ}
use Rattle.nv_region.specs.Fuses.{FuseState, KeepsFuse}

-- what holds of more addresses holds of fewer
pub keeps_within : {behind first : ℕ → Type 0} {old new : FuseState} → ((limit : ℕ) → behind limit → first limit) → KeepsFuse first old new → KeepsFuse behind old new
keeps_within least kept = record {
  burnt = kept.burnt;
  steady = kept.steady;
  stays_open = λ limit past. kept.stays_open limit (least limit past);
}

-- one step more
pub keeps_more : {behind step : ℕ → Type 0} {old mid new : FuseState} → ((limit : ℕ) → behind limit → step limit) → KeepsFuse behind old mid → KeepsFuse step mid new → KeepsFuse behind old new
keeps_more least kept next = record {
  burnt = λ was. next.burnt (kept.burnt was);
  steady = λ was. next.steady (kept.steady was);
  stays_open = λ limit past was. next.stays_open limit (least limit past) (kept.stays_open limit past was);
}
