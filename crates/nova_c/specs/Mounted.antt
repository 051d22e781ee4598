-- What the handle of an opened image owns.
use Rattle.std.specs.Prelude.{◌≡◌, ℕ, ◌*◌, false, replicate}
use Rattle.nv_region.specs.Region.{Region}
use Rattle.nv_journal.specs.Undo.{undone}
use Rattle.nv_format.specs.Format.{IsFormatted, fresh_super}
use Rattle.nv_calls.specs.Mount.{Mount, has_faults}
use Rattle.nv_calls.specs.Mounting.{TellsOutcome}
use Rattle.nv_lent.specs.WordsState.{region_over}

-- The mount of a region: the outcome that is defined of its bytes, over the region with its journals rolled back. It can only be
-- read where there are faults.
pub record Mounts (R : Region) (m : Mount Region) : Type 0 where
  pub outcome : TellsOutcome R m
  pub undone : m.memory ≡ undone m.sup R
  pub read_only : m.read_only ≡ has_faults m.faults
  pub runs : m.stopped ≡ false

-- so many blocks of zeros
abbrev pub blank : ℕ → Region
blank blocks = region_over (replicate (512 * blocks) 0)

-- The mount of blocks of zeros that were formatted.
pub record MountsFormatted (blocks cpus tables time : ℕ) (m : Mount Region) : Type 0 where
  pub region : Region
  pub formatted : IsFormatted (blank blocks) region (fresh_super (blank blocks) cpus tables) time
  pub mounts : Mounts region m
