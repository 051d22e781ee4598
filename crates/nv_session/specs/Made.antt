-- What making a region may answer.
use Rattle.std.specs.Prelude.{◌≡◌, ◌≢◌, IsTrue, ℕ, Bool}
use Rattle.nv_region.specs.Region.{size}
use Rattle.nv_format.specs.Format.{IsFormatRefusal, CanFormat, IsFormatted, FormatLeaves, fresh_super}
use Rattle.nv_format.specs.declared.formatting.FormatRefusal.TheVariants.{Stopped}
use Rattle.nv_session.specs.Machine.{zeros}
use Rattle.nv_session.specs.Sessions.{IsSettled}
use Rattle.nv_session.specs.declared.making.Made as making
use Rattle.nv_session.specs.declared.making.Made.TheVariants as made

-- a formatted region, or the first refusal that applies, which is no stop, or what a stop left, where it may come. Nothing is
-- pending in what is made.
abbrev pub MayMake : Bool → ℕ → ℕ → ℕ → ℕ → making.Made → Type 0
MayMake armed cpus blocks tables time (made.Region memory) = IsFormatted (zeros blocks) memory.region (fresh_super (zeros blocks) cpus tables) time × IsSettled memory
MayMake armed cpus blocks tables time (made.Refused refusal) = IsFormatRefusal (zeros blocks) cpus tables refusal × (refusal ≢ Stopped)
MayMake armed cpus blocks tables time (made.Stopped memory) = IsTrue armed × CanFormat (zeros blocks) cpus tables × (size memory.region ≡ size (zeros blocks))
    × FormatLeaves (zeros blocks) (fresh_super (zeros blocks) cpus tables) time memory.region × IsSettled memory
