-- How a region in memory is held, beside its words and those at the last fence.
use Rattle.std.specs.Prelude.{◌≡◌, ◌<◌, ◌≤◌, ◌^◌, length}
use Rattle.nv_region.specs.Recent.{AreHeld}
use Rattle.nv_region.specs.declared.memory.MemRegion.TheInside.{Inside}

-- what holds of a memory at all times: fewer than 8 bytes behind its words, at most 2^27 words, lines of as many, and recent stores that led to these words
pub record IsTracked (m : Inside) : Type 0 where
  pub short : length m.rest.items < 8
  pub small : length m.words.items ≤ 2 ^ 27
  pub count : m.stored.total ≡ length m.words.items
  pub held : AreHeld m.recent m.words.items
