-- How a region over borrowed bytes holds the words of its front.
use Rattle.std.specs.Prelude.{◌*◌, ◌≤◌, ◌^◌, length, vec_capacity}
use Rattle.nv_region.specs.declared.image.ImageRegion.TheInside.{Inside}

-- The first words of the front are copied from the bytes, of which there are few enough. There is room for all words that take stores.
pub record HasFront (m : Inside) : Type 0 where
  pub copied : length m.front.items ≤ m.limit
  pub within : 8 * m.limit ≤ length m.bytes.now
  pub room : m.limit ≤ vec_capacity m.front
  pub small : length m.bytes.now ≤ 2 ^ 30
