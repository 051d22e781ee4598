-- What a reader of an image's bytes gives.
use Rattle.std.specs.Prelude.{◌≡◌, ◌≤◌, ◌+◌, ℕ, List, length, take, drop}

-- these are bytes of the image, from this one on and as many as were asked for
pub record AreBytesAt (bytes : List ℕ) (at : ℕ) (given : List ℕ) : Type 0 where
  pub within : at + length given ≤ length bytes
  pub same : given ≡ take (length given) (drop at bytes)
