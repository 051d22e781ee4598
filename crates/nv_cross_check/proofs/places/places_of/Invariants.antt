use Rattle.std.proofs.Common.{◌≡◌, ◌≤◌, ◌+◌, length}
use Rattle.nv_cross_check.specs.Listings.{inodes_of}
use Rattle.nv_cross_check.specs.Words.{places_in}
use Rattle.nv_cross_check.specs.Steps.{ArePlacesTo}
use Rattle.nv_cross_check.proofs.places.places_of.Given as goal

abbrev pub invariant-loop-place : goal.invariant-loop-place
invariant-loop-place l = (length l.words.items ≡ l.end) × ArePlacesTo (inodes_of l.listings) l.place (places_in l.words.items) × (length l.listings ≤ l.place + l.words.room)
