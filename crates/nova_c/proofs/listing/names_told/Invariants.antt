use Rattle.std.proofs.Common.{◌≡◌, take, map}
use Rattle.nv_calls.specs.Listing.{name_and_inode}
use Rattle.nova_c.specs.Told.{names_bytes}
use Rattle.nova_c.proofs.listing.names_told.Given as goal

abbrev pub invariant-loop-named : goal.invariant-loop-named
invariant-loop-named l = l.told.items ≡ names_bytes (map name_and_inode (take l.named-index l.listed))
