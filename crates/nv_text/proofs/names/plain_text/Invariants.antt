use Rattle.std.proofs.Common.{◌≡◌, take}
use Rattle.nv_text.specs.Names.{escaped}
use Rattle.nv_text.proofs.names.plain_text.Given as goal

-- the bytes so far are printed as they are
abbrev pub invariant-loop-byte : goal.invariant-loop-byte
invariant-loop-byte l = escaped (take l.byte-index l.name) ≡ take l.byte-index l.name
