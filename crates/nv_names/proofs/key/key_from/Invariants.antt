use Rattle.std.proofs.Common.{◌≡◌, drop}
use Rattle.std.specs.List.{fold}
use Rattle.nv_names.specs.Keys.{with_digit}
use Rattle.nv_names.proofs.key.key_from.Given as goal

-- the bytes to come make the key of all
abbrev pub invariant-loop-byte : goal.invariant-loop-byte
invariant-loop-byte l = fold with_digit l.key (drop l.byte-index l.bytes) ≡ fold with_digit l.number l.bytes
