use Rattle.std.proofs.Common.{◌≡◌, ◌*◌, take, flat_map}
use Rattle.nv_text.specs.Names.{hex_byte}
use Rattle.nv_text.proofs.digits.put_digits.Given as goal

-- the digits of the bytes so far stand in their places
abbrev pub invariant-loop-index : goal.invariant-loop-index
invariant-loop-index l = take (2 * l.index) l.digits ≡ flat_map hex_byte (take l.index l.bytes)
