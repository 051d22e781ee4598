use Rattle.std.proofs.Common.{◌≡◌, ◌++◌, take, flat_map, string_bytes}
use Rattle.nv_text.specs.Names.{hex_byte}
use Rattle.nv_text.proofs.names.push_hex.Given as goal

abbrev pub invariant-loop-byte : goal.invariant-loop-byte
invariant-loop-byte l = string_bytes l.out ≡ string_bytes l.fn.out ++ flat_map hex_byte (take l.byte-index l.bytes)
