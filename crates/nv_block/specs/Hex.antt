-- The bytes of a block in rows of 16, each with the address of its first byte, all in hexadecimal digits.
use Rattle.std.specs.Prelude.{ℕ, ◌+◌, ◌*◌, ◌/◌, ◌%◌, ◌^◌, List, ◌++◌, flat_map, length, take, drop, codes}
use Rattle.std.specs.Int.{div_ceil}
use Rattle.std.specs.List.{range_with_len}
use Rattle.nv_text.specs.Answers.{line}
use Rattle.nv_text.specs.Names.{hex_byte}

-- an address in eight digits
abbrev pub address_text : ℕ → List ℕ
address_text at = hex_byte (at / 2 ^ 24 % 256) ++ hex_byte (at / 2 ^ 16 % 256) ++ hex_byte (at / 2 ^ 8 % 256) ++ hex_byte (at % 256)

-- a byte behind a space
abbrev pub spaced_byte : ℕ → List ℕ
spaced_byte b = codes " " ++ hex_byte b

-- the row of these bytes, the first of them at an address
abbrev pub row_text : ℕ → List ℕ → List ℕ
row_text at row = address_text at ++ codes " " ++ line (flat_map spaced_byte row)

-- row k of some bytes
abbrev pub row_at : ℕ → List ℕ → ℕ → List ℕ
row_at at bytes k = row_text (at + 16 * k) (take 16 (drop (16 * k) bytes))

-- all rows
abbrev pub hex_text : ℕ → List ℕ → List ℕ
hex_text at bytes = flat_map (row_at at bytes) (range_with_len 0 (div_ceil (length bytes) 16))

-- the bytes of a block of an image
abbrev pub block_bytes : List ℕ → ℕ → List ℕ
block_bytes bytes b = take 4096 (drop (4096 * b) bytes)
