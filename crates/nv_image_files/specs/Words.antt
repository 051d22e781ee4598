-- The texts of the words that a program was started with.
use Rattle.std.specs.Prelude.{◌≡◌, ◌↔◌, ℕ, List, map, IsTrue, All, string_bytes}
use Rattle.std.specs.Str.{IsUtf8}
use Rattle.std.specs.Str.Lossy.{utf8_lossy}
use Rattle.nv_image_files.specs.declared.words.Words.{Words}

-- The texts stand for some words, each with U+FFFD for what isn't UTF-8, and it is told whether all these words are UTF-8.
-- Nothing says which words they are: the kit's contract of the arguments tells no bytes.
abbrev pub AreTexts : Words → Type 0
AreTexts words = (all : List (List ℕ)) × (map string_bytes words.texts.items ≡ map utf8_lossy all) × (IsTrue words.are_utf8 ↔ All IsUtf8 all)
