-- What the words of a command that changes an image ask for: modes, owners and groups.
use Rattle.std.specs.Prelude.{◌≡◌, ◌<◌, ◌^◌, ℕ, Bool, eqb, length, Option, Some, None}
use Rattle.std.specs.List.{after_first, before_first, position_or_len}
use Rattle.std.specs.Str.Parse.{IsNumeral, digits_value, without_leading_plus}
use Rattle.clap.specs.Walk.{Text}

-- the text is an octal number below 4096, which may have a plus sign and leading zeros
abbrev pub IsMode : Text → ℕ → Type 0
IsMode text mode = IsNumeral 8 (without_leading_plus text) × (mode ≡ digits_value 8 (without_leading_plus text)) × (mode < 4096)

-- the text is a decimal number below 2^32, which may have a plus sign and leading zeros
abbrev pub IsId : Text → ℕ → Type 0
IsId text number = IsNumeral 10 (without_leading_plus text) × (number ≡ digits_value 10 (without_leading_plus text)) × (number < 2 ^ 32)

-- a colon
abbrev pub is_colon : ℕ → Bool
is_colon b = eqb b 58

-- The text is the number of an owner. With a group that of the owner stands in front of the first colon, and that of the group
-- behind it.
abbrev pub AreOwners : Text → ℕ → Option ℕ → Type 0
AreOwners text owner None = (position_or_len is_colon text ≡ length text) × IsId text owner
AreOwners text owner (Some group) = (position_or_len is_colon text < length text) × IsId (before_first is_colon text) owner × IsId (after_first is_colon text) group
