-- How words of a user are shown again.
use Rattle.std.specs.Prelude.{ℕ, Bool, ◌||◌, ◌==◌, nat_lt, if◌then◌else◌, List, Option, Some, None}
use Rattle.std.specs.List.{list_any}

-- a byte is that of a control character, or may be the first of one with two bytes
abbrev pub may_be_control : ℕ → Bool
may_be_control b = nat_lt b 32 || ((b == 127) || (b == 194))

-- the text has such a byte
abbrev pub may_have_controls : List ℕ → Bool
may_have_controls text = list_any may_be_control text

-- a text without such bytes is shown as it is; no text is promised of others, whose control characters are shown as escapes
abbrev pub shown_text : List ℕ → Option (List ℕ)
shown_text text = if may_have_controls text then None else Some text
