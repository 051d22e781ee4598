-- Why a line is bad, and the text that says so.
use Rattle.std.specs.Prelude.{◌==◌, ℕ, List, [], ◌∷◌, ◌++◌, length, nat_lt, if◌then◌else◌, Option, Some, None, codes, decimal}
use Rattle.std.specs.List.{slice_split, starts_with, ends_with}
use Rattle.nv_stream.specs.Lines.{line_limit}
use Rattle.nv_line.specs.Table.{row_of, names, form_in}
use Rattle.nv_line.specs.Request.{Request}
use Rattle.nv_line.specs.Nearest.{nearest}
use Rattle.nv_line.specs.Excess.{first_large, shrunk}
use Rattle.nv_line.specs.Reading.{request_as}
use Rattle.nv_line.specs.declared.reasons.Excess.{Excess}
use Rattle.nv_line.specs.declared.reasons.Form.{Form}
use Rattle.nv_line.specs.declared.reasons.Reason.{Reason}
use Rattle.nv_line.specs.declared.reasons.Reason.TheVariants as reasons

-- a command's name and its numbers
abbrev pub form_text : Form → List ℕ
form_text form = (row_of form).text

-- a word that is too large a number, where the words are a command with zeros for all such words
abbrev pub by_excess : Form → Option Excess → Option Request → Reason
by_excess form (Some excess) (Some request) = reasons.TooLarge excess
by_excess form (Some excess) None = reasons.Form form
by_excess form None request = reasons.Form form

-- the line isn't spelled as the command of this form: only since numbers are too large, or otherwise
abbrev pub reason_of_form : Form → List (List ℕ) → Reason
reason_of_form form words = by_excess form (first_large form 2 words) (request_as form (shrunk form 2 words))

-- the line isn't spelled as the command of this form, if there is one of its first word
abbrev pub by_form : Option Form → List ℕ → List (List ℕ) → Reason
by_form (Some form) name words = reason_of_form form words
by_form None name words = reasons.NoCommand (nearest name)

-- the reason that a line's words give
unfoldable pub reason_of_words : List (List ℕ) → Reason
reason_of_words [] = reasons.NoCommand None
reason_of_words (name ∷ words) = by_form (form_in names name) name words

-- Why a bad line is bad: it is too long, ends with a carriage return, or begins with a byte order mark, or else its words are no
-- command.
unfoldable pub reason_of : List ℕ → Reason
reason_of line = if nat_lt line_limit (length line) then reasons.TooLong
    else if ends_with (λ a b. a == b) line (codes "\r") then reasons.CarriageReturn
    else if starts_with (λ a b. a == b) line (239 ∷ 187 ∷ 191 ∷ []) then reasons.ByteOrderMark
    else reason_of_words (slice_split (λ b. b == 32) line)

-- which word is too large a number, and the most that may stand there
abbrev pub excess_text : Excess → List ℕ
excess_text excess = codes "word " ++ decimal excess.word ++ codes " is above " ++ decimal excess.most ++ codes ", the most that may stand there"

-- what the user reads of it
abbrev pub reason_text : Reason → List ℕ
reason_text reasons.TooLong = codes "it has more than 4096 bytes"
reason_text reasons.CarriageReturn = codes "it ends with a carriage return, byte 13; byte 10 alone ends a line"
reason_text (reasons.NoCommand (Some form)) = codes "no command has this name; the nearest is " ++ form_text form
reason_text (reasons.NoCommand None) = codes "expected time, format, recover, replay, poke, cut, list, stat, read, create, mkdir, write, size, attr, link, unlink, rmdir, rename, clean, upgrade, tree, free, faults, report, peek or stop"
reason_text reasons.ByteOrderMark = codes "it begins with a byte order mark, the bytes 239, 187 and 191; a script has none"
reason_text (reasons.TooLarge excess) = excess_text excess
reason_text (reasons.Form form) = codes "expected " ++ form_text form ++ codes ", with one space between two words, and numbers in decimal up to 18446744073709551615"
