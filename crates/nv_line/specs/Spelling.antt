-- How a request is spelled: by the words of a row of the table, with one space between two.
use Rattle.std.specs.Prelude.{◌≡◌, ℕ, List, ◌∷◌, decimal}
use Rattle.std.specs.List.{join_with_byte, Contains}
use Rattle.nv_line.specs.Request.{Request}
use Rattle.nv_line.specs.Shapes.{IsSmall, Values, made_of, words_of, CanBeWritten}
use Rattle.nv_line.specs.Table.{Row, rows}

-- the word is the number in decimal, and a script can write that
pub record Writes (word : List ℕ) (n : ℕ) : Type 0 where
  pub spelled : word ≡ decimal n
  pub small : IsSmall n

-- The line is the name of a command and the words of values, with one space between two, and the request is what the
-- command makes of these values.
pub record Says (line : List ℕ) (request : Request) : Type 0 where
  pub row : Row
  pub listed : Contains rows row
  pub values : Values row.shape
  pub fits : CanBeWritten row.shape values
  pub spelled : line ≡ join_with_byte 32 (row.name ∷ words_of row.shape values)
  pub made : request ≡ made_of row.shape row.make values
