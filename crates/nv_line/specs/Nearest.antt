-- The command whose name is nearest to a word.
use Rattle.std.specs.Prelude.{ℕ, ◌+◌, ◌/◌, List, [], ◌∷◌, length, nat_eq, nat_lt, if◌then◌else◌, Option, Some, None}
use Rattle.strsim.specs.Edits.{damerau}
use Rattle.nv_line.specs.Table.{names}
use Rattle.nv_line.specs.declared.reasons.Form.{Form}

-- how many edits lead from a word to a name: a byte is put in, left out or exchanged for another, or two neighbours are swapped
unfoldable pub edits : List ℕ → List ℕ → ℕ
edits [] name = length name
edits (byte ∷ word) [] = length (byte ∷ word)
edits (byte ∷ word) (first ∷ name) = damerau nat_eq (byte ∷ word) (first ∷ name)

-- the form of a command that was found, if one was, and the number of edits that another has to be below
pub record Near : Type 0 where
  pub form : Option Form
  pub below : ℕ

-- a look at one more command
abbrev pub look : List ℕ → Near → List ℕ × Form → Near
look word near command = if nat_lt (edits word command.0) near.below then record { form = Some command.1; below = edits word command.0 } else near

-- the same at some commands, one after another
unfoldable pub look_through : List ℕ → Near → List (List ℕ × Form) → Near
look_through word near [] = near
look_through word near (command ∷ commands) = look_through word (look word near command) commands

-- the form of the command whose name is the fewest edits from a word, and of several the first, where these are at most one for
-- each three bytes of the word
abbrev pub nearest : List ℕ → Option Form
nearest word = (look_through word (record { form = None; below = length word / 3 + 1 }) names).form
