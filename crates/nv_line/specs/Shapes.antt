-- What may stand behind the name of a command: so many words of these kinds, each of which writes a value.
use Rattle.std.specs.Prelude.{◌≢◌, ℕ, ◌<◌, ◌≤◌, ◌^◌, List, [], ◌∷◌, map, length, decimal, codes}
use Rattle.std.specs.List.{AllByRecursion}
use Rattle.nv_region.specs.declared.memory.Fuse.{Fuse}
use Rattle.nv_region.specs.declared.memory.Fuse.TheVariants as fuses
use Rattle.nv_region.specs.declared.memory.Keep.{Keep}
use Rattle.nv_region.specs.declared.memory.Keep.TheVariants as keeps
use Rattle.nv_line.specs.Request.{Request}

-- one word
pub data Slot : Type 0 where
  -- a number in decimal, below 2 ^ 64
  Number : Slot
  -- a number in decimal, of at most this
  UpTo : (most : ℕ) → Slot
  -- the bytes of a path
  Path : Slot
  -- whether a number counts the stores before a stop, or is the address of one
  When : Slot
  -- what a stop keeps
  Keeping : Slot

-- how a stop is set by a number
pub data Moment : Type 0 where
  After : Moment
  At : Moment

-- the fuse that a moment and a number set
abbrev pub fuse_by : Moment → ℕ → Fuse
fuse_by After n = fuses.After n
fuse_by At n = fuses.At n

-- its word
abbrev pub moment_word : Moment → List ℕ
moment_word After = codes "after"
moment_word At = codes "at"

-- the word of what a stop keeps
abbrev pub keep_word : Keep → List ℕ
keep_word keeps.None = codes "none"
keep_word keeps.All = codes "all"
keep_word keeps.Alternate = codes "alternate"

-- the words behind a name
pub data Shape : Type 0 where
  -- no word
  End : Shape
  -- any number of numbers
  Numbers : Shape
  -- a word, and then others
  Then : Slot → Shape → Shape

-- what a word writes
abbrev pub ValueOf : Slot → Type 0
ValueOf Number = ℕ
ValueOf (UpTo most) = ℕ
ValueOf Path = List ℕ
ValueOf When = Moment
ValueOf Keeping = Keep

-- what all the words write
abbrev pub Values : Shape → Type 0
Values End = Unit {0}
Values Numbers = List ℕ
Values (Then slot shape) = ValueOf slot × Values shape

-- how a request is made of values
abbrev pub Makes : Shape → Type 0
Makes End = Request
Makes Numbers = List ℕ → Request
Makes (Then slot shape) = ValueOf slot → Makes shape

-- the request that is made of these values
abbrev pub made_of : (shape : Shape) → Makes shape → Values shape → Request
made_of End request values = request
made_of Numbers make numbers = make numbers
made_of (Then slot shape) make values = made_of shape (make values.0) values.1

-- a number that a script can write
abbrev pub IsSmall : ℕ → Type 0
IsSmall n = n < 2 ^ 64

-- a word has a byte, and none is a space
abbrev pub IsWord : List ℕ → Type 0
IsWord word = (0 < length word) × AllByRecursion (λ b. b ≢ 32) word

-- the word that writes a value
abbrev pub word_of : (slot : Slot) → ValueOf slot → List ℕ
word_of Number n = decimal n
word_of (UpTo most) n = decimal n
word_of Path bytes = bytes
word_of When moment = moment_word moment
word_of Keeping keep = keep_word keep

-- a word can write the value
abbrev pub CanWrite : (slot : Slot) → ValueOf slot → Type 0
CanWrite Number n = IsSmall n
CanWrite (UpTo most) n = IsSmall n × (n ≤ most)
CanWrite Path bytes = IsWord bytes
CanWrite When moment = Unit {0}
CanWrite Keeping keep = Unit {0}

-- the words that write the values
abbrev pub words_of : (shape : Shape) → Values shape → List (List ℕ)
words_of End values = []
words_of Numbers numbers = map decimal numbers
words_of (Then slot shape) values = word_of slot values.0 ∷ words_of shape values.1

-- words can write the values
abbrev pub CanBeWritten : (shape : Shape) → Values shape → Type 0
CanBeWritten End values = Unit {0}
CanBeWritten Numbers numbers = AllByRecursion IsSmall numbers
CanBeWritten (Then slot shape) values = CanWrite slot values.0 × CanBeWritten shape values.1
