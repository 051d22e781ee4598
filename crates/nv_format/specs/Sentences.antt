-- What is shown of a refusal to people.
use Rattle.std.specs.Prelude.{ℕ, List, codes}
use Rattle.nv_format.specs.declared.formatting.FormatRefusal.{FormatRefusal}
use Rattle.nv_format.specs.declared.formatting.FormatRefusal.TheVariants.{Length, Cpus, Tables, Stopped}

-- the sentence that is shown for a refusal
abbrev pub refusal_sentence : FormatRefusal → List ℕ
refusal_sentence Length = codes "the length isn't that of 8 to 262,144 blocks of 4096 bytes"
refusal_sentence Cpus = codes "there aren't 1 to 64 CPUs"
refusal_sentence Tables = codes "there aren't 1 to 64 table blocks for each CPU, or no data block is left behind them"
refusal_sentence Stopped = codes "the memory has been stopped"
