-- How the refusal of an item is told.
use Rattle.std.specs.Prelude.{ℕ, List, ◌++◌, codes}
use Rattle.nv_tree.specs.Refusals.{refusal_word}
use Rattle.nv_tree.specs.declared.refusal.Refusal.{Refusal}
use Rattle.nv_text.specs.Answers.{line, refused_line}
use Rattle.nv_text.specs.Names.{escaped}

-- the refusal of an item of this path, which stands on a line of its own
abbrev pub refused_item : List ℕ → Refusal → List ℕ
refused_item path refusal = refused_line (refusal_word refusal) ++ line (codes "member " ++ escaped path)
