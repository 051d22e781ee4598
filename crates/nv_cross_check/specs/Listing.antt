-- What the checks read of a row.
use Rattle.std.specs.Prelude.{ℕ, List}
use Rattle.nv_super.specs.declared.kind.Kind.{Kind}
use Rattle.nv_names.specs.declared.named.Named.{Named}

-- an inode, its kind and link count, and its names, each once, in whatever order
pub record Listing : Type 0 where
  pub inode : ℕ
  pub kind : Kind
  pub links : ℕ
  pub names : List Named
