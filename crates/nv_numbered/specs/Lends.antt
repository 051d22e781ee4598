-- What a `Numbered` or a `Chunks` ends as, where a `&mut` to one of its values is returned.
use Rattle.std.specs.Prelude.{ℕ, Option}
use Rattle.std.specs.Borrow.{Lends, LendsIf, Fml, RattleType, MutBor}
use Rattle.nv_numbered.specs.Chunked.{Chunked, with_value_at}
use Rattle.nv_numbered.specs.Values.{Values, with_value}
use Rattle.nv_numbered.specs.contracts.chunks.Chunks.{the_row as chunks_row}
use Rattle.nv_numbered.specs.contracts.table.Numbered.{the_row}

module _ (T : RattleType) (v : MutBor (Values T.Denot)) (number : ℕ) where
  -- once the borrow r ends, the number has the last value written through r
  abbrev pub lends_value : MutBor T.Denot → Fml
  lends_value r = Lends (the_row T) T v r (with_value v.now number)

  -- the same where r is a reference, and at `None` the values stay as they are
  abbrev pub lends_get : Option (MutBor T.Denot) → Fml
  lends_get r = LendsIf (the_row T) T v r (with_value v.now number) v.now

-- once the borrow r ends, the place has the last value written through r
abbrev pub lends_at : (T : RattleType) → MutBor (Chunked T.Denot) → ℕ → MutBor T.Denot → Fml
lends_at T v place r = Lends (chunks_row T) T v r (with_value_at v.now place)
