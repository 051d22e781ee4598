-- Values of one option are one.
use Rattle.std.proofs.Common.{◌≡◌, Option, Some, sym, ◌∙◌}
use Rattle.std.proofs.lemmas.Option.{same_Some}

pub some_is : {A : Type 0} (a b : A) (o : Option A) → o ≡ Some a → o ≡ Some b → a ≡ b
some_is a b o h k = same_Some a b (sym h ∙ k)
