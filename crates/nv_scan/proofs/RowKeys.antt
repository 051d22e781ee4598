-- Rows that stand in order by their numbers.
use Rattle.std.proofs.Common.{◌≡◌, ℕ, ◌<◌, nat_cmp, [], ◌∷◌, arith}
use Rattle.std.specs.Cmp.Lexicographic.{slice_cmp}
use Rattle.std.specs.declared.cmp.Ordering.TheVariants.{Less}
use Rattle.std.proofs.lemmas.Bool.Decides.{nat_tests}

pub key_less : (a b : ℕ) → slice_cmp nat_cmp (a ∷ []) (b ∷ []) ≡ Less → a < b
key_less a b h = grind (arith, nat_tests)
