-- A journal is sound just where both of its pointers are below 252.
use Rattle.std.proofs.Common.{◌≡◌, ◌⊎◌, ◌≤◌, ℕ, true, false, arith}
use Rattle.std.proofs.lemmas.Bool.Decides.{nat_tests}
use Rattle.nv_region.specs.Region.{Region}
use Rattle.nv_journal.specs.Undo.{dequeue, enqueue, is_sound}

pub right_pointers : (R : Region) (cpu : ℕ) → is_sound R cpu ≡ true → (252 ≤ dequeue R cpu) ⊎ (252 ≤ enqueue R cpu) → ⊥
right_pointers R cpu sound wrong = grind (arith, nat_tests)

pub wrong_pointers : (R : Region) (cpu : ℕ) → is_sound R cpu ≡ false → (252 ≤ dequeue R cpu) ⊎ (252 ≤ enqueue R cpu)
wrong_pointers R cpu unsound = grind (arith, nat_tests)
