use Rattle.std.proofs.Common.{◌≡◌, ◌*◌, drop}
use Rattle.std.specs.List.{fold}
use Rattle.nv_names.specs.Keys.{with_digit, key_of}
use Rattle.nv_names.proofs.key.key_of_fours.Given as goal

-- the bytes to come make the key of all
abbrev pub invariant-loop-four : goal.invariant-loop-four
invariant-loop-four l = fold with_digit l.key (drop (4 * l.four) l.name) ≡ key_of l.name
