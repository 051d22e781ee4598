-- What a name that is given to another inode of its directory is told, and what is done by how many links the other has.
use Rattle.std.proofs.Common.{◌≡◌, ℕ, ◌+◌, ◌-◌, ◌%◌, ◌<◌, nat_lt, not, Bool, true, false, cond, ◌&&◌, List, slice_get, ap, sym, ◌∙◌, subst, arith, Some}
use Rattle.std.proofs.lemmas.Bool.Decides.{nat_tests}
use Rattle.std.proofs.lemmas.Option.{same_Some}
use Rattle.nv_logpage.specs.Append.{needed}
use Rattle.nv_scan.specs.declared.piece.Row.{Row}
use Rattle.nv_tree.specs.Tree.{is_directory}
use Rattle.nv_steps.specs.NameEntries.{links_entries}
use Rattle.nv_steps.specs.Takes.{take_entries}
use Rattle.nv_calls.specs.ReplaceCalls.{StaysAt, hand_blocks, keeps_others, replace_here_blocks, replace_over_blocks}

-- What is so by the words of a step is so by another's words for the same.
pub by_words : (Q : ℕ → ℕ → List ℕ → List ℕ → ℕ → Type 0) {i j k l : ℕ} {n name o other : List ℕ} {t time : ℕ} → i ≡ j → k ≡ l → n ≡ name → o ≡ other → t ≡ time → Q i k n o t → Q j l name other time
by_words Q {i} {j} {k} {l} {n} {name} {o} {other} {t} {time} number gone name_is other_is time_is known =
    let same : (i, k, n, o, t) ≡ (j, l, name, other, time) = λ x. (number x, gone x, name_is x, other_is x, time_is x) in
    subst (λ (w : ℕ × ℕ × List ℕ × List ℕ × ℕ). Q w.0 w.1 w.2 w.3 w.4) same known

-- the row that was tested is the one at the place
pub stays_at : (stays : Bool) (rows : List Row) (place : ℕ) (read : Row) (b : Bool) → slice_get rows place ≡ Some read → b ≡ keeps_others read → b ≡ stays → StaysAt stays rows place
stays_at stays rows place read b read_at test is there at = subst (λ (r : Row). keeps_others r ≡ stays) (same_Some _ _ (sym read_at ∙ at)) (sym test ∙ is)

both_true : (a b : Bool) → (a && b) ≡ true → b ≡ true
both_true true b on = on
both_true false b on = absurd (cc)

-- what stays has more links than one
pub more_links : (row : Row) → keeps_others row ≡ true → 1 < row.numbers.links
more_links row on = more row.numbers.links (both_true (not (is_directory row.kind)) (nat_lt 1 row.numbers.links) on) where
  more : (n : ℕ) → nat_lt 1 n ≡ true → 1 < n
  more n test = grind (arith, nat_tests)

nothing_more : (n : ℕ) → n ≡ n + 0
nothing_more n = omega arith

-- ---- how many blocks it takes, within one directory

module _ (row there : Row) (i : ℕ) (name other : List ℕ) (time : ℕ) where
  abbrev of_names : ℕ
  of_names = needed (row.tail % 4096) (take_entries i there.inode name other time)

  abbrev of_links : ℕ
  of_links = needed (there.tail % 4096) (links_entries (there.numbers.links - 1) time)

  pub blocks_stay : keeps_others there ≡ true → of_names + of_links ≡ replace_here_blocks row there i name other time
  blocks_stay on = ap (λ (b : Bool). of_names + cond b of_links 0) (sym on)

  pub blocks_go : keeps_others there ≡ false → of_names ≡ replace_here_blocks row there i name other time
  blocks_go off = nothing_more of_names ∙ ap (λ (b : Bool). of_names + cond b of_links 0) (sym off)

-- ---- and across two

module _ (from to there : Row) (i : ℕ) (name other : List ℕ) (time : ℕ) where
  abbrev of_hands : ℕ
  of_hands = hand_blocks from to i there.inode name other time

  abbrev of_count : ℕ
  of_count = needed (there.tail % 4096) (links_entries (there.numbers.links - 1) time)

  pub over_blocks_stay : keeps_others there ≡ true → of_hands + of_count ≡ replace_over_blocks from to there i name other time
  over_blocks_stay on = ap (λ (b : Bool). of_hands + cond b of_count 0) (sym on)

  pub over_blocks_go : keeps_others there ≡ false → of_hands ≡ replace_over_blocks from to there i name other time
  over_blocks_go off = nothing_more of_hands ∙ ap (λ (b : Bool). of_hands + cond b of_count 0) (sym off)
