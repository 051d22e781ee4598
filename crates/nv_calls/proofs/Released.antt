-- What `unlink` does, by how many links the file has.
use Rattle.std.proofs.Common.{◌≡◌, ℕ, ◌+◌, ◌-◌, ◌%◌, ◌<◌, ◌≤◌, nat_lt, Bool, true, false, cond, List, slice_get, ap, sym, ◌∙◌, subst, arith, Some}
use Rattle.std.proofs.lemmas.Bool.Decides.{nat_tests}
use Rattle.std.proofs.lemmas.Option.{same_Some}
use Rattle.nv_entry.specs.declared.entry.Operation.TheVariants.{Remove}
use Rattle.nv_logpage.specs.Append.{needed}
use Rattle.nv_scan.specs.declared.piece.Row.{Row}
use Rattle.nv_steps.specs.NameEntries.{links_entries, name_entries}
use Rattle.nv_calls.specs.AtPlaces.{release_blocks}

is_more : (n : ℕ) → nat_lt 1 n ≡ true → 1 < n
is_more n test = grind (arith, nat_tests)

is_last : (n : ℕ) → nat_lt 1 n ≡ false → n ≤ 1
is_last n test = grind (arith, nat_tests)

test_more : (n : ℕ) → 1 < n → nat_lt 1 n ≡ true
test_more n more = grind (arith, nat_tests)

test_last : (n : ℕ) → n ≤ 1 → nat_lt 1 n ≡ false
test_last n few = grind (arith, nat_tests)

module _ (rows : List Row) (place : ℕ) (read : Row) (read_at : slice_get rows place ≡ Some read) (b : Bool) (test : b ≡ nat_lt 1 read.numbers.links) where
  -- the row that was tested is the one at the place
  pub all_more : b ≡ true → (file : Row) → slice_get rows place ≡ Some file → 1 < file.numbers.links
  all_more on file at = subst (λ (r : Row). 1 < r.numbers.links) (same_Some _ _ (sym read_at ∙ at)) (is_more read.numbers.links (sym test ∙ on))

  pub all_last : b ≡ false → (file : Row) → slice_get rows place ≡ Some file → file.numbers.links ≤ 1
  all_last off file at = subst (λ (r : Row). r.numbers.links ≤ 1) (same_Some _ _ (sym read_at ∙ at)) (is_last read.numbers.links (sym test ∙ off))

module _ (row file : Row) (name : List ℕ) (time : ℕ) where
  abbrev of_name : ℕ
  of_name = needed (row.tail % 4096) (name_entries Remove file.inode name time)

  abbrev of_links : ℕ
  of_links = needed (file.tail % 4096) (links_entries (file.numbers.links - 1) time)

  pub blocks_more : 1 < file.numbers.links → of_name + of_links ≡ release_blocks row file name time
  blocks_more more = ap (λ (b : Bool). of_name + cond b of_links 0) (sym (test_more file.numbers.links more))

  nothing_more : (n : ℕ) → n ≡ n + 0
  nothing_more n = omega arith

  pub blocks_last : file.numbers.links ≤ 1 → of_name ≡ release_blocks row file name time
  blocks_last few = nothing_more of_name ∙ ap (λ (b : Bool). of_name + cond b of_links 0) (sym (test_last file.numbers.links few))
