-- The pages of a file begin below its size.
use Rattle.std.proofs.Common.{◌≡◌, ℕ, ◌+◌, ◌-◌, ◌*◌, ◌<◌, Bool, true, false, nat_le, cond, List, [], ◌∷◌, refl, sym, ◌∙◌, subst, arith, Option, Some, None, unwrap_or}
use Rattle.std.specs.List.{Contains}
use Rattle.std.proofs.lemmas.Bool.Decides.{nat_tests}
use Rattle.nv_super.specs.declared.superblock.Super.{Super}
use Rattle.nv_super.specs.declared.kind.Kind.{Kind}
use Rattle.nv_super.proofs.Rising.{Contains-head, Contains-tail}
use Rattle.nv_entry.specs.declared.entry.WriteEntry.{WriteEntry}
use Rattle.nv_entry.specs.declared.entry.Entry.{Entry}
use Rattle.nv_entry.specs.declared.entry.Entry.TheVariants.{NextPage, Write, Attr, Name, Links}
use Rattle.nv_entry.specs.Content.{is_good, is_write_out_of_range}
use Rattle.nv_logpage.specs.declared.found.Placed.{Placed}
use Rattle.nv_logpage.specs.Good.{good_entries}
use Rattle.nv_radix.specs.Pages.{in_run}
use Rattle.nv_scan.specs.LastWord.{last_word}
use Rattle.nv_scan.specs.State.{cuts, block_in, size_in, says_size, says_block, size_of, block_of}
use Rattle.nv_scan.proofs.Blocks.{in_range, good_is_good}
use Rattle.nv_scan.proofs.Words.{last_word-cons}

-- a page that is said to have a block begins below this size
abbrev IsBelow : ℕ → Option ℕ → ℕ → Type 0
IsBelow p m z = (b : ℕ) → m ≡ Some b → p * 4096 < z

cut_below : (p size : ℕ) (m : Option ℕ) → IsBelow p (unwrap_or (cuts size p) m) size
cut_below p size m = test (nat_le size (p * 4096)) refl where
  test : (t : Bool) → nat_le size (p * 4096) ≡ t → IsBelow p (unwrap_or (cond {A = Option (Option ℕ)} t (Some None) None) m) size
  test true e b h = absurd (cc)
  test false e b h = grind (arith, nat_tests)

-- a write entry's pages begin below its size
pub write_below : (s : Super) (p : ℕ) (e : WriteEntry) → is_write_out_of_range s e ≡ false → in_run e.offset e.count p ≡ true → p * 4096 < e.size
write_below s p e good run =
    let some : 0 < e.count = grind (arith, nat_tests) in
    let last : (e.offset + e.count - 1) * 4096 < e.size = grind (arith, nat_tests) in
    let to : p < e.offset + e.count = grind (arith, nat_tests) in
    omega (arith, some, last, to)

entry_below : (s : Super) (k : Kind) (p : ℕ) (e : Entry) (m : Option ℕ) (z : ℕ) → is_good s k e ≡ true → IsBelow p m z → IsBelow p (unwrap_or (block_in p e) m) (unwrap_or (size_in e) z)
entry_below s k p (Write e) m z good below = test (in_run e.offset e.count p) refl where
  test : (t : Bool) → in_run e.offset e.count p ≡ t → IsBelow p (unwrap_or (cond {A = Option (Option ℕ)} t (Some (Some (e.block + (p - e.offset)))) (cuts e.size p)) m) e.size
  test true run = λ b h. write_below s p e (in_range s k (Write e) good) run
  test false run = cut_below p e.size m
entry_below s k p (Attr e) m z good below = cut_below p e.size m
entry_below s k p NextPage m z good below = below
entry_below s k p (Name e) m z good below = below
entry_below s k p (Links e) m z good below = below

all_below : (s : Super) (k : Kind) (p : ℕ) (xs : List Placed) (m : Option ℕ) (z : ℕ) → ((x : Placed) → Contains xs x → is_good s k x.entry ≡ true) → IsBelow p m z → IsBelow p (last_word (says_block p) m xs) (last_word says_size z xs)
all_below s k p [] m z good below = below
all_below s k p (x ∷ xs) m z good below = λ b h.
    let rest = all_below s k p xs (unwrap_or (says_block p x) m) (unwrap_or (says_size x) z) (λ y c. good y (Contains-tail x xs y c)) (entry_below s k p x.entry m z (good x (Contains-head x xs)) below) in
    let less = rest b (sym (last_word-cons (says_block p) m x xs) ∙ h) in
    subst (λ (n : ℕ). p * 4096 < n) (sym (last_word-cons says_size z x xs)) less

-- each page of a file that maps to a block begins below the file's size
pub page_below : (s : Super) (k : Kind) (es : List Placed) (p b : ℕ) → block_of (good_entries s k es) p ≡ Some b → p * 4096 < size_of (good_entries s k es)
page_below s k es p b h = all_below s k p (good_entries s k es) None 0 (λ x c. good_is_good s k es x c) (λ c e. absurd (cc)) b h
