-- The pages of a file and their blocks lie where they can.
use Rattle.std.proofs.Common.{◌≡◌, ℕ, ◌+◌, ◌-◌, ◌<◌, ◌≤◌, Bool, true, false, not, ◌&&◌, List, [], ◌∷◌, refl, ap, ◌∙◌, Option, Some, None, filter, nat_le, cond, arith, ◌*◌, inl, inr}
use Rattle.std.specs.List.{Contains, filter_map, cons_option}
use Rattle.std.proofs.lemmas.Bool.Decides.{nat_tests}
use Rattle.nv_super.specs.declared.superblock.Super.{Super}
use Rattle.nv_super.specs.declared.kind.Kind.{Kind}
use Rattle.nv_super.specs.Layout.{system_blocks}
use Rattle.nv_super.proofs.Rising.{Contains-cons, Contains-head, Contains-tail}
use Rattle.nv_entry.specs.declared.entry.WriteEntry.{WriteEntry}
use Rattle.nv_entry.specs.declared.entry.Entry.{Entry}
use Rattle.nv_entry.specs.declared.entry.Entry.TheVariants.{NextPage, Write, Attr, Name, Links}
use Rattle.nv_entry.specs.Content.{is_good, is_wrong_kind, is_out_of_range, is_write_out_of_range}
use Rattle.nv_logpage.specs.declared.found.Placed.{Placed}
use Rattle.nv_logpage.specs.Good.{good_entries}
use Rattle.nv_radix.specs.Pages.{in_run}
use Rattle.nv_scan.specs.LastWord.{last_or, last_word}
use Rattle.nv_scan.specs.State.{cuts, block_in, says_block, block_of}
use Rattle.nv_scan.specs.Owners.{IsDataPage}

-- What holds of the default and of all that is said holds of the last word.
pub last_word-all : {A V : Type 0} (says : A → Option V) (P : V → Type 0) (d : V) (xs : List A) → P d → ((x : A) (v : V) → Contains xs x → says x ≡ Some v → P v) → P (last_word says d xs)
last_word-all says P d [] h each = h
last_word-all {A} {V} says P d (x ∷ xs) h each =
    elim (says x) as (λ o. says x ≡ o → P (last_or d (cons_option o (filter_map says xs)))) [
      | None ↦ λ e. last_word-all says P d xs h (λ y v c s. each y v (Contains-tail x xs y c) s)
      | Some u ↦ λ e. last_word-all says P u xs (each x u (Contains-head x xs) e) (λ y v c s. each y v (Contains-tail x xs y c) s)
    ] refl

-- a page that is said to have a block
abbrev pub IsSaid : Super → ℕ → Option ℕ → Type 0
IsSaid s p o = (b : ℕ) → o ≡ Some b → IsDataPage s p b

write_says : (s : Super) (p : ℕ) (e : WriteEntry) (b : ℕ) → is_write_out_of_range s e ≡ false → in_run e.offset e.count p ≡ true → e.block + (p - e.offset) ≡ b → IsDataPage s p b
write_says s p e b good run same =
    let pages : e.offset + e.count ≤ 262144 = grind (arith, nat_tests) in
    let low : system_blocks s ≤ e.block = grind (arith, nat_tests) in
    let high : e.block + e.count ≤ s.blocks = grind (arith, nat_tests) in
    let from : e.offset ≤ p = grind (arith, nat_tests) in
    let to : p < e.offset + e.count = grind (arith, nat_tests) in
    (omega arith, omega arith, omega arith)

-- what a good entry says is in range
pub in_range : (s : Super) (k : Kind) (e : Entry) → is_good s k e ≡ true → is_out_of_range s k e ≡ false
in_range s k e h = second (not (is_wrong_kind e k)) (is_out_of_range s k e) h
  where
    second : (a b : Bool) → (a && not b) ≡ true → b ≡ false
    second true true h = cc
    second true false h = refl
    second false b h = cc

cut_says : (s : Super) (p size : ℕ) (v : Option ℕ) → cuts size p ≡ Some v → IsSaid s p v
cut_says s p size v h = by_test (nat_le size (p * 4096)) h
  where
    by_test : (t : Bool) → cond t (Some None) None ≡ Some v → IsSaid s p v
    by_test true e = λ b f. (let n : None ≡ v = cc in absurd (cc))
    by_test false e = absurd (cc)

entry_says : (s : Super) (k : Kind) (p : ℕ) (e : Entry) (v : Option ℕ) → is_good s k e ≡ true → block_in p e ≡ Some v → IsSaid s p v
entry_says s k p (Write e) v good h = by_test (in_run e.offset e.count p) refl h
  where
    by_test : (t : Bool) → in_run e.offset e.count p ≡ t → cond t (Some (Some (e.block + (p - e.offset)))) (cuts e.size p) ≡ Some v → IsSaid s p v
    by_test true run said = λ b f. (let same : e.block + (p - e.offset) ≡ b = cc in write_says s p e b (in_range s k (Write e) good) run same)
    by_test false run said = cut_says s p e.size v said
entry_says s k p (Attr e) v good h = cut_says s p e.size v h
entry_says s k p NextPage v good h = absurd (cc)
entry_says s k p (Name e) v good h = absurd (cc)
entry_says s k p (Links e) v good h = absurd (cc)

passes : {A : Type 0} (test : A → Bool) (xs : List A) (x : A) → Contains (filter test xs) x → test x ≡ true
passes test [] x c = absurd (omega (arith, c.1))
passes {A} test (y ∷ xs) x c = by_test (passes test xs x) (test y) refl c
  where
    by_test : (Contains (filter test xs) x → test x ≡ true) → (t : Bool) → test y ≡ t → Contains (cond t (y ∷ filter test xs) (filter test xs)) x → test x ≡ true
    by_test rest true e d = elim (Contains-cons y (filter test xs) x d) [ inl w ↦ ap test w ∙ e | inr w ↦ rest w ]
    by_test rest false e d = rest d

-- a good entry is good
pub good_is_good : (s : Super) (k : Kind) (es : List Placed) (x : Placed) → Contains (good_entries s k es) x → is_good s k x.entry ≡ true
good_is_good s k es x c = passes (λ (y : Placed). is_good s k y.entry) es x c

-- each page of a file that maps to a block maps to a data block
pub data_pages : (s : Super) (k : Kind) (es : List Placed) (p b : ℕ) → block_of (good_entries s k es) p ≡ Some b → IsDataPage s p b
data_pages s k es p b h = last_word-all (says_block p) (IsSaid s p) None (good_entries s k es) (λ c e. absurd (cc))
    (λ x v c e. entry_says s k p x.entry v (good_is_good s k es x c) e) b h
