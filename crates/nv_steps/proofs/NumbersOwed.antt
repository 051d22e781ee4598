-- Numbers that calls owe, apart from all else that is known there.
use Rattle.std.proofs.Common.{ℕ, ◌≡◌, ◌+◌, ◌%◌, ◌≤◌, List, [], ◌∷◌, ap, drop, length, length-drop, arith}
use Rattle.nv_entry.specs.declared.entry.Entry.{Entry}
use Rattle.nv_entry.specs.Spelling.{entry_length}
use Rattle.nv_logpage.specs.Append.{end_of}

-- there is a first one of some blocks
pub has_one : (xs : List ℕ) (n : ℕ) → length xs ≡ 1 + n → 1 ≤ length xs
has_one xs n count = omega (arith, count)

-- where all pages fit, those behind the first do
pub others_fit : (len cap : ℕ) (xs bs : List ℕ) → bs ≡ drop 1 xs → len + length xs ≤ cap → len + length bs ≤ cap
others_fit len cap xs bs is room =
    let same = ap length is in
    let fewer = length-drop 1 xs in
    omega (arith, same, fewer, room)

-- an entry ends behind its length
pub ends_behind : (end len : ℕ) (fresh : List ℕ) (tail : ℕ) (e : Entry) → end ≡ end_of fresh 0 tail (e ∷ []) → len ≡ entry_length e → len ≤ end
ends_behind end len fresh tail e ends is = omega (arith, ends, is)

-- what an extension stores of a slot lies inside with the slot
pub slot_word_inside : (a slot end : ℕ) → a ≡ slot → slot + 128 ≤ end → a + 32 ≤ end
slot_word_inside a slot end at inside = omega (arith, at, inside)

pub slot_word_whole : (a slot : ℕ) → a ≡ slot → slot % 128 ≡ 0 → a % 8 ≡ 0
slot_word_whole a slot at whole = omega (arith, at, whole)
