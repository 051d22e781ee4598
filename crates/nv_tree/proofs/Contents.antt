-- The bytes of a file after a write and after a change of its size.
use Rattle.std.proofs.Common.{◌≡◌, ℕ, ◌+◌, ◌-◌, ◌<◌, ◌≤◌, ◌⊎◌, Bool, true, false, nat_lt, nat_le, ◌&&◌, cond, min, max, List, map, length, get_or, slice_index, refl, ◌∙◌, ap, subst, inl, inr, arith}
use Rattle.std.specs.List.{range_with_len}
use Rattle.std.proofs.lemmas.Bool.{le-leb, lt-leb, lt-ltb, le-ltb, and_from, and_left, and_right}
use Rattle.std.proofs.lemmas.List.{ext_get_or}
use Rattle.std.proofs.lemmas.List.FromFn.{length-map-range_with_len, get_or-map-range_with_len}
use Rattle.nv_tree.specs.Tree.{Node}
use Rattle.nv_tree.specs.Calls.{with_bytes, with_size, bytes_read}

-- among the new bytes
is_new : (offset x n : ℕ) → offset ≤ x → x < offset + n → (nat_le offset x && nat_lt x (offset + n)) ≡ true
is_new offset x n from to = and_from (nat_le offset x) (nat_lt x (offset + n)) (le-leb offset x from) (lt-ltb x (offset + n) to)

-- before them or behind them
is_old : (offset x n : ℕ) → (x < offset) ⊎ (offset + n ≤ x) → (nat_le offset x && nat_lt x (offset + n)) ≡ false
is_old offset x n (inl before) = and_left (nat_le offset x) (nat_lt x (offset + n)) (lt-leb offset x before)
is_old offset x n (inr behind) = and_right (nat_le offset x) (nat_lt x (offset + n)) (le-ltb x (offset + n) behind)

-- what a file's byte is after a write, by whether it is new
abbrev byte_after : (offset : ℕ) (new : List ℕ) (node : Node) (x : ℕ) → Bool → ℕ
byte_after offset new node x b = cond b (slice_index new (x - offset)) (cond (nat_lt x node.size) (node.bytes x) 0)

-- all of the new bytes lie below the new size
all_read : (offset n size : ℕ) → min n (max size (offset + n) - offset) ≡ n
all_read offset n size = omega arith

inside : (offset k n : ℕ) → k < n → offset + k < offset + n
inside offset k n below = omega arith

from_start : (offset k : ℕ) → offset ≤ offset + k
from_start offset k = omega arith

back : (offset k : ℕ) → offset + k - offset ≡ k
back offset k = omega arith

new_byte : (offset : ℕ) (new : List ℕ) (node : Node) (k : ℕ) → k < length new → byte_after offset new node (offset + k) (nat_le offset (offset + k) && nat_lt (offset + k) (offset + length new)) ≡ get_or new k 0
new_byte offset new node k below =
    ap (byte_after offset new node (offset + k)) (is_new offset (offset + k) (length new) (from_start offset k) (inside offset k (length new) below))
    ∙ ap (λ m. get_or new m 0) (back offset k)

pub new_read : (offset time : ℕ) (new : List ℕ) (node : Node) → bytes_read offset (length new) (with_bytes offset new time node) ≡ new
new_read offset time new node =
    let bytes = (with_bytes offset new time node).bytes in
    let same : map bytes (range_with_len offset (length new)) ≡ new = ext_get_or 0 (map bytes (range_with_len offset (length new))) new (length-map-range_with_len bytes offset (length new)) (λ k h.
    let below : k < length new = subst (λ m. k < m) (length-map-range_with_len bytes offset (length new)) h in
    get_or-map-range_with_len bytes offset (length new) k (offset + k) 0 below refl ∙ new_byte offset new node k below) in
    ap (λ m. map bytes (range_with_len offset m)) (all_read offset (length new) node.size) ∙ same

pub others_stay : (offset time : ℕ) (new : List ℕ) (node : Node) (x : ℕ) → x < node.size → (x < offset) ⊎ (offset + length new ≤ x) → (with_bytes offset new time node).bytes x ≡ node.bytes x
others_stay offset time new node x below outside = ap (byte_after offset new node x) (is_old offset x (length new) outside) ∙ ap (λ b. cond b (node.bytes x) 0) (lt-ltb x node.size below)

pub gap_is_zeros : (offset time : ℕ) (new : List ℕ) (node : Node) (x : ℕ) → node.size ≤ x → x < offset → (with_bytes offset new time node).bytes x ≡ 0
gap_is_zeros offset time new node x past before = ap (byte_after offset new node x) (is_old offset x (length new) (inl before)) ∙ ap (λ b. cond b (node.bytes x) 0) (le-ltb x node.size past)

pub below_stays : (size time : ℕ) (node : Node) (x : ℕ) → x < node.size → (with_size size time node).bytes x ≡ node.bytes x
below_stays size time node x below = ap (λ b. cond b (node.bytes x) 0) (lt-ltb x node.size below)

pub past_is_zeros : (size time : ℕ) (node : Node) (x : ℕ) → node.size ≤ x → (with_size size time node).bytes x ≡ 0
past_is_zeros size time node x past = ap (λ b. cond b (node.bytes x) 0) (le-ltb x node.size past)
