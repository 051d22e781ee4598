-- What is known of the copy of a file while it is made: that it has no bytes, then its bytes, and then its attributes too.
use Rattle.std.proofs.Common.{◌≡◌, ℕ, ◌+◌, ◌-◌, ◌%◌, ◌<◌, Bool, nat_lt, nat_le, cond, min, List, [], length, slice_index, Some, refl, sym, ◌∙◌, ap, subst, arith}
use Rattle.std.proofs.lemmas.Bool.{le-leb, lt-ltb, and_from}
use Rattle.std.proofs.lemmas.List.FromFn.{length-map-range_with_len, get_or-map-range_with_len}
use Rattle.nv_super.specs.declared.kind.Kind.TheVariants.{File}
use Rattle.nv_tree.specs.Tree.{Node, Tree, SameNode}
use Rattle.nv_tree.specs.Calls.{bytes_read, with_attributes, with_bytes}
use Rattle.nv_restored.proofs.Copies.{IsStable}

-- mode, owner, group and time
pub record SameAttributes (a b : Node) : Type 0 where
  pub mode : a.mode ≡ b.mode
  pub owner : a.owner ≡ b.owner
  pub group : a.group ≡ b.group
  pub time : a.time ≡ b.time

-- the bytes below the size
pub record SameBytes (a b : Node) : Type 0 where
  pub size : a.size ≡ b.size
  pub bytes : (x : ℕ) → x < a.size → a.bytes x ≡ b.bytes x

-- it has just these bytes
pub record HasBytes (bytes : List ℕ) (b : Node) : Type 0 where
  pub size : b.size ≡ length bytes
  pub all : (x : ℕ) → x < length bytes → b.bytes x ≡ slice_index bytes x

-- ---- what is known of each file, or of each but one

abbrev pub IsFilled : Tree → ℕ → Node → Type 0
IsFilled t i b = (a : Node) → t i ≡ Some a → a.kind ≡ File → SameAttributes a b × SameBytes a b

abbrev pub IsBare : Tree → ℕ → ℕ → Node → Type 0
IsBare t which i b = ((i ≡ which → ⊥) → IsFilled t i b) × (i ≡ which → b.size ≡ 0)

abbrev pub IsWritten : Tree → ℕ → List ℕ → ℕ → Node → Type 0
IsWritten t which bytes i b = ((i ≡ which → ⊥) → IsFilled t i b) × (i ≡ which → HasBytes bytes b)

-- ---- nodes that nobody can tell apart

pub attributes_alike : (a b c : Node) → SameNode b c → SameAttributes a b → SameAttributes a c
attributes_alike a b c s h = record { mode = h.mode ∙ s.mode; owner = h.owner ∙ s.owner; group = h.group ∙ s.group; time = h.time ∙ s.time }

bytes_alike : (a b c : Node) → SameNode b c → SameBytes a b → SameBytes a c
bytes_alike a b c s h = record { size = h.size ∙ s.size; bytes = λ x below. h.bytes x below ∙ s.bytes x (subst (λ n. x < n) h.size below) }

pub filled_stable : (t : Tree) → IsStable (IsFilled t)
filled_stable t i b c s h a shows file = let both = h a shows file in (attributes_alike a b c s both.0, bytes_alike a b c s both.1)

pub bare_stable : (t : Tree) (which : ℕ) → IsStable (IsBare t which)
bare_stable t which i b c s h = (λ other. filled_stable t i b c s (h.0 other), λ is. sym s.size ∙ h.1 is)

pub written_stable : (t : Tree) (which : ℕ) (bytes : List ℕ) → IsStable (IsWritten t which bytes)
written_stable t which bytes i b c s h = (
  λ other. filled_stable t i b c s (h.0 other),
  λ is.
      let has = h.1 is in
      record { size = sym s.size ∙ has.size; all = λ x below. sym (s.bytes x (subst (λ n. x < n) (sym has.size) below)) ∙ has.all x below },
)

-- ---- what calls make of it

-- bytes from the first one on, of a file that had none
pub bytes_written : (bytes : List ℕ) (time : ℕ) (b : Node) → b.size ≡ 0 → HasBytes bytes (with_bytes 0 bytes time b)
bytes_written bytes time b none = record {
  size = omega (arith, none);
  all = λ x below.
      let byte : Bool → ℕ = λ v. cond v (slice_index bytes (x - 0)) (cond (nat_lt x b.size) (b.bytes x) 0) in
      ap byte (and_from (nat_le 0 x) (nat_lt x (0 + length bytes)) (le-leb 0 x (omega arith)) (lt-ltb x (0 + length bytes) (omega (arith, below)))) ∙ ap (slice_index bytes) (omega arith);
}

-- a file without bytes stays so
pub none_written : (b : Node) → b.size ≡ 0 → HasBytes [] b
none_written b none = record { size = none; all = λ x below. absurd (omega (arith, below)) }

all_below : (size : ℕ) → min size (size - 0) ≡ size
all_below size = omega arith

-- the bytes that are read of a file are those that it has
pub read_same : (a b : Node) → HasBytes (bytes_read 0 a.size a) b → SameBytes a b
read_same a b h = record { size = sym long ∙ sym h.size; bytes = λ x below. sym (at x below) ∙ sym (h.all x (subst (λ n. x < n) (sym long) below)) }
  where
    long : length (bytes_read 0 a.size a) ≡ a.size
    long = length-map-range_with_len a.bytes 0 (min a.size (a.size - 0)) ∙ all_below a.size

    at : (x : ℕ) → x < a.size → slice_index (bytes_read 0 a.size a) x ≡ a.bytes x
    at x below = get_or-map-range_with_len a.bytes 0 (min a.size (a.size - 0)) x x 0 (omega (arith, below)) (omega arith)

low_mode : (m : ℕ) → m < 4096 → m % 4096 ≡ m
low_mode m low = omega (arith, low)

pub attributes_set : (a b : Node) → a.mode < 4096 → SameAttributes a (with_attributes a.mode a.owner a.group a.time b)
attributes_set a b low = record { mode = sym (low_mode a.mode low); owner = refl; group = refl; time = refl }
