-- What is told of two inodes, by their numbers.
use Rattle.std.proofs.Common.{◌≡◌, ◌∙◌, ℕ, List, [], ◌++◌, Option, Some, None, Result, OnOk, min, inl, inr, refl, sym, ap, subst, append_assoc, append-nil}
use Rattle.std.specs.Option.{option_map, option_and_then}
use Rattle.nv_super.specs.declared.kind.Kind.{Kind}
use Rattle.nv_super.specs.declared.kind.Kind.TheVariants.{File, Directory}
use Rattle.nv_tree.specs.Tree.{Node, Tree}
use Rattle.nv_difference.specs.Bytes.{AreSameBelow, PartBelow}
use Rattle.nv_difference.specs.Inodes.{IsBytesText, IsContentText, IsInodeText, IsShown, IsSide, numbers_of}
use Rattle.nv_difference.specs.Lines.{bytes_line, kinds_line, numbers_text, only_a_line, only_b_line}
use Rattle.nv_difference.specs.Texts.{Adds}
use Rattle.nv_difference.specs.declared.contents.Numbers.{Numbers}
use Rattle.nv_difference.specs.declared.inodes.Side.{Side}

-- ---- numbers

-- the inode of some numbers
pub node_shown : (o : Option Node) (numbers : Numbers) → option_map numbers_of o ≡ Some numbers → (node : Node) × (o ≡ Some node) × (numbers_of node ≡ numbers)
node_shown None numbers is = absurd (cc)
node_shown (Some node) numbers is = (node, refl, (let same : Some (numbers_of node) ≡ Some numbers = is in cc))

-- the numbers of a node that is shown
pub its_numbers : (t : Tree) (side : Side) (node : Node) → IsShown t side → t side.inode ≡ Some node → numbers_of node ≡ side.numbers
its_numbers t side node is there = (let same : Some (numbers_of node) ≡ Some side.numbers = ap (option_map numbers_of) (sym there) ∙ is in cc)

-- ---- two inodes, or one

module _ (t u : Tree) (a b : Option ℕ) (path old : List ℕ) where
  -- neither is in use
  pub none_told : IsSide (option_and_then t a) a None → IsSide (option_and_then u b) b None → Adds (IsInodeText path (option_and_then t a) (option_and_then u b)) old old
  none_told first second = rw (first, second) ([], refl, sym (append-nil old))

  pub a_told : (side : Side) (new : List ℕ) → IsSide (option_and_then t a) a (Some side) → IsSide (option_and_then u b) b None → new ≡ old ++ only_a_line path
      → Adds (IsInodeText path (option_and_then t a) (option_and_then u b)) old new
  a_told side new first second is = let found = node_shown (option_and_then t a) side.numbers first.1 in rw (found.1, second) (only_a_line path, refl, is)

  pub b_told : (side : Side) (new : List ℕ) → IsSide (option_and_then t a) a None → IsSide (option_and_then u b) b (Some side) → new ≡ old ++ only_b_line path
      → Adds (IsInodeText path (option_and_then t a) (option_and_then u b)) old new
  b_told side new first second is = let found = node_shown (option_and_then u b) side.numbers second.1 in rw (first, found.1) (only_b_line path, refl, is)

  pub shown_of : (v : Tree) (i : Option ℕ) (side : Side) → IsSide (option_and_then v i) i (Some side) → IsShown v side
  shown_of v i side is = subst (λ (o : Option ℕ). option_map numbers_of (option_and_then v o) ≡ Some side.numbers) is.0 is.1

  pub both_told : {E : Type 0} (result : Result (Unit {0}) E) (new : List ℕ) (first second : Side) → IsSide (option_and_then t a) a (Some first) → IsSide (option_and_then u b) b (Some second)
      → ((x y : Node) → t first.inode ≡ Some x → u second.inode ≡ Some y → OnOk result (Adds (IsContentText x.kind y.kind path x y) old new))
      → OnOk result (Adds (IsInodeText path (option_and_then t a) (option_and_then u b)) old new)
  both_told result new first second is other told =
      let x = node_shown (option_and_then t a) first.numbers is.1 in
      let y = node_shown (option_and_then u b) second.numbers other.1 in
      let at : t first.inode ≡ Some x.0 = ap (option_and_then t) (sym is.0) ∙ x.1 in
      let there : u second.inode ≡ Some y.0 = ap (option_and_then u) (sym other.0) ∙ y.1 in
      rw (x.1, y.1) (told x.0 y.0 at there)

-- ---- two inodes in use

module _ (x y : Node) (a b : Numbers) (first : numbers_of x ≡ a) (second : numbers_of y ≡ b) (path old : List ℕ) where
  content_as : (j k : Kind) → a.kind ≡ j → b.kind ≡ k → (new : List ℕ) → Adds (IsContentText j k path x y) old new → Adds (IsContentText x.kind y.kind path x y) old new
  content_as j k is other new told =
      let mine : x.kind ≡ j = ap (λ (n : Numbers). n.kind) first ∙ is in
      let its : y.kind ≡ k = ap (λ (n : Numbers). n.kind) second ∙ other in
      subst (λ (q : Kind). Adds (IsContentText q y.kind path x y) old new) (sym mine) (subst (λ (q : Kind). Adds (IsContentText j q path x y) old new) (sym its) told)

  numbers_are : numbers_text path a b ≡ numbers_text path (numbers_of x) (numbers_of y)
  numbers_are = ap (λ (n : Numbers). numbers_text path n b) (sym first) ∙ ap (numbers_text path (numbers_of x)) (sym second)

  pub files_told : a.kind ≡ File → b.kind ≡ File → (mid new : List ℕ) → mid ≡ old ++ numbers_text path a b → Adds (IsBytesText path x y) mid new → Adds (IsContentText x.kind y.kind path x y) old new
  files_told is other mid new numbers bytes = content_as File File is other new (
    numbers_text path (numbers_of x) (numbers_of y) ++ bytes.0,
    (bytes.0, bytes.1, refl),
    bytes.2 ∙ ap (λ l. l ++ bytes.0) (numbers ∙ ap (λ l. old ++ l) numbers_are) ∙ append_assoc old (numbers_text path (numbers_of x) (numbers_of y)) bytes.0,
  )

  pub directories_told : a.kind ≡ Directory → b.kind ≡ Directory → (new : List ℕ) → new ≡ old ++ numbers_text path a b → Adds (IsContentText x.kind y.kind path x y) old new
  directories_told is other new numbers = content_as Directory Directory is other new (numbers_text path (numbers_of x) (numbers_of y), refl, numbers ∙ ap (λ l. old ++ l) numbers_are)

  kinds_are : kinds_line path a.kind b.kind ≡ kinds_line path x.kind y.kind
  kinds_are = ap (λ (k : Kind). kinds_line path k b.kind) (sym (ap (λ (n : Numbers). n.kind) first)) ∙ ap (λ (k : Kind). kinds_line path x.kind k) (sym (ap (λ (n : Numbers). n.kind) second))

  pub file_directory_told : a.kind ≡ File → b.kind ≡ Directory → (new : List ℕ) → new ≡ old ++ kinds_line path a.kind b.kind → Adds (IsContentText x.kind y.kind path x y) old new
  file_directory_told is other new kinds = content_as File Directory is other new (kinds_line path x.kind y.kind, refl, kinds ∙ ap (λ l. old ++ l) kinds_are)

  pub directory_file_told : a.kind ≡ Directory → b.kind ≡ File → (new : List ℕ) → new ≡ old ++ kinds_line path a.kind b.kind → Adds (IsContentText x.kind y.kind path x y) old new
  directory_file_told is other new kinds = content_as Directory File is other new (kinds_line path x.kind y.kind, refl, kinds ∙ ap (λ l. old ++ l) kinds_are)

  -- ---- bytes

  size_is : min a.size b.size ≡ min x.size y.size
  size_is = ap (λ (n : Numbers). min n.size b.size) (sym first) ∙ ap (λ (n : Numbers). min x.size n.size) (sym second)

  pub place_told : (end place : ℕ) (new : List ℕ) → end ≡ min a.size b.size → PartBelow x y end place → new ≡ old ++ bytes_line path place → Adds (IsBytesText path x y) old new
  place_told end place new is parts told = (bytes_line path place, inl (place, subst (λ (n : ℕ). PartBelow x y n place) (is ∙ size_is) parts, refl), told)

  pub same_told : (end : ℕ) → end ≡ min a.size b.size → AreSameBelow x y end → Adds (IsBytesText path x y) old old
  same_told end is same = ([], inr (subst (AreSameBelow x y) (is ∙ size_is) same, refl), sym (append-nil old))
