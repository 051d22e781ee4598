-- What `read` stands on: where the blocks of a file lie, and why it is refused.
use Rattle.std.proofs.Common.{◌≡◌, ℕ, ◌-◌, ◌<◌, ◌≤◌, min, inl, inr, map, Bool, true, false, not, ◌||◌, ◌==◌, nat_lt, is_none, List, [], ◌∷◌, ◌++◌, refl, sym, ◌∙◌, ap, subst, arith, Option, Some, None, Result, Ok, Err}
use Rattle.std.specs.List.{Contains, range_with_len}
use Rattle.std.proofs.Math.Logic.{∥∥₁_elim}
use Rattle.std.proofs.Math.Nat.{ℕ_set}
use Rattle.std.proofs.Props.{props}
use Rattle.std.proofs.lemmas.Option.{same_Some}
use Rattle.std.proofs.lemmas.Bool.{cases_lt}
use Rattle.std.proofs.lemmas.Bool.Decides.{nat_tests}
use Rattle.nv_region.specs.Region.{Region}
use Rattle.nv_super.specs.declared.superblock.Super.{Super}
use Rattle.nv_super.specs.declared.faults.Fault.{Fault}
use Rattle.nv_super.specs.declared.kind.Kind.{Kind}
use Rattle.nv_super.specs.declared.kind.Kind.TheVariants.{File, Directory}
use Rattle.nv_super.specs.Layout.{Layout}
use Rattle.nv_entry.specs.declared.entry.Entry.{Entry}
use Rattle.nv_entry.specs.declared.entry.Entry.TheVariants.{NextPage, Write, Attr, Name, Links}
use Rattle.nv_entry.specs.declared.entry.WriteEntry.{WriteEntry}
use Rattle.nv_entry.specs.declared.entry.AttrEntry.{AttrEntry}
use Rattle.nv_entry.specs.Content.{is_good, is_write_out_of_range, is_attr_out_of_range}
use Rattle.nv_logpage.specs.declared.found.Placed.{Placed}
use Rattle.nv_logpage.specs.Good.{good_entries}
use Rattle.nv_alloc.specs.FreeValue.{FreeLists}
use Rattle.nv_scan.specs.declared.piece.Row.{Row}
use Rattle.nv_scan.specs.State.{size_in, says_size, size_of}
use Rattle.nv_scan.proofs.Blocks.{data_pages, good_is_good, in_range, last_word-all}
use Rattle.nv_outcome.proofs.SuperOf.{blocks_of_super}
use Rattle.nv_bytes.specs.Bytes.{LieInside}
use Rattle.nv_tree.specs.declared.refusal.Refusal.{Refusal}
use Rattle.nv_tree.specs.declared.refusal.Refusal.TheVariants.{NotFound, IsDirectory}
use Rattle.nv_tree.specs.Tree.{Tree, walk, found}
use Rattle.nv_tree.specs.Refusals.{Path, first_refusal, refused_walk, is_dir, stat_tests, read_tests}
use Rattle.nv_calls.specs.Mount.{Mount, IsKept}

-- ---- where the blocks of a file lie

-- the size in an entry that isn't out of range
write_size : (l : Layout) (e : WriteEntry) → is_write_out_of_range l.sup e ≡ false → e.size ≤ 1073741824
write_size l e good = grind (arith, nat_tests)

none_last : (a b : Bool) → (a || not b) ≡ false → b ≡ true
none_last true b h = absurd (cc)
none_last false true h = refl
none_last false false h = absurd (cc)

no_size : (e : AttrEntry) → (e.size == 0) ≡ true → e.size ≤ 1073741824
no_size e none = grind (arith, nat_tests)

attr_size : (k : Kind) (e : AttrEntry) → is_attr_out_of_range k e ≡ false → e.size ≤ 1073741824
attr_size File e good = grind (arith, nat_tests)
attr_size Directory e good = no_size e (none_last (nat_lt 4095 e.mode) (e.size == 0) good)

size_fits : (l : Layout) (k : Kind) (e : Entry) (z : ℕ) → is_good l.sup k e ≡ true → size_in e ≡ Some z → z ≤ 1073741824
size_fits l k (Write e) z good is = subst (λ (n : ℕ). n ≤ 1073741824) (same_Some e.size z is) (write_size l e (in_range l.sup k (Write e) good))
size_fits l k (Attr e) z good is = subst (λ (n : ℕ). n ≤ 1073741824) (same_Some e.size z is) (attr_size k e (in_range l.sup k (Attr e) good))
size_fits l k NextPage z good is = absurd (cc)
size_fits l k (Name e) z good is = absurd (cc)
size_fits l k (Links e) z good is = absurd (cc)

-- no file has more bytes
small_size : (l : Layout) (k : Kind) (es : List Placed) → size_of (good_entries l.sup k es) ≤ 1073741824
small_size l k es = last_word-all says_size (λ z. z ≤ 1073741824) 0 (good_entries l.sup k es) (omega arith) (λ x z c is. size_fits l k x.entry z (good_is_good l.sup k es x c) is)

-- the blocks of a row lie inside the region
pub blocks_inside : (R : Region) (s : Super) (l : Layout) (rows : List Row) (free : FreeLists) (faults : List Fault) (read_only stopped : Bool) → IsKept R s l rows free faults read_only stopped → stopped ≡ false → (row : Row) → Contains rows row → LieInside R row.index
blocks_inside R s l rows free faults read_only stopped kept runs row c p b at = ∥∥₁_elim (kept.shown runs) (hlevel (props, ℕ_set)) (λ w.
    let r = w.1.rows.each row c in
    let inside = data_pages l.sup r.1.kind r.1.entries p b (sym (r.2.index p) ∙ at) in
    let blocks = blocks_of_super R l.sup w.1.sup in
    omega (arith, inside.2, blocks))

-- and its size is small
pub row_size : (R : Region) (s : Super) (l : Layout) (rows : List Row) (free : FreeLists) (faults : List Fault) (read_only stopped : Bool) → IsKept R s l rows free faults read_only stopped → stopped ≡ false → (row : Row) → Contains rows row → row.numbers.size ≤ 1073741824
row_size R s l rows free faults read_only stopped kept runs row c = ∥∥₁_elim (kept.shown runs) (hlevel (props, ℕ_set)) (λ w.
    let r = w.1.rows.each row c in
    subst (λ (z : ℕ). z ≤ 1073741824) (sym r.2.numbers.size) (small_size l r.1.kind r.1.entries))

-- what is said of a mount, and of what it is equal to
pub contains_as : {P : Type 0} {m n : Mount P} (row : Row) → m ≡ n → Contains n.rows row → Contains m.rows row
contains_as {P} {m} {n} row same c = subst (λ (k : Mount P). Contains k.rows row) (sym same) c

pub runs_as : {P : Type 0} {m n : Mount P} → m ≡ n → n.stopped ≡ false → m.stopped ≡ false
runs_as {P} {m} {n} same runs = ap (λ (k : Mount P). k.stopped) same ∙ runs

-- ---- what is read

-- From an offset behind the size there are no bytes.
pub same_read : (byte : ℕ → ℕ) (offset count size from left some : ℕ) → from ≡ min offset size → left ≡ size - offset → some ≡ min count left → map byte (range_with_len from some) ≡ map byte (range_with_len offset (min count (size - offset)))
same_read byte offset count size from left some from_is left_is some_is = elim (cases_lt offset size) [
  | inl inside ↦ (λ k. map byte (range_with_len (here inside k) (as_many k)))
  | inr behind ↦ (ap (λ (n : ℕ). map byte (range_with_len from n)) (none behind) ∙ ap (λ (n : ℕ). map byte (range_with_len offset n)) (sym (none behind) ∙ as_many))
] where
  as_many : some ≡ min count (size - offset)
  as_many = some_is ∙ ap (min count) left_is

  here : offset < size → from ≡ offset
  here inside = omega (arith, inside, from_is)

  none : size ≤ offset → some ≡ 0
  none behind = omega (arith, behind, left_is, some_is)

-- ---- refusals

-- what refuses `stat` refuses `read`
pub read_refused : (t : Tree) (p : Path) (e : Refusal) → first_refusal (stat_tests t p) ≡ Some e → first_refusal (read_tests t p) ≡ Some e
read_refused t None e h = h
read_refused t (Some names) e h = by (walk t 1 names) (found t names) (is_dir t (Some names)).0 h where
  by : (w : Result ℕ Refusal) (o : Option ℕ) (b : Bool) → first_refusal (refused_walk w ++ (is_none o, NotFound) ∷ []) ≡ Some e → first_refusal (refused_walk w ++ (is_none o, NotFound) ∷ (b, IsDirectory) ∷ []) ≡ Some e
  by (Err r) o b h = h
  by (Ok d) None b h = h
  by (Ok d) (Some i) b h = absurd (cc)
