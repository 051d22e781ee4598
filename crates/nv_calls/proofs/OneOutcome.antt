-- Alike regions have one outcome, and trees that show the same.
use Rattle.std.proofs.Common.{◌≡◌, inl, ℕ, ◌*◌, ◌<◌, ◌/◌, ◌%◌, List, [], ◌∷◌, refl, sym, ap, subst, ◌∙◌, arith, Option, Some, None}
use Rattle.std.specs.List.{Contains}
use Rattle.std.proofs.Math.Logic.{∥∥₁_elim, ∥∥₁_map}
use Rattle.std.proofs.Math.Nat.{ℕ_set}
use Rattle.std.proofs.Props.{props}
use Rattle.nv_region.specs.Region.{Region, size}
use Rattle.nv_super.specs.declared.superblock.Super.{Super}
use Rattle.nv_super.specs.declared.superblock.SuperFault.{SuperFault}
use Rattle.nv_super.specs.declared.superblock.SuperFault.TheVariants.{Length}
use Rattle.nv_super.specs.Layout.{Layout}
use Rattle.nv_super.specs.Super.{IsRefused, IsSuper}
use Rattle.nv_super.specs.declared.owners.Run.{Run}
use Rattle.nv_super.specs.declared.kind.Kind.{Kind}
use Rattle.nv_super.specs.declared.kind.Kind.TheVariants.{File, Directory}
use Rattle.nv_journal.specs.Undo.{undone}
use Rattle.nv_radix.specs.Pages.{block_at}
use Rattle.nv_scan.specs.declared.piece.Row.{Row}
use Rattle.nv_outcome.specs.Outcome.{Outcome, IsOutcome}
use Rattle.nv_outcome.specs.Same.{SameOutcome, SameRow, SameRows}
use Rattle.nv_graph.specs.Read.{row_of}
use Rattle.nv_outcome.proofs.OnlyOne.{same_outcome}
use Rattle.nv_outcome.proofs.SuperOf.{blocks_of_super, is_equal}
use Rattle.nv_mounted.specs.Held.{Store}
use Rattle.nv_mounted.specs.Bytes.{byte_in}
use Rattle.nv_mounted.specs.Mounted.{ShowsSound, faultless_outcome, outcome_layout}
use Rattle.nv_mounted.proofs.Closes as closes
use Rattle.nv_mounted.proofs.Opens as opens
use Rattle.nv_paths.specs.Seen.{tree_of}
use Rattle.nv_calls.specs.Alike.{AreAlike, ShowAlike}
use Rattle.nv_calls.proofs.RowChange.{row_there}
use Rattle.nv_calls.proofs.SameContents.{SameFiles}
use Rattle.nv_calls.proofs.SeenAlike.{Alike, HasBytes, alike_rows, files_rows}

-- ---- what is known to be so is so

never_prop : IsProp ⊥
never_prop = hlevel props

pub kind_known : (a b : Kind) → ∥ (b ≡ a) ∥₁ → b ≡ a
kind_known File File known = refl
kind_known Directory Directory known = refl
kind_known File Directory known = absurd (∥∥₁_elim known never_prop (λ e. (cc)))
kind_known Directory File known = absurd (∥∥₁_elim known never_prop (λ e. (cc)))

row_known : (a b : Row) → ∥ (SameRow a b) ∥₁ → SameRow a b
row_known a b known = record {
  inode = ∥∥₁_elim known (let prop : IsProp (b.inode ≡ a.inode) = hlevel (props, ℕ_set) in prop) (λ s. s.inode);
  kind = kind_known a.kind b.kind (∥∥₁_map known (λ s. s.kind));
  numbers = ∥∥₁_elim known (let prop : IsProp (b.numbers ≡ a.numbers) = hlevel (props, ℕ_set) in prop) (λ s. s.numbers);
  head = ∥∥₁_elim known (let prop : IsProp (b.head ≡ a.head) = hlevel (props, ℕ_set) in prop) (λ s. s.head);
  tail = ∥∥₁_elim known (let prop : IsProp (b.tail ≡ a.tail) = hlevel (props, ℕ_set) in prop) (λ s. s.tail);
  pages = ∥∥₁_elim known (let prop : IsProp (b.pages.items ≡ a.pages.items) = hlevel (props, ℕ_set) in prop) (λ s. s.pages);
  index = λ p. ∥∥₁_elim known (hlevel (props, ℕ_set)) (λ s. s.index p);
  names = λ q. ∥∥₁_elim known (hlevel (props, ℕ_set)) (λ s. s.names q);
}

pub rows_known : (xs ys : List Row) → ∥ (SameRows xs ys) ∥₁ → SameRows xs ys
rows_known [] [] known = tt
rows_known [] (y ∷ ys) known = ∥∥₁_elim known never_prop (λ s. s)
rows_known (x ∷ xs) [] known = ∥∥₁_elim known never_prop (λ s. s)
rows_known (x ∷ xs) (y ∷ ys) known = (row_known x y (∥∥₁_map known (λ s. s.0)), rows_known xs ys (∥∥₁_map known (λ s. s.1)))

pub none_known : {A : Type 0} (xs : List A) → ∥ ([] ≡ xs) ∥₁ → [] ≡ xs
none_known [] known = refl
none_known (x ∷ xs) known = absurd (∥∥₁_elim known never_prop (λ e. (cc)))

pub pools_prop : (a b : List (List Run)) → IsProp (a ≡ b)
pools_prop a b = hlevel (props, ℕ_set)

pub chains_prop : (a b : List (List ℕ)) → IsProp (b ≡ a)
chains_prop a b = hlevel (props, ℕ_set)

super_set : (a b : Super) → IsProp (b ≡ a)
super_set a b = hlevel (props, ℕ_set)

-- ---- one outcome

-- the layouts of outcomes that are the same are one
pub same_layout : (l k : Layout) (rows others : List Row) (free more : List (List Run)) → SameOutcome (faultless_outcome l rows free) (faultless_outcome k others more) → k ≡ l
same_layout l k rows others free more same = λ j. record { sup = same.sup j; chains = same.tables j }

-- What is seen of a region that shows something sound: its outcome has no fault, and these rows and free lists.
pub as_faultless : {R : Region} {l : Layout} {held : Store} (m : ShowsSound R l held) (o : Outcome) (is : IsOutcome R o) → SameOutcome (faultless_outcome l o.rows o.free) o
as_faultless {R} {l} m o is = same_outcome R (faultless_outcome l o.rows o.free) o (closes.closing m o.rows o.free (closes.outcome_kept m o is)) is

module _ {l : Layout} {held : Store} {R S : Region} (w : ShowAlike l held R S) where
  module _ (o other : Outcome) (is : IsOutcome R o) (is_other : IsOutcome S other) where
    there : SameOutcome (faultless_outcome l o.rows o.free) other
    there = same_outcome S (faultless_outcome l o.rows o.free) other (closes.closing w.second o.rows o.free (closes.outcome_kept w.first o is)) is_other

    pub one_outcome : SameOutcome o other
    one_outcome =
        let here = as_faultless w.first o is in
        record { sup = there.sup ∙ sym here.sup; tables = there.tables ∙ sym here.tables; rows = there.rows; free = there.free; doubled = there.doubled ∙ sym here.doubled; faults = there.faults ∙ sym here.faults }

    -- a row's file has the same bytes
    row_bytes : (row : Row) → Contains o.rows row → (x : ℕ) → x < row.numbers.size → byte_in S (block_at row.index (x / 4096)) x ≡ byte_in R (block_at row.index (x / 4096)) x
    row_bytes row c x below =
        let keeps = closes.outcome_kept w.first o is in
        let in_rows = keeps.in_rows in
        let k = in_rows.each row c in
        let told = k.2 in
        let numbers = told.numbers in
        ap (λ (b : Option ℕ). byte_in S b x) (told.index (x / 4096))
        ∙ w.bytes row.inode x k.0 k.1 (subst (λ (n : ℕ). x < n) numbers.size below)
        ∙ ap (λ (b : Option ℕ). byte_in R b x) (sym (told.index (x / 4096)))

    have_bytes : (b : Option Row) → ((row : Row) → b ≡ Some row → Contains o.rows row) → HasBytes R S b
    have_bytes None each = tt
    have_bytes (Some row) each = row_bytes row (each row refl)

    each_bytes : (i : ℕ) → HasBytes R S (row_of o.rows i)
    each_bytes i = have_bytes (row_of o.rows i) (λ row at. row_there o.rows i row at)

    pub trees_alike : Alike (tree_of R o.rows) (tree_of S other.rows)
    trees_alike = let same = one_outcome in alike_rows R S o.rows other.rows same.rows each_bytes

    pub files_alike : SameFiles (tree_of R o.rows) (tree_of S other.rows)
    files_alike = let same = one_outcome in files_rows R S o.rows other.rows same.rows each_bytes

-- the same where only that they are alike is known
pub alike_outcome : (R S : Region) (o other : Outcome) → AreAlike R S → IsOutcome R o → IsOutcome S other → SameOutcome o other
alike_outcome R S o other known is is_other = (let same = ∥∥₁_map known (λ w. one_outcome w.2 o other is is_other) in record {
  sup = ∥∥₁_elim same (super_set o.sup other.sup) (λ x. x.sup);
  tables = ∥∥₁_elim same (chains_prop o.tables other.tables) (λ x. x.tables);
  rows = rows_known o.rows other.rows (∥∥₁_map same (λ x. x.rows));
  free = ∥∥₁_elim same (pools_prop other.free o.free) (λ x. x.free);
  doubled = sym (none_known other.doubled (∥∥₁_map known (λ w. (let x = as_faultless w.2.second other is_other in sym x.doubled)))) ∙ none_known o.doubled (∥∥₁_map known (λ w. (let x = as_faultless w.2.first o is in sym x.doubled)));
  faults = sym (none_known other.faults (∥∥₁_map known (λ w. (let x = as_faultless w.2.second other is_other in sym x.faults)))) ∙ none_known o.faults (∥∥₁_map known (λ w. (let x = as_faultless w.2.first o is in sym x.faults)));
})

-- a region without faults in which nothing is pending is alike itself
pub alike_itself : (R : Region) (o : Outcome) → IsOutcome R o → o.faults ≡ [] → undone o.sup R ≡ R → AreAlike R R
alike_itself R o is none own =
    let w = opens.opening R o is none own in
    let m = w.1 in
    ∣ (outcome_layout o, w.0, record { first = m.sound; second = m.sound; bytes = λ i x h at below. refl }) ∣₁

-- ---- what follows for a region that is alike another

-- neither is refused for its superblock
pub alike_unrefused : (R S : Region) → AreAlike R S → (fault : SuperFault) → IsRefused R fault → ⊥
alike_unrefused R S known fault refused = ∥∥₁_elim known never_prop (λ w. (let m = w.2.first in m.sup.sound fault refused.applies))

pub second_unrefused : (R S : Region) → AreAlike R S → (fault : SuperFault) → IsRefused S fault → ⊥
second_unrefused R S known fault refused = ∥∥₁_elim known never_prop (λ w. (let m = w.2.second in m.sup.sound fault refused.applies))

own_prop : (s : Super) (R : Region) → IsProp (undone s R ≡ R)
own_prop s R = hlevel (props, ℕ_set)

-- each is its own undone region
pub alike_own : (R S : Region) → AreAlike R S → (o other : Outcome) → IsOutcome R o → IsOutcome S other → (undone o.sup R ≡ R) × (undone other.sup S ≡ S)
alike_own R S known o other is is_other = (
  ∥∥₁_elim known (own_prop o.sup R) (λ w. (let x = as_faultless w.2.first o is in ap (λ (s : Super). undone s R) x.sup ∙ closes.own_undo w.2.first)),
  ∥∥₁_elim known (own_prop other.sup S) (λ w. (let x = as_faultless w.2.second other is_other in ap (λ (s : Super). undone s S) x.sup ∙ closes.own_undo w.2.second)),
)

-- an outcome without doubled blocks and faults
abbrev bare : Outcome → Outcome
bare o = faultless_outcome (outcome_layout o) o.rows o.free

made_bare : (R : Region) (o : Outcome) → IsOutcome R o → [] ≡ o.doubled → [] ≡ o.faults → IsOutcome R (bare o)
made_bare R o is doubled faults = subst (λ (p : Outcome). IsOutcome R p) same is where
  same : o ≡ bare o
  same = λ j. record o { doubled = (sym doubled) j; faults = (sym faults) j }

-- the outcome of each has none
pub alike_faultless : (R S : Region) → AreAlike R S → (o : Outcome) → IsOutcome R o → IsOutcome R (faultless_outcome (outcome_layout o) o.rows o.free)
alike_faultless R S known o is = made_bare R o is
    (none_known o.doubled (∥∥₁_map known (λ w. (let x = as_faultless w.2.first o is in sym x.doubled))))
    (none_known o.faults (∥∥₁_map known (λ w. (let x = as_faultless w.2.first o is in sym x.faults))))

pub second_faultless : (R S : Region) → AreAlike R S → (o : Outcome) → IsOutcome S o → IsOutcome S (faultless_outcome (outcome_layout o) o.rows o.free)
second_faultless R S known o is = made_bare S o is
    (none_known o.doubled (∥∥₁_map known (λ w. (let x = as_faultless w.2.second o is in sym x.doubled))))
    (none_known o.faults (∥∥₁_map known (λ w. (let x = as_faultless w.2.second o is in sym x.faults))))

-- an outcome without faults has no doubled blocks
pub faultless_bare : (R : Region) (o : Outcome) → IsOutcome R o → o.faults ≡ [] → undone o.sup R ≡ R → IsOutcome R (faultless_outcome (outcome_layout o) o.rows o.free)
faultless_bare R o is none own =
    let w = opens.opening R o is none own in
    let m = w.1 in
    closes.closing m.sound o.rows o.free m.keeps

-- ---- their length

-- a region has just its blocks
size_is : (R : Region) (l : Layout) → IsSuper R l.sup → size R ≡ l.sup.blocks * 4096
size_is R l is =
    let whole = is_equal (size R % 4096) 0 (λ part. is.sound Length (inl part)) in
    let blocks = blocks_of_super R l.sup is in
    omega (arith, whole, blocks)

sizes_prop : (a b : ℕ) → IsProp (a ≡ b)
sizes_prop a b = hlevel (props, ℕ_set)

pub alike_size : (R S : Region) → AreAlike R S → size R ≡ size S
alike_size R S known = ∥∥₁_elim known (sizes_prop (size R) (size S)) (λ w. (let m = w.2.first in let k = w.2.second in size_is R w.0 m.sup ∙ sym (size_is S w.0 k.sup)))
