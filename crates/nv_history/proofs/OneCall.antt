-- What comes of one call, by what its texts say: a row for each call.
use Rattle.std.proofs.Common.{◌≡◌, ◌⊎◌, ℕ, ◌+◌, Bool, true, false, not, eqb, nat_lt, inl, inr, List, [], ◌∷◌, length, refl, sym, ap, ◌∙◌, subst, Option, Some, None, arith}
use Rattle.std.specs.Prelude.{◌<◌, ⊤}
use Rattle.std.proofs.Math.Logic.{∥∥₁_map}
use Rattle.std.proofs.lemmas.Bool.Decides.{nat_tests}
use Rattle.nv_region.specs.Region.{Region}
use Rattle.nv_super.specs.Layout.{Layout}
use Rattle.nv_super.specs.declared.superblock.Super.{Super}
use Rattle.nv_super.specs.declared.owners.Run.{Run}
use Rattle.nv_super.specs.declared.kind.Kind.{Kind}
use Rattle.nv_super.specs.declared.kind.Kind.TheVariants.{File, Directory}
use Rattle.nv_inode.specs.Upgraded.{upgraded, upgraded_layout}
use Rattle.nv_bytes.specs.Data.{data_bytes}
use Rattle.nv_journal.specs.Undo.{undone}
use Rattle.nv_scan.specs.declared.piece.Row.{Row}
use Rattle.nv_paths.specs.Spots.{new_number}
use Rattle.nv_tree.specs.declared.refusal.Refusal.TheVariants.{BadCpu, BadName, IsVersion2, ReadOnly}
use Rattle.nv_tree.specs.Calls.{created}
use Rattle.nv_tree.specs.Path.{IsPath, Says}
use Rattle.nv_tree.specs.Tree.{SameTree, Tree}
use Rattle.nv_tree.specs.Refusals.{Path, Tests, World, first_refusal, is_bad_name, writing}
use Rattle.nv_tree.specs.Refusals.{stat_tests, write_tests}
use Rattle.nv_tree.proofs.Texts.{says_one, text_says}
use Rattle.nv_paths.specs.Seen.{tree_of}
use Rattle.nv_calls.specs.Effects.{LogsBytes, LogsUnlink, logs_attributes, logs_inode, logs_link, logs_page_less, logs_removal, logs_rename, logs_size}
use Rattle.nv_calls.specs.Effects.{makes_inode}
use Rattle.nv_calls.specs.Mount.{IsKept, Mount}
use Rattle.nv_calls.specs.Same.{GrowsWhereFull}
use Rattle.nv_calls.specs.Stopped.{IsAsMade, IsAsMounted, MayHaveGrown, RecoversTo, StopLeaves}
use Rattle.nv_calls.specs.World.{world_of}
use Rattle.nv_calls.proofs.Allowed.{first_passes}
use Rattle.nv_calls.proofs.NeedsExist.{write_needs}
use Rattle.nv_history.specs.declared.calls.Call.{Call}
use Rattle.nv_history.specs.declared.calls.Call.TheVariants as calls
use Rattle.nv_history.specs.Said.{Said, said, Create, MakeDirectory, Write, SetSize, SetAttributes, Link, Unlink, RemoveDirectory, Rename, Clean, Upgrade}
use Rattle.nv_history.specs.Making.{IsMadeBy, lowest_unused, super_behind}
use Rattle.nv_history.specs.Keeping.{MayBeLaid}
use Rattle.nv_history.specs.Asking.{AreTestsOf, AskedBy, AskedByBoth, attributes_asked, clean_asked, create_asked, link_asked, removal_asked, rename_asked, size_asked, unlink_asked, upgrade_asked}
use Rattle.nv_history.specs.Called.{AreNames, AreTwoPaths, IsOnePath, call_makes, call_stops}
use Rattle.nv_history.proofs.Growing.{MayHave, before_laid, made_laid}
use Rattle.nv_history.proofs.NewNumbers.{number_given, numbers_same}

-- ---- names

abbrev pub HasNames : Said → Type 0
HasNames call = (names : List (List ℕ)) × (others : List (List ℕ)) × AreNames call names others

abbrev pub NoNames : Said → Type 0
NoNames call = (names others : List (List ℕ)) → AreNames call names others → ⊥

one_text : (text : List ℕ) → ((names : List (List ℕ)) × (others : List (List ℕ)) × IsOnePath text names others) ⊎ ((names others : List (List ℕ)) → IsOnePath text names others → ⊥)
one_text text = by (text_says text) where
  by : (p : Path) × Says text p → ((names : List (List ℕ)) × (others : List (List ℕ)) × IsOnePath text names others) ⊎ ((names others : List (List ℕ)) → IsOnePath text names others → ⊥)
  by (None, says) = inr (λ names others is. says names is.0)
  by (Some names, is) = inl (names, [], (is, refl))

two_texts : (old new : List ℕ) → ((names : List (List ℕ)) × (others : List (List ℕ)) × AreTwoPaths old new names others) ⊎ ((names others : List (List ℕ)) → AreTwoPaths old new names others → ⊥)
two_texts old new = by (text_says old) (text_says new) where
  by : (p : Path) × Says old p → (q : Path) × Says new q → ((names : List (List ℕ)) × (others : List (List ℕ)) × AreTwoPaths old new names others) ⊎ ((names others : List (List ℕ)) → AreTwoPaths old new names others → ⊥)
  by (None, says) other = inr (λ names others are. says names are.0)
  by (Some names, is) (None, says) = inr (λ first others are. says others are.1)
  by (Some names, is) (Some others, are) = inl (names, others, (is, are))

-- a call's texts say names, or not
pub names_or_none : (call : Said) → HasNames call ⊎ NoNames call
names_or_none (Create cpu path mode time) = one_text path
names_or_none (MakeDirectory cpu path mode time) = one_text path
names_or_none (Write cpu path offset bytes time) = one_text path
names_or_none (SetSize cpu path size time) = one_text path
names_or_none (SetAttributes cpu path mode owner group time) = one_text path
names_or_none (Link cpu old new time) = two_texts old new
names_or_none (Unlink cpu path time) = one_text path
names_or_none (RemoveDirectory cpu path time) = one_text path
names_or_none (Rename cpu old new time) = two_texts old new
names_or_none (Clean path) = one_text path
names_or_none Upgrade = inl ([], [], (refl, refl))

abbrev SameNames : List (List ℕ) → List (List ℕ) → List (List ℕ) → List (List ℕ) → Type 0
SameNames names others first second = (first ≡ names) × (second ≡ others)

says_names : (text : List ℕ) (a b : List (List ℕ)) → IsPath text a → IsPath text b → b ≡ a
says_names text a b is other = let one : ◌≡◌ {A = Path} (Some b) (Some a) = says_one text (Some b) (Some a) other is in cc

one_once : (text : List ℕ) (names others first second : List (List ℕ)) → IsOnePath text names others → IsOnePath text first second → SameNames names others first second
one_once text names others first second is other = (says_names text names first is.0 other.0, other.1 ∙ sym is.1)

two_once : (old new : List ℕ) (names others first second : List (List ℕ)) → AreTwoPaths old new names others → AreTwoPaths old new first second → SameNames names others first second
two_once old new names others first second is other = (says_names old names first is.0 other.0, says_names new others second is.1 other.1)

-- they say one thing
pub names_once : (call : Said) (names others first second : List (List ℕ)) → AreNames call names others → AreNames call first second → (first ≡ names) × (second ≡ others)
names_once (Create cpu path mode time) = one_once path
names_once (MakeDirectory cpu path mode time) = one_once path
names_once (Write cpu path offset bytes time) = one_once path
names_once (SetSize cpu path size time) = one_once path
names_once (SetAttributes cpu path mode owner group time) = one_once path
names_once (Link cpu old new time) = two_once old new
names_once (Unlink cpu path time) = one_once path
names_once (RemoveDirectory cpu path time) = one_once path
names_once (Rename cpu old new time) = two_once old new
names_once (Clean path) = one_once path
names_once Upgrade = λ names others first second is other. (other.0 ∙ sym is.0, other.1 ∙ sym is.1)

-- ---- tests

-- a text that is no path is refused
refuses_bad : (w : World) (cpu : ℕ) → first_refusal (writing w cpu ((true, BadName) ∷ [])) ≡ None → ⊥
refuses_bad w cpu = by (not (nat_lt cpu w.cpus)) w.read_only
  where
    by : (a b : Bool) → first_refusal ((a, BadCpu) ∷ (b, ReadOnly) ∷ (true, BadName) ∷ []) ≡ None → ⊥
    by true b none = cc
    by false true none = cc
    by false false none = cc

-- the same of `clean`
refuses_clean : (w : World) → first_refusal ((w.read_only, ReadOnly) ∷ (true, BadName) ∷ []) ≡ None → ⊥
refuses_clean w = by w.read_only
  where
    by : (b : Bool) → first_refusal ((b, ReadOnly) ∷ (true, BadName) ∷ []) ≡ None → ⊥
    by true none = cc
    by false none = cc

-- and so is a second one
refuses_second : (w : World) (cpu : ℕ) (names : List (List ℕ)) → first_refusal (writing w cpu (is_bad_name (Some names) ∷ (true, BadName) ∷ [])) ≡ None → ⊥
refuses_second w cpu [] = refuses_bad w cpu
refuses_second w cpu (name ∷ names) = refuses_bad w cpu

-- the first test of a writing call
pub can_write : (w : World) (cpu : ℕ) (tests all : Tests) → all ≡ writing w cpu tests → first_refusal all ≡ None → w.read_only ≡ false
can_write w cpu tests all is none = by (not (nat_lt cpu w.cpus)) w.read_only (ap first_refusal (sym is) ∙ none) where
  by : (bad read_only : Bool) → first_refusal ((bad, BadCpu) ∷ (read_only, ReadOnly) ∷ tests) ≡ None → read_only ≡ false
  by true read_only none = absurd (cc)
  by false true none = absurd (cc)
  by false false none = refl

-- and the one before it
cpu_there : (w : World) (cpu : ℕ) (tests all : Tests) → all ≡ writing w cpu tests → first_refusal all ≡ None → cpu < w.cpus
cpu_there w cpu tests all is none = by (nat_lt cpu w.cpus) refl (ap first_refusal (sym is) ∙ none) where
  by : (inside : Bool) → nat_lt cpu w.cpus ≡ inside → first_refusal ((not inside, BadCpu) ∷ (w.read_only, ReadOnly) ∷ tests) ≡ None → cpu < w.cpus
  by true test none = grind (arith, nat_tests)
  by false test none = absurd (cc)

one_named : (text : List ℕ) (asked : Path → Tests) (tests : Tests) → (first_refusal (asked None) ≡ None → ⊥) → AskedBy text asked tests → first_refusal tests ≡ None → (names : List (List ℕ)) × (others : List (List ℕ)) × IsOnePath text names others
one_named text asked tests bad (None, says, is) none = absurd (bad (ap first_refusal (sym is) ∙ none))
one_named text asked tests bad (Some names, says, is) none = (names, [], (says, refl))

two_named : (old new : List ℕ) (asked : Path → Path → Tests) (tests : Tests) → ((q : Path) → first_refusal (asked None q) ≡ None → ⊥) → ((names : List (List ℕ)) → first_refusal (asked (Some names) None) ≡ None → ⊥)
    → AskedByBoth old new asked tests → first_refusal tests ≡ None → (names : List (List ℕ)) × (others : List (List ℕ)) × AreTwoPaths old new names others
two_named old new asked tests bad worse (None, q, says, other, is) none = absurd (bad q (ap first_refusal (sym is) ∙ none))
two_named old new asked tests bad worse (Some names, None, says, other, is) none = absurd (worse names (ap first_refusal (sym is) ∙ none))
two_named old new asked tests bad worse (Some names, Some others, says, other, is) none = (names, others, (says, other))

one_asked : (text : List ℕ) (asked : Path → Tests) → (tests : Tests) × AskedBy text asked tests
one_asked text asked = (let p = text_says text in (asked p.0, (p.0, p.1, refl)))

two_asked : (old new : List ℕ) (asked : Path → Path → Tests) → (tests : Tests) × AskedByBoth old new asked tests
two_asked old new asked = (let p = text_says old in let q = text_says new in (asked p.0 q.0, (p.0, q.0, p.1, q.1, refl)))

module _ {P : Type 0} (R : Region) (m : Mount P) where
  abbrev t : Tree
  t = tree_of R m.rows

  abbrev w : World
  w = world_of m

  write_exists : (cpu : ℕ) (path : List ℕ) (offset : ℕ) (bytes : List ℕ) (time : ℕ) → (tests : Tests) × AreTestsOf R m (Write cpu path offset bytes time) tests
  write_exists cpu path offset bytes time = (let p = text_says path in let n = write_needs R m cpu p.0 offset (length bytes) time in (write_tests w t cpu p.0 (offset + length bytes) n.0, (p.0, p.1, (n.0, n.1, refl))))

  -- each call is asked something
  pub tests_exist : (call : Said) → (tests : Tests) × AreTestsOf R m call tests
  tests_exist (Create cpu path mode time) = one_asked path (create_asked R m cpu)
  tests_exist (MakeDirectory cpu path mode time) = one_asked path (create_asked R m cpu)
  tests_exist (Write cpu path offset bytes time) = write_exists cpu path offset bytes time
  tests_exist (SetSize cpu path size time) = one_asked path (size_asked R m cpu size)
  tests_exist (SetAttributes cpu path mode owner group time) = one_asked path (attributes_asked R m cpu)
  tests_exist (Link cpu old new time) = two_asked old new (link_asked R m cpu)
  tests_exist (Unlink cpu path time) = one_asked path (unlink_asked R m cpu)
  tests_exist (RemoveDirectory cpu path time) = one_asked path (removal_asked R m cpu)
  tests_exist (Rename cpu old new time) = two_asked old new (rename_asked R m cpu)
  tests_exist (Clean path) = one_asked path (clean_asked R m)
  tests_exist Upgrade = (upgrade_asked m, refl)

  write_named : (cpu : ℕ) (path : List ℕ) (offset : ℕ) (bytes : List ℕ) (time : ℕ) (tests : Tests) → AreTestsOf R m (Write cpu path offset bytes time) tests → first_refusal tests ≡ None → (names : List (List ℕ)) × (others : List (List ℕ)) × IsOnePath path names others
  write_named cpu path offset bytes time tests (None, says, (count, needs, is)) none = absurd (refuses_bad w cpu (ap first_refusal (sym is) ∙ none))
  write_named cpu path offset bytes time tests (Some names, says, (count, needs, is)) none = (names, [], (says, refl))

  -- where no test refuses it, its texts are paths
  pub tests_named : (call : Said) (tests : Tests) → AreTestsOf R m call tests → first_refusal tests ≡ None → HasNames call
  tests_named (Create cpu path mode time) tests asked none = one_named path (create_asked R m cpu) tests (refuses_bad w cpu) asked none
  tests_named (MakeDirectory cpu path mode time) tests asked none = one_named path (create_asked R m cpu) tests (refuses_bad w cpu) asked none
  tests_named (Write cpu path offset bytes time) tests asked none = write_named cpu path offset bytes time tests asked none
  tests_named (SetSize cpu path size time) tests asked none = one_named path (size_asked R m cpu size) tests (refuses_bad w cpu) asked none
  tests_named (SetAttributes cpu path mode owner group time) tests asked none = one_named path (attributes_asked R m cpu) tests (refuses_bad w cpu) asked none
  tests_named (Link cpu old new time) tests asked none = two_named old new (link_asked R m cpu) tests (λ q. refuses_bad w cpu) (λ names. refuses_bad w cpu) asked none
  tests_named (Unlink cpu path time) tests asked none = one_named path (unlink_asked R m cpu) tests (refuses_bad w cpu) asked none
  tests_named (RemoveDirectory cpu path time) tests asked none = one_named path (removal_asked R m cpu) tests (refuses_bad w cpu) asked none
  tests_named (Rename cpu old new time) tests asked none = two_named old new (rename_asked R m cpu) tests (λ q. refuses_bad w cpu) (refuses_second w cpu) asked none
  tests_named (Clean path) tests asked none = one_named path (clean_asked R m) tests (refuses_clean w) asked none
  tests_named Upgrade tests asked none = ([], [], (refl, refl))

  -- and what is mounted may be written
  pub tests_write : (call : Said) (tests : Tests) → AreTestsOf R m call tests → first_refusal tests ≡ None → m.read_only ≡ false
  tests_write (Create cpu path mode time) tests asked none = can_write w cpu _ tests asked.2 none
  tests_write (MakeDirectory cpu path mode time) tests asked none = can_write w cpu _ tests asked.2 none
  tests_write (Write cpu path offset bytes time) tests asked none = can_write w cpu _ tests asked.2.2 none
  tests_write (SetSize cpu path size time) tests asked none = can_write w cpu _ tests asked.2 none
  tests_write (SetAttributes cpu path mode owner group time) tests asked none = can_write w cpu _ tests asked.2 none
  tests_write (Link cpu old new time) tests asked none = can_write w cpu _ tests asked.4 none
  tests_write (Unlink cpu path time) tests asked none = can_write w cpu _ tests asked.2 none
  tests_write (RemoveDirectory cpu path time) tests asked none = can_write w cpu _ tests asked.2 none
  tests_write (Rename cpu old new time) tests asked none = can_write w cpu _ tests asked.4 none
  tests_write (Clean path) tests asked none = (first_passes (m.read_only, ReadOnly) (stat_tests t asked.0) (ap first_refusal (sym asked.2) ∙ none)).0
  tests_write Upgrade tests asked none = (first_passes (m.read_only, ReadOnly) ((eqb m.sup.version 2, IsVersion2) ∷ []) (ap first_refusal (sym asked) ∙ none)).0

  -- ---- what is made

  abbrev Kept : Type 0
  Kept = IsKept R m.sup m.layout m.rows m.free m.faults m.read_only m.stopped

  -- the number of a new inode is that by the tree
  abbrev pub IsNumbered : Said → Type 0
  IsNumbered (Create cpu path mode time) = lowest_unused m.sup t cpu ≡ new_number m.layout m.rows cpu
  IsNumbered (MakeDirectory cpu path mode time) = lowest_unused m.sup t cpu ≡ new_number m.layout m.rows cpu
  IsNumbered _ = ⊤

  pub numbered : Kept → m.stopped ≡ false → (call : Said) (tests : Tests) → AreTestsOf R m call tests → first_refusal tests ≡ None → IsNumbered call
  numbered kept runs (Create cpu path mode time) tests asked none = numbers_same kept runs (can_write w cpu _ tests asked.2 none) cpu (cpu_there w cpu _ tests asked.2 none)
  numbered kept runs (MakeDirectory cpu path mode time) tests asked none = numbers_same kept runs (can_write w cpu _ tests asked.2 none) cpu (cpu_there w cpu _ tests asked.2 none)
  numbered kept runs (Write cpu path offset bytes time) tests asked none = tt
  numbered kept runs (SetSize cpu path size time) tests asked none = tt
  numbered kept runs (SetAttributes cpu path mode owner group time) tests asked none = tt
  numbered kept runs (Link cpu old new time) tests asked none = tt
  numbered kept runs (Unlink cpu path time) tests asked none = tt
  numbered kept runs (RemoveDirectory cpu path time) tests asked none = tt
  numbered kept runs (Rename cpu old new time) tests asked none = tt
  numbered kept runs (Clean path) tests asked none = tt
  numbered kept runs Upgrade tests asked none = tt

  module _ (names others : List (List ℕ)) (u : Tree) where
    by_number : (cpu : ℕ) (made : Option ℕ → Tree) → lowest_unused m.sup t cpu ≡ new_number m.layout m.rows cpu → SameTree u (made (new_number m.layout m.rows cpu)) → SameTree u (made (lowest_unused m.sup t cpu))
    by_number cpu made same is = subst (λ (o : Option ℕ). SameTree u (made o)) (sym same) is

    pub is_made : (call : Call) → IsNumbered (said call) → AreNames (said call) names others → SameTree u (call_makes (said call) others R m names) → IsMadeBy m.sup call t u
    is_made (calls.Create cpu path mode time) number is same = (names, is.0, by_number cpu (λ o. created File o names mode time t) number same)
    is_made (calls.MakeDirectory cpu path mode time) number is same = (names, is.0, by_number cpu (λ o. created Directory o names mode time t) number same)
    is_made (calls.Write cpu path offset content time) number is same = (names, is.0, same)
    is_made (calls.SetSize cpu path size time) number is same = (names, is.0, same)
    is_made (calls.SetAttributes cpu path mode owner group time) number is same = (names, is.0, same)
    is_made (calls.Link cpu old new time) number is same = (names, others, is.0, is.1, same)
    is_made (calls.Unlink cpu path time) number is same = (names, is.0, same)
    is_made (calls.RemoveDirectory cpu path time) number is same = (names, is.0, same)
    is_made (calls.Rename cpu old new time) number is same = (names, others, is.0, is.1, same)
    is_made (calls.Clean path) number is same = (names, is.0, same)
    is_made calls.Upgrade number is same = same

  -- ---- what a stop leaves

  -- Recovery finds rows and free lists without faults, whose tree is of this kind, in tables of this superblock that a call may leave.
  pub record RecoversTree (call : Said) (s : Super) (IsShown : Tree → Type 0) (left : Region) : Type 0 where
    pub layout : Layout
    pub sup : layout.sup ≡ s
    pub laid : MayHave m call layout
    pub rows : List Row
    pub free : List (List Run)
    pub recovers : RecoversTo left layout rows free
    pub shows : IsShown (tree_of (undone layout.sup left) rows)

  -- recovery finds the tree that there was, or what a call makes of it
  abbrev pub BeforeOrMade : Call → Region → Type 0
  BeforeOrMade call left = RecoversTree (said call) m.sup (λ u. SameTree u t) left ⊎ RecoversTree (said call) (super_behind m.sup (said call)) (λ u. IsMadeBy m.sup call t u) left

  module _ (kept : Kept) (runs : m.stopped ≡ false) (writes : m.read_only ≡ false) (left : Region) where
    -- what was mounted, in such tables
    mounted_left : (call : Call) (l : Layout) (free : List (List Run)) → l.sup ≡ m.sup → MayHave m (said call) l → IsAsMounted R l m.rows free left → BeforeOrMade call left
    mounted_left call l free sup laid is = inl (record { layout = l; sup = sup; laid = laid; rows = m.rows; free = free; recovers = is.0; shows = is.1 })

    module _ (names others : List (List ℕ)) where
      -- a call that changes no tables
      plain_left : (call : Call) (Logged : Region → Type 0) → IsNumbered (said call) → MayHave m (said call) m.layout → super_behind m.sup (said call) ≡ m.sup → AreNames (said call) names others
          → StopLeaves R m.layout m.rows m.free.pools (call_makes (said call) others R m names) Logged left → ∥ (BeforeOrMade call left) ∥₁
      plain_left call Logged number laid behind is known = ∥∥₁_map known by where
        by : IsAsMounted R m.layout m.rows m.free.pools left ⊎ IsAsMade m.layout (call_makes (said call) others R m names) Logged left → BeforeOrMade call left
        by (inl mounted) = mounted_left call m.layout m.free.pools kept.tables laid mounted
        by (inr made) = inr (record {
          layout = m.layout;
          sup = kept.tables ∙ sym behind;
          laid = laid;
          rows = made.rows;
          free = made.free;
          recovers = made.recovers;
          shows = is_made names others (tree_of (undone m.layout.sup left) made.rows) call number is made.tree;
        })

      -- One that makes an inode. Where no number is given, it makes nothing.
      inode_left : (cpu : ℕ) (call : Call) (Logged : Region → Type 0) → (lowest_unused m.sup t cpu ≡ new_number m.layout m.rows cpu → IsNumbered (said call)) → (new_number m.layout m.rows cpu ≡ None → call_makes (said call) others R m names ≡ t)
          → ((l : Layout) → GrowsWhereFull m cpu l → MayHave m (said call) l) → super_behind m.sup (said call) ≡ m.sup → AreNames (said call) names others
          → ∥ ((l : Layout) × (free : List (List Run)) × MayHaveGrown m cpu l free × (IsAsMounted R l m.rows free left ⊎ IsAsMade l (call_makes (said call) others R m names) Logged left)) ∥₁ → ∥ (BeforeOrMade call left) ∥₁
      inode_left cpu call Logged number nothing laid behind is known = ∥∥₁_map known (λ w. by w.0 w.1 (may w.0 w.1 w.2) w.3) where
        may : (l : Layout) (free : List (List Run)) → MayHaveGrown m cpu l free → GrowsWhereFull m cpu l
        may l free (inl same) = inl same.0
        may l free (inr (two, none, grew)) = inr (two, none, grew.0, grew.1)

        sup_of : (l : Layout) → GrowsWhereFull m cpu l → l.sup ≡ m.sup
        sup_of l (inl same) = ap (λ (k : Layout). k.sup) same ∙ kept.tables
        sup_of l (inr (two, none, b, is)) = ap (λ (k : Layout). k.sup) is ∙ kept.tables

        by : (l : Layout) (free : List (List Run)) → GrowsWhereFull m cpu l → IsAsMounted R l m.rows free left ⊎ IsAsMade l (call_makes (said call) others R m names) Logged left → BeforeOrMade call left
        by l free grew (inl mounted) = mounted_left call l free (sup_of l grew) (laid l grew) mounted
        by l free grew (inr made) = with_number (new_number m.layout m.rows cpu) refl where
          with_number : (o : Option ℕ) → new_number m.layout m.rows cpu ≡ o → BeforeOrMade call left
          with_number None e = inl (record {
            layout = l;
            sup = sup_of l grew;
            laid = laid l grew;
            rows = made.rows;
            free = made.free;
            recovers = made.recovers;
            shows = subst (λ (u : Tree). SameTree (tree_of (undone l.sup left) made.rows) u) (nothing e) made.tree;
          })
          with_number (Some j) e = inr (record {
            layout = l;
            sup = sup_of l grew ∙ sym behind;
            laid = laid l grew;
            rows = made.rows;
            free = made.free;
            recovers = made.recovers;
            shows = is_made names others (tree_of (undone l.sup left) made.rows) call (number (number_given kept runs writes cpu j e ∙ sym e)) is made.tree;
          })

      upgraded_left : call_stops Upgrade others R m names left → ∥ (BeforeOrMade calls.Upgrade left) ∥₁
      upgraded_left known = ∥∥₁_map known by where
        by : IsAsMounted R m.layout m.rows m.free.pools left ⊎ IsAsMounted R (upgraded_layout m.layout) m.rows m.free.pools left → BeforeOrMade calls.Upgrade left
        by (inl mounted) = mounted_left calls.Upgrade m.layout m.free.pools kept.tables (before_laid m kept.tables m.layout Upgrade refl) mounted
        by (inr later) = inr (record {
          layout = upgraded_layout m.layout;
          sup = ap upgraded kept.tables;
          laid = made_laid m kept.tables (upgraded_layout m.layout) Upgrade refl;
          rows = m.rows;
          free = m.free.pools;
          recovers = later.0;
          shows = later.1;
        })

      -- no number makes no inode
      none_made : (kind : Kind) (cpu mode time : ℕ) → new_number m.layout m.rows cpu ≡ None → makes_inode kind cpu mode time R m names ≡ t
      none_made kind cpu mode time none = ap (λ (o : Option ℕ). created kind o names mode time t) none

      as_mounted : (call : Said) → MayBeLaid call m m.layout → MayHave m call m.layout
      as_mounted call is = before_laid m kept.tables m.layout call is

      pub stop_leaves : (call : Call) → AreNames (said call) names others → call_stops (said call) others R m names left → ∥ (BeforeOrMade call left) ∥₁
      stop_leaves (calls.Create cpu path mode time) is known =
          inode_left cpu (calls.Create cpu path mode time) (logs_inode File cpu mode time R m names) (λ same. same) (none_made File cpu mode time) (λ l grew. before_laid m kept.tables l (Create cpu path.now mode time) grew) refl is known
      stop_leaves (calls.MakeDirectory cpu path mode time) is known =
          inode_left cpu (calls.MakeDirectory cpu path mode time) (logs_inode Directory cpu mode time R m names) (λ same. same) (none_made Directory cpu mode time) (λ l grew. before_laid m kept.tables l (MakeDirectory cpu path.now mode time) grew) refl is known
      stop_leaves (calls.Write cpu path offset content time) is known =
          plain_left (calls.Write cpu path offset content time) (LogsBytes cpu offset (length (data_bytes content)) time R m names) tt (as_mounted (Write cpu path.now offset (data_bytes content) time) refl) refl is known
      stop_leaves (calls.SetSize cpu path size time) is known =
          plain_left (calls.SetSize cpu path size time) (logs_size cpu size time R m names) tt (as_mounted (SetSize cpu path.now size time) refl) refl is known
      stop_leaves (calls.SetAttributes cpu path mode owner group time) is known =
          plain_left (calls.SetAttributes cpu path mode owner group time) (logs_attributes cpu mode owner group time R m names) tt (as_mounted (SetAttributes cpu path.now mode owner group time) refl) refl is known
      stop_leaves (calls.Link cpu old new time) is known =
          plain_left (calls.Link cpu old new time) (logs_link cpu time (Some others) R m names) tt (as_mounted (Link cpu old.now new.now time) refl) refl is known
      stop_leaves (calls.Unlink cpu path time) is known =
          plain_left (calls.Unlink cpu path time) (LogsUnlink cpu time R m names) tt (as_mounted (Unlink cpu path.now time) refl) refl is known
      stop_leaves (calls.RemoveDirectory cpu path time) is known =
          plain_left (calls.RemoveDirectory cpu path time) (logs_removal cpu time R m names) tt (as_mounted (RemoveDirectory cpu path.now time) refl) refl is known
      stop_leaves (calls.Rename cpu old new time) is known =
          plain_left (calls.Rename cpu old new time) (logs_rename cpu time (Some others) R m names) tt (as_mounted (Rename cpu old.now new.now time) refl) refl is known
      stop_leaves (calls.Clean path) is known =
          plain_left (calls.Clean path) (logs_page_less R m names) tt (as_mounted (Clean path.now) refl) refl is known
      stop_leaves calls.Upgrade is known = upgraded_left known
