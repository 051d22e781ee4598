-- What each call is asked of a mounted file system before it is made.
use Rattle.std.specs.Prelude.{◌≡◌, ℕ, ◌+◌, List, length}
use Rattle.nv_region.specs.Region.{Region}
use Rattle.nv_tree.specs.declared.refusal.Refusal.{Refusal}
use Rattle.nv_tree.specs.Path.{Says}
use Rattle.nv_tree.specs.Refusals.{Path, Tests, first_refusal, clean_tests, create_tests, link_tests, rename_tests, rmdir_tests, set_attr_tests, set_size_tests, unlink_tests, upgrade_tests, write_tests, IsRefusedBy}
use Rattle.nv_paths.specs.Seen.{tree_of}
use Rattle.nv_calls.specs.Mount.{Mount}
use Rattle.nv_calls.specs.World.{world_of}
use Rattle.nv_calls.specs.AttributesCall.{attributes_blocks}
use Rattle.nv_calls.specs.LinkCalls.{link_blocks}
use Rattle.nv_calls.specs.MoveCalls.{rename_blocks}
use Rattle.nv_calls.specs.NameCalls.{create_blocks, name_blocks}
use Rattle.nv_calls.specs.SizeCall.{resized_blocks}
use Rattle.nv_calls.specs.UnlinkCalls.{unlink_blocks}
use Rattle.nv_calls.specs.WriteCall.{WriteNeeds}
use Rattle.nv_history.specs.declared.calls.Call.{Call}
use Rattle.nv_history.specs.Said.{Said, said, Create, MakeDirectory, Write, SetSize, SetAttributes, Link, Unlink, RemoveDirectory, Rename, Clean, Upgrade}

-- ---- the tests of each call by what its texts say, where this region is mounted so: with how many blocks it needs

-- `create` and `mkdir`
abbrev pub create_asked : {P : Type 0} → Region → Mount P → ℕ → Path → Tests
create_asked R m cpu p = create_tests (world_of m) (tree_of R m.rows) cpu p (create_blocks m.layout m.rows cpu (tree_of R m.rows) p)

-- `write`: of so many bytes from an offset on, at a time
abbrev pub WriteAsked : {P : Type 0} → Region → Mount P → ℕ → ℕ → ℕ → ℕ → Path → Tests → Type 0
WriteAsked R m cpu offset bytes time p tests = (count : ℕ) × WriteNeeds R m cpu p offset bytes time count × (tests ≡ write_tests (world_of m) (tree_of R m.rows) cpu p (offset + bytes) count)

-- `size`
abbrev pub size_asked : {P : Type 0} → Region → Mount P → ℕ → ℕ → Path → Tests
size_asked R m cpu size p = set_size_tests (world_of m) (tree_of R m.rows) cpu p size (resized_blocks m.rows (tree_of R m.rows) p size)

-- `attr`
abbrev pub attributes_asked : {P : Type 0} → Region → Mount P → ℕ → Path → Tests
attributes_asked R m cpu p = set_attr_tests (world_of m) (tree_of R m.rows) cpu p (attributes_blocks m.rows (tree_of R m.rows) p)

-- `link`, by both of its paths
abbrev pub link_asked : {P : Type 0} → Region → Mount P → ℕ → Path → Path → Tests
link_asked R m cpu p q = link_tests (world_of m) (tree_of R m.rows) cpu p q (link_blocks m.rows (tree_of R m.rows) p q)

-- `unlink`
abbrev pub unlink_asked : {P : Type 0} → Region → Mount P → ℕ → Path → Tests
unlink_asked R m cpu p = unlink_tests (world_of m) (tree_of R m.rows) cpu p (unlink_blocks m.rows (tree_of R m.rows) p)

-- `rmdir`
abbrev pub removal_asked : {P : Type 0} → Region → Mount P → ℕ → Path → Tests
removal_asked R m cpu p = rmdir_tests (world_of m) (tree_of R m.rows) cpu p (name_blocks m.rows (tree_of R m.rows) p)

-- `rename`, by both of its paths
abbrev pub rename_asked : {P : Type 0} → Region → Mount P → ℕ → Path → Path → Tests
rename_asked R m cpu p q = rename_tests (world_of m) (tree_of R m.rows) cpu p q (rename_blocks m.rows (tree_of R m.rows) p q)

-- `clean`
abbrev pub clean_asked : {P : Type 0} → Region → Mount P → Path → Tests
clean_asked R m p = clean_tests (world_of m) (tree_of R m.rows) p

-- `upgrade`
abbrev pub upgrade_asked : {P : Type 0} → Mount P → Tests
upgrade_asked m = upgrade_tests (world_of m) m.sup.version

-- ---- the tests of any call

-- these are the tests by what the text says
abbrev pub AskedBy : List ℕ → (Path → Tests) → Tests → Type 0
AskedBy text asked tests = (p : Path) × Says text p × (tests ≡ asked p)

-- the same by two texts
abbrev pub AskedByBoth : List ℕ → List ℕ → (Path → Path → Tests) → Tests → Type 0
AskedByBoth old new asked tests = (p : Path) × (q : Path) × Says old p × Says new q × (tests ≡ asked p q)

-- these are the tests of a call
abbrev pub AreTestsOf : {P : Type 0} → Region → Mount P → Said → Tests → Type 0
AreTestsOf R m (Create cpu path mode time) tests = AskedBy path (create_asked R m cpu) tests
AreTestsOf R m (MakeDirectory cpu path mode time) tests = AskedBy path (create_asked R m cpu) tests
AreTestsOf R m (Write cpu path offset bytes time) tests = (p : Path) × Says path p × WriteAsked R m cpu offset (length bytes) time p tests
AreTestsOf R m (SetSize cpu path size time) tests = AskedBy path (size_asked R m cpu size) tests
AreTestsOf R m (SetAttributes cpu path mode owner group time) tests = AskedBy path (attributes_asked R m cpu) tests
AreTestsOf R m (Link cpu old new time) tests = AskedByBoth old new (link_asked R m cpu) tests
AreTestsOf R m (Unlink cpu path time) tests = AskedBy path (unlink_asked R m cpu) tests
AreTestsOf R m (RemoveDirectory cpu path time) tests = AskedBy path (removal_asked R m cpu) tests
AreTestsOf R m (Rename cpu old new time) tests = AskedByBoth old new (rename_asked R m cpu) tests
AreTestsOf R m (Clean path) tests = AskedBy path (clean_asked R m) tests
AreTestsOf R m Upgrade tests = tests ≡ upgrade_asked m

-- the refusal comes of a stop, is that of the first of its tests that holds, or is want of memory, where that comes last
abbrev pub RefusesCall : {P : Type 0} → Region → Mount P → Call → Refusal → Type 0
RefusesCall R m call refusal = (tests : Tests) × AreTestsOf R m (said call) tests × IsRefusedBy (first_refusal tests) refusal
