-- What cleaning an image asks, and what it leaves of the region that came.
use Rattle.std.proofs.Common.{◌≡◌, ◌∙◌, ◌↔◌, ◌==◌, ℕ, Bool, true, false, IsTrue, List, [], ◌∷◌, length, Option, Some, None, refl, sym, ap, subst, arith}
use Rattle.std.proofs.lemmas.Bool.Decides.{nat_tests}
use Rattle.nv_super.specs.Layout.{Layout}
use Rattle.nv_region.specs.Region.{Region, size}
use Rattle.nv_region.specs.RegionState.{RegionState, is_steady}
use Rattle.nv_region.specs.declared.memory.Fuse.TheVariants.{Off}
use Rattle.nv_super.specs.declared.faults.Fault.{Fault}
use Rattle.nv_journal.specs.Undo.{undone}
use Rattle.nv_outcome.specs.Answer.{outcome_of}
use Rattle.nv_outcome.specs.Outcome.{Outcome, IsOutcome}
use Rattle.nv_outcome.specs.declared.recovered.Recovered.{Recovered}
use Rattle.nv_outcome.proofs.Again.{rolled_back, stays}
use Rattle.nv_tree.specs.Path.{IsPath, Says}
use Rattle.nv_tree.specs.Tree.{Tree, found}
use Rattle.nv_tree.specs.Refusals.{Path, Tests, first_refusal, stat_tests}
use Rattle.nv_tree.specs.declared.refusal.Refusal.{Refusal}
use Rattle.nv_tree.specs.declared.refusal.Refusal.TheVariants.{BadName, ReadOnly}
use Rattle.nv_tree.proofs.Texts.{text_says}
use Rattle.nv_mounted.specs.Mounted.{outcome_layout}
use Rattle.nv_calls.specs.Mount.{IsKept, Mount, has_faults}
use Rattle.nv_paths.specs.Seen.{tree_of}
use Rattle.nv_image_check.specs.Answering.{IsOfItsSuper, MayAnswer}
use Rattle.nv_image_check.specs.declared.recovery.Answer.{Answer}
use Rattle.nv_image_check.specs.declared.recovery.Answer.TheVariants as answers
use Rattle.nv_session.specs.Calls.{LeavesTree, mounted_as}
use Rattle.nv_session.specs.Sessions.{CanMount, IsSettled}
use Rattle.nv_session.proofs.Moved.{can_mount, same_size}
use Rattle.nv_script.specs.declared.cleaning.Logs.{Logs}
use Rattle.nv_script.specs.declared.cleaning.Logs.TheVariants as which
use Rattle.nv_script.specs.Cleaning.{AreAsked, AreShort, AsksCleaning, CameBack, CleaningOf, IsAskedFor, IsOneOf, IsOpenedAs, IsShortened, LosesPages, NeedsPages}
use Rattle.nv_script.proofs.Cleanings.{shows_now}
use Rattle.nv_script.proofs.FreedPages.{came_of_all}

abbrev tree : Mount RegionState → Tree
tree m = tree_of m.memory.region m.rows

abbrev Keeps : Mount RegionState → Type 0
Keeps m = IsKept m.memory.region m.sup m.layout m.rows m.free m.faults m.read_only m.stopped

-- ---- what is asked

-- something is asked
pub asked : (faulty : Bool) (t : Tree) (path : Option (List ℕ)) → (tests : Tests) × AsksCleaning faulty t path tests
asked faulty t None = ((faulty, ReadOnly) ∷ [], refl)
asked faulty t (Some text) = let w = text_says text in ((faulty, ReadOnly) ∷ stat_tests t w.0, (w.0, w.1, refl))

-- faults refuse it
pub faults_refuse : (faulty : Bool) (t : Tree) (path : Option (List ℕ)) (tests : Tests) → AsksCleaning faulty t path tests → faulty ≡ true → first_refusal tests ≡ Some ReadOnly
faults_refuse false t path tests asks is = absurd (cc)
faults_refuse true t None tests asks is = ap first_refusal asks
faults_refuse true t (Some text) tests asks is = ap first_refusal asks.2

-- and where there are none, the path's own tests decide
pub path_decides : (t : Tree) (text : List ℕ) (tests : Tests) (refusal : Option Refusal) → AsksCleaning false t (Some text) tests → ((p : Path) → Says text p → first_refusal (stat_tests t p) ≡ refusal) → first_refusal tests ≡ refusal
path_decides t text tests refusal asks decides = ap first_refusal asks.2 ∙ decides asks.0 asks.1

pub none_refuses : (t : Tree) (tests : Tests) → AsksCleaning false t None tests → first_refusal tests ≡ None
none_refuses t tests asks = ap first_refusal asks

-- whether there are faults, by whether their list is empty
pub sound : (faults list : List Fault) → list ≡ faults → (length list == 0) ≡ true → has_faults faults ≡ false
sound [] list same empty = refl
sound (f ∷ faults) list same empty = absurd (let none : (length (f ∷ faults) == 0) ≡ true = ap (λ (fs : List Fault). length fs == 0) (sym same) ∙ empty in grind (arith, nat_tests))

pub faulty : (faults list : List Fault) → list ≡ faults → (length list == 0) ≡ false → has_faults faults ≡ true
faulty [] list same some = absurd (let none : (length list == 0) ≡ true = ap (λ (fs : List Fault). length fs == 0) same in let never : true ≡ false = sym none ∙ some in cc)
faulty (f ∷ faults) list same some = grind (arith, nat_tests)

-- that there are no faults is the first test
pub writes_first : (faulty : Bool) (t : Tree) (path : Option (List ℕ)) (tests : Tests) → AsksCleaning faulty t path tests → first_refusal tests ≡ None → faulty ≡ false
writes_first false t path tests asks none = refl
writes_first true t path tests asks none = absurd (let no : Some ReadOnly ≡ None = sym (faults_refuse true t path tests asks refl) ∙ none in cc)

-- a text that no test refuses is a path
path_there : (t : Tree) (text : List ℕ) → ((p : Path) → Says text p → first_refusal (stat_tests t p) ≡ None) → (names : List (List ℕ)) × IsPath text names
path_there t text passes = (let w = text_says text in by w.0 w.1) where
  by : (p : Path) → Says text p → (names : List (List ℕ)) × IsPath text names
  by None says = absurd (let never : Some BadName ≡ None = passes None says in cc)
  by (Some names) says = (names, says)

pub all_asked : (t : Tree) → AreAsked t None which.All
all_asked t i = ((λ a. a), (λ a. a))

pub one_asked : (t : Tree) (text : List ℕ) (inode : ℕ) → ((p : Path) → Says text p → first_refusal (stat_tests t p) ≡ None) → ((names : List (List ℕ)) → IsPath text names → found t names ≡ Some inode) → AreAsked t (Some text) (which.Of inode)
one_asked t text inode passes leads i = (
  (λ asks. (let path = path_there t text passes in let same : Some i ≡ Some inode = sym (asks path.0 path.1) ∙ leads path.0 path.1 in cc)),
  (λ same names is. leads names is ∙ ap Some (sym same)),
)

-- ---- what is opened

-- a memory without a fuse takes all stores
pub steady_off : (m : RegionState) → (m.fuse ≡ Off) × (m.burnt ≡ false) → IsTrue (is_steady m)
steady_off m off = rw (off.0, off.1) refl

-- what was found can be mounted
pub can_open : (R S : Region) (answer : Answer) (r : Recovered) → MayAnswer R 1 [] answer S → IsOfItsSuper (Some answer) → answer ≡ answers.Recovered r → CanMount S (Some (answers.Recovered r))
can_open R S answer r may lists is = subst (λ (x : Answer). CanMount S (Some x)) is (can_mount R S 1 [] (Some answer) may lists)

pub opened_as : (R S : Region) (answer : Answer) (r : Recovered) (m : Mount RegionState) → MayAnswer R 1 [] answer S → answer ≡ answers.Recovered r → m.memory.region ≡ S → m.sup ≡ r.sup → m.layout ≡ r.tables.layout → r.tables.layout.sup ≡ r.sup → m.rows ≡ r.rows.items → m.read_only ≡ has_faults r.faults.items → IsOpenedAs R (outcome_of r) m
opened_as R S answer r m may is region sup layout tables rows read_only =
    let recovered : MayAnswer R 1 [] (answers.Recovered r) S = subst (λ (x : Answer). MayAnswer R 1 [] x S) is may in
    let laid : r.tables.layout ≡ outcome_layout (outcome_of r) = λ i. record { sup = tables i; chains = r.tables.layout.chains } in
    record { is = recovered.2; region = region ∙ recovered.3; sup = sup; layout = layout ∙ laid; rows = rows; read_only = read_only }

-- ---- what cleaning leaves

module _ (R : Region) (o : Outcome) (m n : Mount RegionState) (is : IsOpenedAs R o m) where
  same_tree : tree m ≡ tree_of (undone o.sup R) o.rows
  same_tree = λ i. tree_of (is.region i) (is.rows i)

  pub cleaning_of : (path : Option (List ℕ)) (tests : Tests) → AsksCleaning m.read_only (tree m) path tests → CleaningOf R path
  cleaning_of path tests asks = record {
    outcome = o;
    is = is.is;
    tree = tree m;
    shows = same_tree;
    tests = tests;
    are = subst (λ (b : Bool). AsksCleaning b (tree m) path tests) is.read_only asks;
  }

  -- rolling back keeps the length
  as_long : size m.memory.region ≡ size R
  as_long = ap size is.region ∙ same_size R (undone o.sup R) (o.sup, is.is.sup, (rolled_back R o is.is).sup, stays R o.sup is.is.sup)

  module _ (Asked : ℕ → Type 0) (pages : ℕ) (loses : LosesPages m n Asked pages) where
    layout_now : n.layout ≡ outcome_layout o
    layout_now = loses.layout ∙ is.layout

    leaves_tree : Keeps n → LeavesTree R n.memory.region (mounted_as o false) (tree m)
    leaves_tree kept = (let own = shows_now n kept loses.can in record {
      as_long = loses.as_long ∙ as_long;
      after = record { sup = n.layout.sup; tables = n.layout.chains; rows = n.rows; free = n.free.pools; doubled = own.0; faults = [] };
      shown = own.1;
      own = kept.own loses.can.runs;
      sup = ap (λ (l : Layout). l.sup) layout_now;
      layout = layout_now;
      faultless = refl;
      tree = loses.tree;
    })

    came_here : (Wider : ℕ → Type 0) → ((i : ℕ) → Asked i → Wider i) → CameBack (undone o.sup R) n.memory.region (outcome_layout o) Wider loses.blocks
    came_here Wider wider = came_of_all (undone o.sup R) n.memory.region (outcome_layout o) Asked Wider loses.blocks wider
        (subst (λ (T : Region). CameBack T n.memory.region (outcome_layout o) Asked loses.blocks) is.region (subst (λ (l : Layout). CameBack m.memory.region n.memory.region l Asked loses.blocks) is.layout loses.came_back))

  -- The region that is left is that of the shorter logs.
  pub shortened : (path : Option (List ℕ)) (these : Logs) (pages : ℕ) → AreAsked (tree m) path these → ((tests : Tests) → AsksCleaning m.read_only (tree m) path tests → first_refusal tests ≡ None)
      → LosesPages m n (IsOneOf these) pages → AreShort n these → Keeps n → IsSettled n.memory → IsShortened R path n.memory pages
  unfolding cleaning_of asked
  shortened path these pages asks passes loses short kept settled =
      let tests = asked m.read_only (tree m) path in
      record {
        asked = cleaning_of path tests.0 tests.1;
        allowed = passes tests.0 tests.1;
        leaves = leaves_tree (IsOneOf these) pages loses kept;
        settled = settled;
        short = λ i one. subst (λ (l : Layout). NeedsPages n.memory.region l i) (layout_now (IsOneOf these) pages loses) (short i ((asks i).0 one));
        blocks = loses.blocks;
        count = loses.count;
        came_back = came_here (IsOneOf these) pages loses (IsAskedFor (tree m) path) (λ i one. (asks i).1 one);
        none = λ e. loses.none e ∙ is.region;
      }

  -- It is refused by the first test that holds.
  pub refused_by_test : (path : Option (List ℕ)) (refusal : Refusal) → ((tests : Tests) → AsksCleaning m.read_only (tree m) path tests → first_refusal tests ≡ Some refusal) → (c : CleaningOf R path) × (first_refusal c.tests ≡ Some refusal)
  unfolding cleaning_of asked
  refused_by_test path refusal refuses = (let tests = asked m.read_only (tree m) path in (cleaning_of path tests.0 tests.1, refuses tests.0 tests.1))
