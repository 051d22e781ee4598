-- What a directory shows once a name of it was given to another inode.
use Rattle.std.proofs.Common.{◌≡◌, ◌≢◌, ℕ, ◌+◌, ◌-◌, ◌/◌, cond, nat_eq, Bool, true, false, List, length, refl, ap, sym, ◌∙◌, Option, Some, None}
use Rattle.std.specs.Cmp.Lexicographic.{pointwise, bytes_decides}
use Rattle.std.specs.Option.{option_map}
use Rattle.nv_region.specs.Region.{Region}
use Rattle.nv_super.proofs.Sorted.{same_keys}
use Rattle.nv_names.specs.Names.{Names, name_at}
use Rattle.nv_radix.specs.Pages.{block_at}
use Rattle.nv_scan.specs.declared.numbers.Numbers.{Numbers}
use Rattle.nv_scan.specs.declared.piece.Row.{Row}
use Rattle.nv_mounted.specs.Bytes.{byte_in}
use Rattle.nv_tree.specs.Tree.{SameNode}
use Rattle.nv_tree.specs.Calls.{with_name, without_name}
use Rattle.nv_paths.specs.Seen.{node_of}
use Rattle.nv_steps.specs.Moves.{HasMoved}
use Rattle.nv_steps.proofs.LessName.{found_without, once_without, without}
use Rattle.nv_steps.proofs.NamesCounted.{one_less, one_more}
use Rattle.nv_calls.proofs.CreatedTree.{first_of}
use Rattle.nv_calls.proofs.RemovedTree.{none_of}

-- a name that is set over what another step left of it
set_over : {A : Type 0} (b : Bool) (x y z : A) → cond b y (cond b x z) ≡ cond b y z
set_over true x y z = refl
set_over false x y z = refl

set_under : {A : Type 0} (a b : Bool) (x y z : A) → cond a y (cond b x z) ≡ cond a y (cond b x (cond a x z))
set_under true b x y z = refl
set_under false b x y z = refl

module _ (R S : Region) {row now : Row} (fresh : List ℕ) (end spot : ℕ) (name other : List ℕ) (i j time : ℕ) (has : HasMoved row fresh end name other i spot time now) (apart : i ≢ j) (named : option_map (λ (x : ℕ × ℕ). x.0) (name_at row.names name) ≡ Some i) (named_too : option_map (λ (x : ℕ × ℕ). x.0) (name_at row.names other) ≡ Some j) where
  -- the other name is there still where the name is gone
  still_named : option_map (λ (x : ℕ × ℕ). x.0) (name_at has.between other) ≡ Some j
  still_named = ap (λ (o : Option (ℕ × ℕ)). option_map (λ (x : ℕ × ℕ). x.0) o) (has.lost other) ∙ by (pointwise nat_eq other name) refl where
    by : (b : Bool) → pointwise nat_eq other name ≡ b → option_map (λ (x : ℕ × ℕ). x.0) (cond b None (name_at row.names other)) ≡ Some j
    by true is = absurd (let clash : Some i ≡ Some j = sym named ∙ ap (λ (q : List ℕ). option_map (λ (x : ℕ × ℕ). x.0) (name_at row.names q)) (sym (same_keys other name is)) ∙ named_too in let same : i ≡ j = cc in apart same)
    by false is = named_too

  -- the names without both
  abbrev bare : Names
  bare = record has.between { names = without other has.between.names }

  less_names : length has.between.names ≡ length row.names.names - 1
  less_names = one_less row.names has.between name i has.once has.once_between named has.lost

  bare_names : length bare.names ≡ length has.between.names - 1
  bare_names = one_less has.between bare other j has.once_between (once_without has.between.names other has.once_between) still_named (λ q. found_without has.between.names other q)

  more_names : length now.names.names ≡ length bare.names + 1
  more_names = one_more bare now.names other (i, spot) (once_without has.between.names other has.once_between) has.once_now (found_without has.between.names other other ∙ ap (λ (b : Bool). cond b None (name_at has.between other)) ((bytes_decides other other).1 refl))
      (λ q. has.names q ∙ sym (ap (λ (o : Option (ℕ × ℕ)). cond (pointwise nat_eq q other) (Some (i, spot)) o) (found_without has.between.names other q) ∙ set_over (pointwise nat_eq q other) None (Some (i, spot)) (name_at has.between q)))

  -- The directory shows the other name for the inode in place of the name, and of what it stood for.
  pub taken_node : ((x : ℕ) → byte_in S (block_at row.index (x / 4096)) x ≡ byte_in R (block_at row.index (x / 4096)) x) → SameNode (node_of S now) (with_name other i time (without_name name time (without_name other time (node_of R row))))
  taken_node bytes = record {
    kind = has.kind;
    mode = ap (λ (n : Numbers). n.mode) has.numbers;
    owner = ap (λ (n : Numbers). n.owner) has.numbers;
    group = ap (λ (n : Numbers). n.group) has.numbers;
    size = ap (λ (n : Numbers). n.size) has.numbers;
    links = ap (λ (n : Numbers). n.links) has.numbers;
    time = ap (λ (n : Numbers). n.time) has.numbers;
    count = more_names ∙ ap (λ (n : ℕ). n + 1) (bare_names ∙ ap (λ (n : ℕ). n - 1) less_names);
    names = λ q. ap (λ (o : Option (ℕ × ℕ)). option_map (λ (y : ℕ × ℕ). y.0) o) (has.names q) ∙ first_of (pointwise nat_eq q other) (i, spot) (name_at has.between q)
        ∙ ap (λ (o : Option ℕ). cond (pointwise nat_eq q other) (Some i) o) (ap (λ (o : Option (ℕ × ℕ)). option_map (λ (y : ℕ × ℕ). y.0) o) (has.lost q) ∙ none_of (pointwise nat_eq q name) (name_at row.names q))
        ∙ set_under (pointwise nat_eq q other) (pointwise nat_eq q name) None (Some i) (option_map (λ (y : ℕ × ℕ). y.0) (name_at row.names q));
    bytes = λ x below. ap (λ (o : Option ℕ). byte_in S o x) (has.index (x / 4096)) ∙ bytes x;
  }

-- Where the inode's old name stood in another directory, only what this one stood for changes.
pub handed_node : (R S : Region) {row now : Row} (fresh : List ℕ) (end spot : ℕ) (name : List ℕ) (i j time : ℕ) → HasMoved row fresh end name name i spot time now → option_map (λ (x : ℕ × ℕ). x.0) (name_at row.names name) ≡ Some j
    → ((x : ℕ) → byte_in S (block_at row.index (x / 4096)) x ≡ byte_in R (block_at row.index (x / 4096)) x) → SameNode (node_of S now) (with_name name i time (without_name name time (node_of R row)))
handed_node R S {row} {now} fresh end spot name i j time has named bytes = record {
  kind = has.kind;
  mode = ap (λ (n : Numbers). n.mode) has.numbers;
  owner = ap (λ (n : Numbers). n.owner) has.numbers;
  group = ap (λ (n : Numbers). n.group) has.numbers;
  size = ap (λ (n : Numbers). n.size) has.numbers;
  links = ap (λ (n : Numbers). n.links) has.numbers;
  time = ap (λ (n : Numbers). n.time) has.numbers;
  count = one_more has.between now.names name (i, spot) has.once_between has.once_now (has.lost name ∙ ap (λ (b : Bool). cond b None (name_at row.names name)) ((bytes_decides name name).1 refl)) has.names
      ∙ ap (λ (n : ℕ). n + 1) (one_less row.names has.between name j has.once has.once_between named has.lost);
  names = λ q. ap (λ (o : Option (ℕ × ℕ)). option_map (λ (y : ℕ × ℕ). y.0) o) (has.names q) ∙ first_of (pointwise nat_eq q name) (i, spot) (name_at has.between q)
      ∙ ap (λ (o : Option ℕ). cond (pointwise nat_eq q name) (Some i) o) (ap (λ (o : Option (ℕ × ℕ)). option_map (λ (y : ℕ × ℕ). y.0) o) (has.lost q) ∙ none_of (pointwise nat_eq q name) (name_at row.names q));
  bytes = λ x below. ap (λ (o : Option ℕ). byte_in S o x) (has.index (x / 4096)) ∙ bytes x;
}
