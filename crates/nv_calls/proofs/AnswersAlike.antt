-- The calls that read answer the same of alike regions.
use Rattle.std.proofs.Common.{◌≡◌, ℕ, List, ap}
use Rattle.std.proofs.Math.Logic.{∥∥₁_elim, ∥∥₁_map}
use Rattle.std.proofs.Math.Nat.{ℕ_set}
use Rattle.std.proofs.Props.{props}
use Rattle.nv_region.specs.Region.{Region}
use Rattle.nv_outcome.specs.Outcome.{IsOutcome, Outcome}
use Rattle.nv_paths.specs.Seen.{tree_of}
use Rattle.nv_calls.specs.Alike.{AreAlike}
use Rattle.nv_calls.specs.Listing.{ListsNamesIn}
use Rattle.nv_calls.specs.Reading.{IsRead}
use Rattle.nv_tree.specs.Stat.{IsStat}
use Rattle.nv_tree.specs.declared.stat.Stat.{Stat}
use Rattle.nv_calls.proofs.OneOutcome.{kind_known, trees_alike}
use Rattle.nv_calls.proofs.SeenAlike.{lines_one, reads_one, stats_one}

bytes_prop : (a b : List ℕ) → IsProp (a ≡ b)
bytes_prop a b = hlevel (props, ℕ_set)

lines_prop : (a b : List (List ℕ × ℕ)) → IsProp (a ≡ b)
lines_prop a b = hlevel (props, ℕ_set)

number_prop : (a b : ℕ) → IsProp (a ≡ b)
number_prop a b = hlevel (props, ℕ_set)

stat_known : (a b : Stat) → ∥ (a ≡ b) ∥₁ → a ≡ b
stat_known a b known =
    let kind = kind_known b.kind a.kind (∥∥₁_map known (λ e. ap (λ (s : Stat). s.kind) e)) in
    let part : (f : Stat → ℕ) → f a ≡ f b = λ f. ∥∥₁_elim known (number_prop (f a) (f b)) (λ e. ap f e) in
    λ j. record {
      inode = part (λ s. s.inode) j;
      kind = kind j;
      mode = part (λ s. s.mode) j;
      owner = part (λ s. s.owner) j;
      group = part (λ s. s.group) j;
      size = part (λ s. s.size) j;
      links = part (λ s. s.links) j;
      time = part (λ s. s.time) j;
    }

module _ (R S : Region) (o other : Outcome) (names : List (List ℕ)) where
  pub reads_same : (offset count : ℕ) (bytes others : List ℕ) → AreAlike R S → IsOutcome R o → IsOutcome S other → IsRead (tree_of R o.rows) names offset count bytes → IsRead (tree_of S other.rows) names offset count others → bytes ≡ others
  reads_same offset count bytes others known is is_other p q = ∥∥₁_elim known (bytes_prop bytes others) (λ w. reads_one (tree_of R o.rows) (tree_of S other.rows) (trees_alike w.2 o other is is_other) names offset count bytes others p q)

  pub stats_same : (stat another : Stat) → AreAlike R S → IsOutcome R o → IsOutcome S other → IsStat (tree_of R o.rows) names stat → IsStat (tree_of S other.rows) names another → stat ≡ another
  stats_same stat another known is is_other p q = stat_known stat another (∥∥₁_map known (λ w. stats_one (tree_of R o.rows) (tree_of S other.rows) (trees_alike w.2 o other is is_other) names stat another p q))

  pub lists_same : (lines others : List (List ℕ × ℕ)) → AreAlike R S → IsOutcome R o → IsOutcome S other → ListsNamesIn (tree_of R o.rows) names lines → ListsNamesIn (tree_of S other.rows) names others → lines ≡ others
  lists_same lines others known is is_other p q = ∥∥₁_elim known (lines_prop lines others) (λ w. lines_one (tree_of R o.rows) (tree_of S other.rows) (trees_alike w.2 o other is is_other) names lines others p q)
