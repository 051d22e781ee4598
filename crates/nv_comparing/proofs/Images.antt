-- What is told of two images, by what was recovered of them.
use Rattle.std.proofs.Common.{◌≡◌, ◌∙◌, ℕ, inl, inr, List, length, Result, Ok, Err, sym, ap, subst, string_bytes}
use Rattle.std.specs.Prelude.{IfOk, codes}
use Rattle.nv_region.specs.Region.{Region, region_of}
use Rattle.nv_region.specs.ImageState.{ImageState}
use Rattle.nv_journal.specs.Undo.{undone}
use Rattle.nv_outcome.specs.Answer.{outcome_of}
use Rattle.nv_outcome.specs.Outcome.{Outcome, IsOutcome}
use Rattle.nv_outcome.specs.declared.recovered.Recovered.{Recovered}
use Rattle.nv_rows.specs.RowList.{RowList}
use Rattle.nv_paths.specs.Seen.{tree_of}
use Rattle.nv_tree.specs.Tree.{Tree}
use Rattle.nv_text.specs.Refusals.{refusal_name}
use Rattle.nv_text.specs.declared.refusals.Refusal as texts
use Rattle.nv_image_check.specs.Recovering.{IsRecovered, IsSuperRefused}
use Rattle.nv_image_check.specs.declared.imaging.Image.TheVariants as images
use Rattle.nv_difference.specs.Difference.{IsDifference}
use Rattle.nv_comparing.specs.Shown.{AreHeld}
use Rattle.nv_comparing.specs.Comparing.{IsImagesDifference, IsNamedRefusal, IsNamedSuperRefusal, status_of}
use Rattle.nv_comparing.specs.declared.comparing.Compared.{Compared}
use Rattle.nv_comparing.specs.declared.comparing.Look.{Look}
use Rattle.nv_comparing.proofs.Rows.{held_rows}

-- the superblock isn't accepted
named_refusal : (letter : List ℕ) (R : Region) (refusal : texts.Refusal) (text : List ℕ) (compared : Compared) → IsSuperRefused R refusal → IsNamedRefusal letter (refusal_name refusal) text compared
    → IsNamedSuperRefusal letter R text compared
named_refusal letter R refusal text compared is said = (is.0, is.1, subst (λ (x : texts.Refusal). IsNamedRefusal letter (refusal_name x) text compared) is.2 said)

pub first_refused : (R S : Region) (refusal : texts.Refusal) (text : List ℕ) (compared : Compared) → IsSuperRefused R refusal → IsNamedRefusal (codes "A") (refusal_name refusal) text compared
    → IsImagesDifference R S text compared
first_refused R S refusal text compared is said = inl (named_refusal (codes "A") R refusal text compared is said)

pub second_refused : (R S : Region) (o : Outcome) → IsOutcome R o → (refusal : texts.Refusal) (text : List ℕ) (compared : Compared) → IsSuperRefused S refusal
    → IsNamedRefusal (codes "B") (refusal_name refusal) text compared → IsImagesDifference R S text compared
second_refused R S o of refusal text compared is said = inr (o, of, inl (named_refusal (codes "B") S refusal text compared is said))

-- the rows lie in the memory
pub held_in : (bytes : List ℕ) (memory : ImageState) (r : Recovered) → IsRecovered (region_of bytes) (images.Recovered memory r) → AreHeld memory.region r.rows.items
held_in bytes memory r is = subst (λ (Q : Region). AreHeld Q r.rows.items) (sym is.1) (held_rows (region_of bytes) (outcome_of r) is.0)

-- the tree of the rows over the memory is that of the outcome
pub tree_as : (m n : ImageState) (rows given : RowList) → m ≡ n → rows ≡ given → (Q : Region) → n.region ≡ Q → tree_of m.region rows.items ≡ tree_of Q given.items
tree_as m n rows given memory same Q region = ap (λ (k : ImageState). tree_of k.region rows.items) memory ∙ ap (λ (l : RowList). tree_of n.region l.items) same ∙ ap (λ (S : Region). tree_of S given.items) region

-- what differs between the trees differs between those of the outcomes
module _ (R S : Region) (r q : Recovered) (of : IsOutcome R (outcome_of r)) (other : IsOutcome S (outcome_of q)) (t u : Tree) (first : t ≡ tree_of (undone r.sup R) r.rows.items)
    (second : u ≡ tree_of (undone q.sup S) q.rows.items) (m n : ℕ) (faults : m ≡ length r.faults.items) (others : n ≡ length q.faults.items) where
  pub both_compared : {E : Type 0} (result : Result Look E) → IfOk result (λ look. IsDifference t u (string_bytes look.text)) → IfOk result (λ look. look.compared.status ≡ status_of (string_bytes look.text))
      → IfOk result (λ look. look.compared.first_faults ≡ m) → IfOk result (λ look. look.compared.second_faults ≡ n)
      → IfOk result (λ look. IsImagesDifference R S (string_bytes look.text) look.compared)
  both_compared (Err e) told status a b = tt
  both_compared (Ok look) told status a b = inr (
    outcome_of r,
    of,
    inr (
      outcome_of q,
      other,
      (
        subst (λ (x : Tree). IsDifference x (tree_of (undone q.sup S) q.rows.items) (string_bytes look.text)) first (subst (λ (x : Tree). IsDifference t x (string_bytes look.text)) second told),
        status,
        a ∙ faults,
        b ∙ others,
      ),
    ),
  )
