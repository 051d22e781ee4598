-- The tests and the texts of the calls that read, of trees that show the same.
use Rattle.std.proofs.Common.{◌≡◌, inl, inr, ℕ, List, Option, Some, None, refl, sym, ap, subst, ◌∙◌}
use Rattle.nv_tree.specs.Tree.{Tree, found, walk}
use Rattle.nv_tree.specs.Refusals.{Path, Tests, first_refusal, refusal_word, list_tests, stat_tests, read_tests}
use Rattle.nv_tree.specs.declared.refusal.Refusal.{Refusal}
use Rattle.nv_text.specs.Answers.{refused_line}
use Rattle.nv_text.specs.Report.{stat_line}
use Rattle.nv_text.specs.Names.{data_line}
use Rattle.nv_tree.specs.Stat.{IsStat}
use Rattle.nv_calls.specs.Listing.{ListsNamesIn}
use Rattle.nv_calls.specs.Reading.{IsRead}
use Rattle.nv_tree.specs.declared.stat.Stat.{Stat}
use Rattle.nv_calls.proofs.SeenAlike.{Alike, directory_alike, found_alike, lines_one, reads_one, stats_one, walk_alike}
use Rattle.nv_session.specs.Machine.{list_lines, TellsRefusal, TellsStat, TellsNames, TellsBytes}

module _ (t u : Tree) (alike : Alike t u) where
  stat_tests_alike : (p : Path) → first_refusal (stat_tests u p) ≡ first_refusal (stat_tests t p)
  stat_tests_alike None = refl
  stat_tests_alike (Some names) = rw (walk_alike t u alike names 1, found_alike t u alike names) refl

  list_tests_alike : (p : Path) → first_refusal (list_tests u p) ≡ first_refusal (list_tests t p)
  list_tests_alike None = refl
  list_tests_alike (Some names) = rw (walk_alike t u alike names 1, found_alike t u alike names, directory_alike t u alike (found t names)) refl

  read_tests_alike : (p : Path) → first_refusal (read_tests u p) ≡ first_refusal (read_tests t p)
  read_tests_alike None = refl
  read_tests_alike (Some names) = rw (walk_alike t u alike names 1, found_alike t u alike names, directory_alike t u alike (found t names)) refl

  -- ---- what is told

  refusals_one : (tests others : Tests) (text other : List ℕ) → first_refusal others ≡ first_refusal tests → TellsRefusal tests text → TellsRefusal others other → text ≡ other
  refusals_one tests others text other same p q =
      let e : p.0 ≡ q.0 = (let s : Some p.0 ≡ Some q.0 = sym p.1 ∙ sym same ∙ q.1 in cc) in
      p.2 ∙ ap (λ (r : Refusal). refused_line (refusal_word r)) e ∙ sym q.2

  not_refused : (tests others : Tests) (text : List ℕ) → first_refusal others ≡ first_refusal tests → TellsRefusal tests text → first_refusal others ≡ None → ⊥
  not_refused tests others text same p none = (let s : Some p.0 ≡ None = sym p.1 ∙ sym same ∙ none in cc)

  pub stat_one : (p : Path) (text other : List ℕ) → TellsStat t p text → TellsStat u p other → text ≡ other
  stat_one p text other (inl a) (inl b) = refusals_one (stat_tests t p) (stat_tests u p) text other (stat_tests_alike p) a b
  stat_one p text other (inl a) (inr b) = absurd (not_refused (stat_tests t p) (stat_tests u p) text (stat_tests_alike p) a b.2)
  stat_one p text other (inr a) (inl b) = absurd (not_refused (stat_tests u p) (stat_tests t p) other (sym (stat_tests_alike p)) b a.2)
  stat_one p text other (inr a) (inr b) =
      let e : a.0 ≡ b.0 = (let s : Some a.0 ≡ Some b.0 = sym a.1 ∙ b.1 in cc) in
      a.5 ∙ ap stat_line (stats_one t u alike a.0 a.3 b.3 a.4 (subst (λ names. IsStat u names b.3) (sym e) b.4)) ∙ sym b.5

  pub names_one : (p : Path) (text other : List ℕ) → TellsNames t p text → TellsNames u p other → text ≡ other
  names_one p text other (inl a) (inl b) = refusals_one (list_tests t p) (list_tests u p) text other (list_tests_alike p) a b
  names_one p text other (inl a) (inr b) = absurd (not_refused (list_tests t p) (list_tests u p) text (list_tests_alike p) a b.2)
  names_one p text other (inr a) (inl b) = absurd (not_refused (list_tests u p) (list_tests t p) other (sym (list_tests_alike p)) b a.2)
  names_one p text other (inr a) (inr b) =
      let e : a.0 ≡ b.0 = (let s : Some a.0 ≡ Some b.0 = sym a.1 ∙ b.1 in cc) in
      a.5 ∙ ap list_lines (lines_one t u alike a.0 a.3 b.3 a.4 (subst (λ names. ListsNamesIn u names b.3) (sym e) b.4)) ∙ sym b.5

  pub bytes_one : (offset count : ℕ) (p : Path) (text other : List ℕ) → TellsBytes offset count t p text → TellsBytes offset count u p other → text ≡ other
  bytes_one offset count p text other (inl a) (inl b) = refusals_one (read_tests t p) (read_tests u p) text other (read_tests_alike p) a b
  bytes_one offset count p text other (inl a) (inr b) = absurd (not_refused (read_tests t p) (read_tests u p) text (read_tests_alike p) a b.2)
  bytes_one offset count p text other (inr a) (inl b) = absurd (not_refused (read_tests u p) (read_tests t p) other (sym (read_tests_alike p)) b a.2)
  bytes_one offset count p text other (inr a) (inr b) =
      let e : a.0 ≡ b.0 = (let s : Some a.0 ≡ Some b.0 = sym a.1 ∙ b.1 in cc) in
      a.5 ∙ ap data_line (reads_one t u alike a.0 offset count a.3 b.3 a.4 (subst (λ names. IsRead u names offset count b.3) (sym e) b.4)) ∙ sym b.5
