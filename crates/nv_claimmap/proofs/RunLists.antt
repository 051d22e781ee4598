-- Lists of runs: a run more at the end of the last one.
use Rattle.std.proofs.Common.{◌≡◌, ℕ, zero, suc, ◌+◌, List, [], ◌∷◌, ◌++◌, length, get_or, set, sym, ap, ◌∙◌, arith, append_assoc, append-nil}
use Rattle.std.specs.declared.vec.Vec.{Vec}
use Rattle.std.proofs.lemmas.Grind.{flat_map-append}
use Rattle.nv_super.specs.declared.owners.Owner.{Owner}
use Rattle.nv_claimmap.specs.declared.claimed_runs.OwnedRun.{OwnedRun}
use Rattle.nv_claimmap.specs.ClaimedRuns.{run_pairs, all_pairs, list_pairs, lists_pairs}

-- a run more
pub all_pairs-push : (runs : List OwnedRun) (run : OwnedRun) → all_pairs (runs ++ run ∷ []) ≡ all_pairs runs ++ run_pairs run
all_pairs-push runs run = flat_map-append run_pairs runs (run ∷ []) ∙ ap (λ ps. all_pairs runs ++ ps) (append-nil (run_pairs run))

module _ {A : Type 0} where
  -- blocks more in the last list
  pub last_more : (lists : List (Vec OwnedRun A)) (i : ℕ) (new d : Vec OwnedRun A) (more : List (ℕ × Owner)) → i + 1 ≡ length lists → list_pairs new ≡ list_pairs (get_or lists i d) ++ more → lists_pairs (set lists i new) ≡ lists_pairs lists ++ more
  last_more [] i new d more last is = absurd (omega arith)
  last_more (list ∷ []) zero new d more last is = append-nil (list_pairs new) ∙ (is ∙ ap (λ ps. ps ++ more) (sym (append-nil (list_pairs list))))
  last_more (list ∷ (other ∷ lists)) zero new d more last is = absurd (omega arith)
  last_more (list ∷ lists) (suc i) new d more last is =
      ap (λ ps. list_pairs list ++ ps) (last_more lists i new d more (omega arith) is) ∙ sym (append_assoc (list_pairs list) (lists_pairs lists) more)

  -- a run more in the last list
  pub lists_pairs-push : (lists : List (Vec OwnedRun A)) (i : ℕ) (old new : Vec OwnedRun A) (run : OwnedRun) → i + 1 ≡ length lists → old ≡ get_or lists i old → new.items ≡ old.items ++ run ∷ [] → lists_pairs (set lists i new) ≡ lists_pairs lists ++ run_pairs run
  lists_pairs-push lists i old new run last at is =
      last_more lists i new old (run_pairs run) last (ap all_pairs is ∙ all_pairs-push old.items run ∙ ap (λ (v : Vec OwnedRun A). list_pairs v ++ run_pairs run) at)

  -- the last list is as it was
  pub lists_pairs-same : (lists : List (Vec OwnedRun A)) (i : ℕ) (old new : Vec OwnedRun A) → i + 1 ≡ length lists → old ≡ get_or lists i old → new.items ≡ old.items → lists_pairs (set lists i new) ≡ lists_pairs lists
  lists_pairs-same lists i old new last at is =
      last_more lists i new old [] last (ap all_pairs is ∙ (ap (λ (v : Vec OwnedRun A). list_pairs v) at ∙ sym (append-nil (list_pairs (get_or lists i old))))) ∙ append-nil (lists_pairs lists)
