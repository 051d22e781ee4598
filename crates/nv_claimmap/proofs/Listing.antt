-- The claims of a run, as they are listed: one for each block.
use Rattle.std.proofs.Common.{◌≡◌, ℕ, ◌<◌, ◌≤◌, ◌^◌, List, ◌++◌, map, sym, ap, ◌∙◌, arith}
use Rattle.std.proofs.lemmas.List.{map-append}
use Rattle.nv_super.specs.declared.owners.Owner.{Owner}
use Rattle.nv_super.specs.declared.owners.Owner.TheVariants.{Table, Log, Data}
use Rattle.nv_super.specs.Owners.{MayOwn, page_end}
use Rattle.nv_claimcore.specs.declared.view.View.{View}
use Rattle.nv_claimcore.specs.Finished.{pair_of}
use Rattle.nv_claimcore.specs.Spans.{Adds}

-- the page of each block fits a word
pub page_small : (o : Owner) (n j : ℕ) → MayOwn o n → j ≤ n → page_end o j < 2 ^ 64
page_small (Table c k) n j own l = omega arith
page_small (Log i k) n j own l = omega arith
page_small (Data i p) n j own l = omega arith

-- the list of the claims keeps up with the records
pub records_added : (ps : List (ℕ × Owner)) (v w : View) (old now : List (ℕ × Owner)) → Adds ps v w → old ≡ map pair_of v.records → now ≡ old ++ ps → now ≡ map pair_of w.records
records_added ps v w old now (_, _, (added, records, claims, _)) before more =
    more ∙ ap (λ l. l ++ ps) before ∙ ap (λ l. map pair_of v.records ++ l) (sym claims) ∙ sym (map-append pair_of v.records added) ∙ ap (map pair_of) (sym records)
