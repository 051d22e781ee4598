use Rattle.std.proofs.Common.{◌++◌, ◌∙◌, sym, ap, subst, append_assoc, List, ℕ}
use Rattle.std.specs.List.{All}
use Rattle.std.proofs.lemmas.Result.{IfOk-from_err, on_ok_weaker}
use Rattle.nv_super.specs.declared.owners.Owner.{Owner}
use Rattle.nv_scan.specs.ChainBlocks.{table_claims}
use Rattle.nv_scan.specs.Claims.{log_claims, data_claims, IsSmall}
use Rattle.nv_scan.specs.ClaimList.{ClaimList}
use Rattle.nv_scan.proofs.claims.Claims.add_to.Goals as goal

pub add_runs-requires : goal.add_runs-requires
add_runs-requires c = subst (All IsSmall) (sym c.deref-2.ensures.value) c.self.invariant

pub returns-in_err-add_table : goal.returns-in_err-add_table
returns-in_err-add_table c = IfOk-from_err c.from_residual.result _ c.from_residual.ensures.0

pub returns-in_err-add_pages : goal.returns-in_err-add_pages
returns-in_err-add_pages c = IfOk-from_err c.from_residual-in_err-add_pages.result _ c.from_residual-in_err-add_pages.ensures.0

pub returns : goal.returns
returns c =
    let i = c.self.inside.inode in let old = c.args.others.now.items in
    let table = table_claims c.self.inside.table in
    let log = log_claims i 0 c.deref.result.now in let file = data_claims i c.deref-2.result.now in
    on_ok_weaker c.add_runs.result (λ more. more ∙ ap (λ (xs : List (ℕ × Owner)). xs ++ file) c.in_ok-add_pages.ensures
    ∙ ap (λ (xs : List (ℕ × Owner)). (xs ++ log) ++ file) c.in_ok-add_table.ensures ∙ append_assoc (old ++ table) log file ∙ append_assoc old table (log ++ file)
    ∙ ap (λ (xs : List (ℕ × Owner)). old ++ xs) ((λ k. table ++ (log_claims i 0 (c.deref.ensures k) ++ data_claims i (c.deref-2.ensures.value k))) ∙ ap (λ (v : ClaimList). v.items) c.self.view_is)) c.add_runs.ensures
