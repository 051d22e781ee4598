use Rattle.std.proofs.Common.{◌++◌, ◌∙◌, List, ℕ, refl, sym, subst}
use Rattle.nv_super.specs.declared.owners.Owner.{Owner}
use Rattle.nv_super.specs.Order.{Lists, owner_key}
use Rattle.nv_scan.specs.Claims.{IsClaim, log_claims, data_claims}
use Rattle.nv_scan.proofs.ClaimLists.{are_claims, small_runs}
use Rattle.nv_scan.proofs.claims.Claims.set.Goals as goal

pub returns-in-Ok-clause-claims : goal.returns-in-Ok-clause-claims
returns-in-Ok-clause-claims c =
    let i = c.args.inode in
    let given = c.args.pages.now in
    let index = c.fill_index.new.index in
    let runs = c.fill_index.new.extents.items in (
      _,
      refl,
      subst (λ (pages : List ℕ). Lists (λ (x : ℕ × Owner). owner_key x.1) (IsClaim i given index) (log_claims i 0 pages ++ data_claims i runs)) (sym c.in_ok-set_pages.ensures)
          (are_claims i given index runs c.in-Ok.ensures.extents),
    )

pub invariant_of-self-in-Ok : goal.invariant_of-self-in-Ok
invariant_of-self-in-Ok c = small_runs _ _ (λ p b e. c.requires.small p b (sym (c.in-Ok.ensures.index p) ∙ e)) c.in-Ok.ensures.extents
