use Rattle.std.proofs.Common.{◌≡◌, ◌+◌, ◌++◌, ◌∷◌, [], List, take, get_or, ap, ◌∙◌, sym, append_assoc}
use Rattle.nv_super.specs.declared.owners.Owner.{Owner}
use Rattle.nv_super.specs.declared.owners.Owner.TheVariants.{Log}
use Rattle.nv_scan.specs.Claims.{log_claims}
use Rattle.nv_scan.proofs.ClaimLists.{log_claims-more}
use Rattle.nv_block.specs.Owned.{owners_at}
use Rattle.nv_block.proofs.OwnersAt.{owners_at-append}
use Rattle.nv_block.proofs.owners.push_pages.Goals as goal

pub loop-place-preserved : goal.loop-place-preserved
loop-place-preserved c =
    let i = c.args.inode in
    let n = c.loop-place.place in
    let pages = c.args.pages.now in
    let b = c.args.block in
    let old = c.args.owners.now.items in
    let so_far = log_claims i 0 (take n pages) in
    let one = (get_or pages n 0, Log i n) ∷ [] in
    let more : owners_at b (log_claims i 0 (take (n + 1) pages)) ≡ owners_at b so_far ++ owners_at b one = ap (owners_at b) (log_claims-more i n pages 0 c.loop-place-test.true) ∙ owners_at-append b so_far one in
    c.in_ok-push_claim.ensures ∙ ap (λ (os : List Owner). os ++ owners_at b one) c.loop-place.invariant ∙ append_assoc old (owners_at b so_far) (owners_at b one)
    ∙ ap (λ (os : List Owner). old ++ os) (sym more)
