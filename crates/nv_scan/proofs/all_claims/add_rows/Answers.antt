use Rattle.std.proofs.Common.{◌≡◌, ◌+◌, ◌<◌, ◌≤◌, ◌++◌, ◌∷◌, [], List, ℕ, ap, take, sym, ◌∙◌, subst, append_assoc}
use Rattle.std.proofs.lemmas.List.{take_more, take_all}
use Rattle.std.proofs.lemmas.Option.{get_or_from_slice_get}
use Rattle.nv_super.specs.declared.owners.Owner.{Owner}
use Rattle.nv_scan.specs.Claims.{AreClaimsOf, AreRowClaims}
use Rattle.nv_scan.specs.declared.piece.Row.{Row}
use Rattle.nv_scan.proofs.RowClaims.{HasSmall, one_row_more}
use Rattle.nv_scan.proofs.all_claims.add_rows.Goals as goal

pub at-requires : goal.at-requires
at-requires c = subst (λ n. c.loop-place.place < n) c.len-place-end.ensures c.loop-place-test.true

pub of_row-requires : goal.of_row-requires
of_row-requires c =
    let rows = c.args.rows.now.items in
    let row = c.at.result.now in
    subst HasSmall (get_or_from_slice_get rows c.loop-place.place row row c.at.ensures) (c.requires c.loop-place.place row (subst (λ n. c.loop-place.place < n) c.len-place-end.ensures c.loop-place-test.true))

pub loop-place-preserved : goal.loop-place-preserved
loop-place-preserved c =
    let rows = c.args.rows.now.items in
    let i = c.loop-place.place in
    let row = c.at.result.now in
    let within = subst (λ n. i < n) c.len-place-end.ensures c.loop-place-test.true in
    let own = c.in_ok-own.own in
    let own_claims : AreRowClaims row own.items = c.in_ok-own.ensures in
    let read : take (i + 1) rows ≡ take i rows ++ row ∷ [] = take_more rows i row within ∙ ap (λ (x : Row). take i rows ++ x ∷ []) (get_or_from_slice_get rows i row row c.at.ensures) in
    let before = c.loop-place.invariant in (
      before.0 ++ own.items,
      c.in_ok-add_to.ensures ∙ ap (λ (xs : List (ℕ × Owner)). xs ++ own.items) before.1 ∙ append_assoc c.args.claims.now.items before.0 own.items,
      subst (λ (rs : List Row). AreClaimsOf rs (before.0 ++ own.items)) (sym read) (one_row_more (take i rows) row before.0 own.items before.2 own_claims),
    )

pub returns : goal.returns
returns c =
    let past = subst (λ n. n ≤ c.loop-place.place) c.len-place-end.ensures c.loop-place-test.false in
    let all = c.loop-place.invariant in
    (all.0, all.1, subst (λ (rows : List Row). AreClaimsOf rows all.0) (take_all c.loop-place.place c.args.rows.now.items past) all.2)
