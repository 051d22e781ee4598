use Rattle.std.proofs.Common.{◌≡◌, [], ◌∷◌, ◌++◌, List, map, refl, ap, sym, ◌∙◌, subst, append-nil}
use Rattle.std.specs.List.{Contains}
use Rattle.std.proofs.lemmas.List.{append_assoc}
use Rattle.std.proofs.lemmas.List.Elements.{All-contains, Contains-append_right}
use Rattle.nv_super.proofs.Rising.{Contains-head}
use Rattle.nv_radix.specs.Pages.{block_at}
use Rattle.nv_scan.specs.Claims.{AreSmall}
use Rattle.nv_scan.specs.declared.piece.Row.{Row}
use Rattle.nv_block.specs.Owned.{AddsOwnersOf}
use Rattle.nv_block.proofs.AllOwners.{one_more}
use Rattle.nv_block.proofs.owners.push_rows.Goals as goal

pub loop-row-init : goal.loop-row-init
loop-row-init c = ([], ap (map (λ entry. entry.1)) c.into_iter-row-iterator.ensures.into_iter_gives ∙ c.iter-row-items.ensures.rows, ([], refl, sym (append-nil c.args.owners.now.items)))

pub push_row-requires : goal.push_row-requires
push_row-requires c =
    let (done, left, found) = c.loop-row.invariant in
    let row = c.in-Some.row.now in
    let more = map (λ entry. entry.1) c.next.new.self in
    let all : done ++ row ∷ more ≡ c.args.rows.now.items = ap (λ rest. done ++ map (λ entry. entry.1) rest) (sym c.in-Some.ensures.steps) ∙ left in
    All-contains (λ (row : Row). AreSmall (block_at row.index)) c.args.rows.now.items row c.requires (subst (λ (rows : List Row). Contains rows row) all (Contains-append_right done (row ∷ more) row (Contains-head row more)))

pub loop-row-preserved : goal.loop-row-preserved
loop-row-preserved c =
    let (done, left, found) = c.loop-row.invariant in
    let row = c.in-Some.row.now in (
      done ++ row ∷ [],
      append_assoc done (row ∷ []) (map (λ entry. entry.1) c.next.new.self) ∙ ap (λ rest. done ++ map (λ entry. entry.1) rest) (sym c.in-Some.ensures.steps) ∙ left,
      one_more done row c.args.block _ _ _ found c.in_ok-push_row.ensures,
    )

pub returns : goal.returns
returns c =
    let (done, left, found) = c.loop-row.invariant in
    let all = sym (append-nil done) ∙ ap (λ rest. done ++ map (λ entry. entry.1) rest) (sym c.in-None.ensures.steps.0) ∙ left in
    subst (λ (rows : List Row). AddsOwnersOf rows c.args.block c.args.owners.now.items c.loop-row.owners.items) all found
