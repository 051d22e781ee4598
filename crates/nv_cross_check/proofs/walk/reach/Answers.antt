use Rattle.std.proofs.Common.{◌≡◌, Bool, map, List, ℕ, [], ◌∷◌, ◌++◌, arith, subst, sym, ap, ◌∙◌, replicate, false, Option}
use Rattle.std.proofs.lemmas.List.Elements.{Contains-push}
use Rattle.std.proofs.lemmas.List.{nil_from_length}
use Rattle.nv_names.specs.declared.named.Named.{Named}
use Rattle.nv_cross_check.specs.Listing.{Listing}
use Rattle.nv_cross_check.specs.Steps.{Reaching, Spreads, IsTable}
use Rattle.nv_cross_check.specs.Listings.{target}
use Rattle.nv_cross_check.proofs.Follow.{reaching_step, reaching_done, is_table}
use Rattle.nv_cross_check.proofs.walk.reach.Goals as goal

stands_in : {listings : List Listing} {table : List (Option ℕ)} {marks : List Bool} {todo : List ℕ} (rest : List ℕ) (place : ℕ) → Reaching listings table marks todo → todo ≡ rest ++ place ∷ [] → Reaching listings table marks (rest ++ place ∷ [])
stands_in {listings} {table} {marks} rest place h e = let P : List ℕ → Type 0 = λ xs. Reaching listings table marks xs in subst P e h

pub names-requires : goal.names-requires
names-requires c = ((stands_in _ _ c.loop-place.invariant c.in-Some.ensures.items).todo_marked _ (Contains-push _ _)).1

pub spread-requires : goal.spread-requires
spread-requires c = let P : ℕ → Type 0 = λ n. IsTable n c.args.places.now in record {
  table = subst P (sym c.loop-place.invariant.same) (is_table c.args.listings.now c.args.places.now c.requires);
  same = c.loop-place.invariant.same;
}

pub loop-place-preserved : goal.loop-place-preserved
loop-place-preserved c =
    let here = c.names.ensures in
    let S : List Named → Type 0 = λ ns. Spreads c.args.listings.now c.args.places.now (map target ns) c.loop-place.marks.items c.pop.new.self.items c.spread.new.marks.items c.spread.new.todo.items in
    reaching_step c.args.listings.now c.args.places.now c.requires _ _ _ _ _ _ here.1 (stands_in _ _ c.loop-place.invariant c.in-Some.ensures.items) (subst S here.2 c.in_ok-spread.ensures)

pub returns : goal.returns
returns c =
    let none : c.loop-place.todo.items ≡ [] = nil_from_length _ (omega (arith, c.in_default.ensures.cases)) in
    let P : List ℕ → Type 0 = λ xs. Reaching c.args.listings.now c.args.places.now c.loop-place.marks.items xs in
    reaching_done c.args.listings.now c.args.places.now c.requires _ (subst P none c.loop-place.invariant)

pub mark_root-requires-clause-clear : goal.mark_root-requires-clause-clear
mark_root-requires-clause-clear c = c.in_ok-marks.ensures.items_if_clones_equal (λ y h. h) ∙ ap (λ (n : ℕ). replicate n false) c.len.ensures
