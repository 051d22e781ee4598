use Rattle.std.proofs.Common.{◌≡◌, ◌∙◌, ◌<◌, ℕ, Bool, true, false, not, List, [], length, take, Option, Some, None, is_some, is_none, ◌+◌, refl, ap, sym, subst, arith}
use Rattle.nv_entry.specs.Content.{is_good}
use Rattle.nv_inspect.specs.declared.held.Held.{Held}
use Rattle.nv_inspect.specs.Held.{AreTakers, HoldsAll}
use Rattle.nv_inspect.proofs.Dying.{all_held, all_takers, bad_held, bad_takers, good_held, good_takers, length_unmarked, takers_none}
use Rattle.nv_inspect.proofs.fates.take_all.Goals.{then-is_none+in_ok-take, else-is_none}
use Rattle.nv_inspect.proofs.fates.take_all.Goals as goal

none_is : {T : Type 0} (o : Option T) (r b : Bool) → is_some o ≡ not r → r ≡ b → is_none o ≡ b
none_is None r b h e = (let s : false ≡ not r = h in by_test r s ∙ e) where
  by_test : (r : Bool) → false ≡ not r → true ≡ r
  by_test true h = refl
  by_test false h = sym h
none_is (Some t) r b h e = (let s : true ≡ not r = h in by_test r s ∙ e) where
  by_test : (r : Bool) → true ≡ not r → false ≡ r
  by_test true h = sym h
  by_test false h = refl

pub loop-place-init : goal.loop-place-init
loop-place-init c = record {
  held = c.new-held.ensures c.args.sup.now c.args.kind;
  takers = subst (λ (t : List (Option ℕ)). AreTakers c.args.sup.now c.args.kind c.args.created [] t) (sym c.requires.unmarked) (takers_none c.args.sup.now c.args.kind c.args.created (length c.args.entries.now));
  long = refl;
}

pub loop-place-preserved : goal.loop-place-preserved
loop-place-preserved c =
    let s = c.args.sup.now in
    let kind = c.args.kind in
    let created = c.args.created in
    let entries = c.args.entries.now in
    let place = c.loop-place.place in
    let x = c.index-entries-place.result in
    let is = c.index-entries-place.is in
    let so_far = c.loop-place.invariant in
    let below : place < length entries = (let test = c.loop-place-test.true in let end = c.loop-place.auto.place-end in omega (arith, test, end)) in
    elim c.if-is_none.branch [
      | then-is_none+in_ok-take w ↦ (
          let good : is_good s kind x.entry ≡ true = sym c.check_content.ensures.good ∙ none_is c.check_content.result c.is_none.result true c.is_none.ensures w.if-is_none.true in
          let long : length c.loop-place.takers ≡ length entries = so_far.long ∙ ap length c.requires.unmarked ∙ length_unmarked (length entries) in
          record {
            held = subst (λ (h : Held). HoldsAll s kind created (take (place + 1) entries) h) (sym w.held-is) (good_held s kind created entries place x below is c.loop-place.held w.take.new.self good so_far.held w.in_ok-take.ensures.takes);
            takers = subst (λ (t : List (Option ℕ)). AreTakers s kind created (take (place + 1) entries) t) (sym w.takers-is)
                (good_takers s kind created entries place x below is c.loop-place.held c.loop-place.takers w.take.new.takers good so_far.held long w.in_ok-take.ensures.marks so_far.takers);
            long = c.if-is_none.auto.takers ∙ so_far.long;
          })
      | else-is_none w ↦ (
          let bad : is_good s kind x.entry ≡ false = sym c.check_content.ensures.good ∙ none_is c.check_content.result c.is_none.result false c.is_none.ensures w.if-is_none.false in
          record {
            held = subst (λ (h : Held). HoldsAll s kind created (take (place + 1) entries) h) (sym w.held-is) (bad_held s kind created entries place x below is c.loop-place.held bad so_far.held);
            takers = subst (λ (t : List (Option ℕ)). AreTakers s kind created (take (place + 1) entries) t) (sym w.takers-is) (bad_takers s kind created entries place x below is c.loop-place.takers bad so_far.takers);
            long = c.if-is_none.auto.takers ∙ so_far.long;
          })
    ]

pub returns : goal.returns
returns c = record {
  held = all_held c.args.sup.now c.args.kind c.args.created c.args.entries.now c.loop-place.place c.loop-place.held c.loop-place-test.false c.loop-place.invariant.held;
  takers = all_takers c.args.sup.now c.args.kind c.args.created c.args.entries.now c.loop-place.place c.loop-place.takers c.loop-place-test.false c.loop-place.invariant.takers;
  long = c.loop-place.invariant.long;
}
