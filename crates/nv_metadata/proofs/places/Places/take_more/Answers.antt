use Rattle.std.proofs.Common.{◌≡◌, ◌+◌, ◌^◌, ◌<◌, ◌++◌, ℕ, List, length, map, get_or, sym, ap, ◌∙◌, subst, arith}
use Rattle.std.proofs.lemmas.List.{take_at}
use Rattle.std.specs.Vec.{with_items}
use Rattle.nv_metadata.specs.Places.{nowhere, numbered, table, behind_parts, taken, taken_number}
use Rattle.nv_metadata.specs.declared.places.Place.{Place}
use Rattle.nv_metadata.proofs.Numbered.{taken_table}
use Rattle.nv_metadata.proofs.places.Places.take_more.Goals as goal

pub take_numbers-requires-clause-none : goal.take_numbers-requires-clause-none
take_numbers-requires-clause-none c = ap (λ (l : List Place). (numbered l 0).known) c.deref-4.ensures.value ∙ ap (λ (p : Place). p.known) c.others.invariant.first

pub returns-clause-taken : goal.returns-clause-taken
returns-clause-taken c b =
    let back : (with_items c.self.inside.numbers c.take_numbers.new.numbers).items ≡ c.take_numbers.new.numbers = take_at c.take_numbers.new.numbers _ c.self.inside.numbers.len (omega (arith, c.take_numbers.ensures.as_many, ap length c.deref_mut.ensures.value, c.self.inside.numbers.ok)) in
    let places : c.append.new.self.items ≡ c.self.inside.places.items ++ c.in_ok-more.more.items = c.in_ok-append.ensures.items in
    let more : c.in_ok-more.more.items ≡ map (behind_parts c.args.before) c.others.inside.places.items = c.in_ok-more.ensures ∙ ap (map (behind_parts c.args.before)) c.deref.ensures.value in
    let base : c.in_ok-base.base ≡ length c.self.inside.places.items = omega (arith, c.in_ok-base.ensures, c.len.ensures, c.self.inside.places.ok) in
    let few : (b : ℕ) → c.args.before + (get_or (table c.others.inside.numbers.items c.others.inside.places.items) b nowhere).part < 2 ^ 32 = (λ b. subst (λ (l : List Place). c.args.before + (get_or l b nowhere).part < 2 ^ 32) (sym c.others.view_is) (c.requires.few b)) in
    let are : (b : ℕ) → get_or c.take_numbers.new.numbers b 0 ≡ taken_number c.args.from c.in_ok-base.base b (c.self.inside.places.items ++ c.in_ok-more.more.items) c.others.inside.places.items (get_or c.self.inside.numbers.items b 0) (get_or c.others.inside.numbers.items b 0) =
    (λ b. c.take_numbers.ensures.taken b ∙ (λ i. taken_number c.args.from c.in_ok-base.base b ((c.deref-3.ensures.value ∙ places) i) (c.deref-4.ensures.value i) (get_or (c.deref_mut.ensures.value i) b 0) (get_or (c.deref-2.ensures.value i) b 0))) in
    (λ i. get_or (table (back i) (places i)) b nowhere)
    ∙ taken_table c.self.inside.numbers.items c.others.inside.numbers.items c.take_numbers.new.numbers c.self.inside.places.items c.others.inside.places.items c.in_ok-more.more.items c.args.from c.in_ok-base.base c.args.before
    c.self.invariant.some c.self.invariant.first c.others.invariant.first c.self.invariant.each c.others.invariant.each base more few are b
    ∙ (λ i. taken c.args.from c.args.before b (get_or (c.self.view_is i) b nowhere) (get_or (c.others.view_is i) b nowhere))
