use Rattle.std.proofs.Common.{rules, ◌≡◌, ◌≤◌, ℕ, length, get_or, inl, inr}
use Rattle.std.proofs.lemmas.Bool.{cases_lt}
use Rattle.std.proofs.lemmas.List.{get_or_past}
use Rattle.nv_numbered.specs.Table.{slots_of}
use Rattle.nv_numbered.proofs.EntryLemmas.{entries-next, entries-none}
use Rattle.nv_numbered.proofs.SlotLemmas.{slot_at_none, slot_at_place}
use Rattle.nv_numbered.proofs.iter.IterIterator.next.Goals as goal

pub returns-in-None-clause-steps : goal.returns-in-None-clause-steps
returns-in-None-clause-steps g c =
    let t = c.self.inside in
    let places = t.places.now.items in
    let none : (k : ℕ) → t.number ≤ k → get_or places k 0 ≡ 0 = λ k from. elim (cases_lt k (length places)) [
      | inl low ↦ c.in-None.ensures.none_before k from low
      | inr past ↦ get_or_past places k 0 past
    ] in
    let rest = entries-none (slots_of places t.values.now.items) t.number (λ k from. slot_at_none places t.values.now.items k (none k from)) in
    rw (← c.self.view_is) (rest, rest)

pub returns-in-Some-clause-steps : goal.returns-in-Some-clause-steps
returns-in-Some-clause-steps g c =
    let t = c.self.inside in
    let places = t.places.now.items in
    let values = t.values.now.items in
    let found = c.in-Some.ensures.some in
    let value = slot_at_place places values c.in-Some.number c.get-place.result c.at.result.now c.get-place.ensures found.2 c.at.ensures in
    rw (← c.self.view_is) (entries-next (slots_of places values) t.number c.in-Some.number c.at.result.now found.0 value (λ k from low. slot_at_none places values k (c.in-Some.ensures.none_before k from low)))

pub returns-in-Some-clause-goes : goal.returns-in-Some-clause-goes
returns-in-Some-clause-goes g c = rw (returns-in-Some-clause-steps g c) (search rules)
