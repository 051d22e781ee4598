use Rattle.nv_numbered.proofs.PairLemmas.{no_place}
use Rattle.nv_numbered.proofs.SlotLemmas.{slot_at_none}
use Rattle.nv_numbered.proofs.SoundLemmas.{IsSound-empty}
use Rattle.nv_numbered.proofs.table.Numbered.new.Goals as goal

pub invariant_of-result : goal.invariant_of-result
invariant_of-result g c =
    rw (c.in_ok-new.ensures.items, c.new-2.ensures.items, c.new-3.ensures)
    (IsSound-empty c.args.limit c.requires)

pub returns-clause-empty : goal.returns-clause-empty
returns-clause-empty g c = λ number.
    rw (c.in_ok-new.ensures.items)
    (slot_at_none _ _ number (no_place c.args.limit number))
