use Rattle.std.proofs.Common.{refl, List, ℕ, subst}
use Rattle.nv_scan.specs.Work.{claims_in}
use Rattle.nv_cross_check.specs.Doubled.{AreDoubled}
use Rattle.nv_recover.proofs.Owned.{owned_by_sets, sets_same}
use Rattle.nv_recover.proofs.sets.Sets.owned.Goals as goal

pub doubled_in-requires : goal.doubled_in-requires
doubled_in-requires c = let given = c.requires in (given.0, given.1, c.args.self.first.items, sets_same refl c.deref.ensures.value given.2)

pub returns : goal.returns
returns c = λ region pieces are. owned_by_sets _ are refl
    (subst (λ (second : List ℕ). AreDoubled (claims_in pieces) second c.in_ok-doubled.doubled.items) c.deref.ensures.value (c.in_ok-doubled.ensures region pieces c.args.self.first.items (sets_same refl c.deref.ensures.value are)))
