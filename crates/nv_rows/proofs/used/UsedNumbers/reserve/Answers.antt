use Rattle.std.proofs.Common.{◌≡◌, ◌∙◌, ap, sym, get_or, arith}
use Rattle.std.proofs.lemmas.List.{get_or_default}
use Rattle.std.proofs.lemmas.Result.{on_ok_weaker}
use Rattle.nv_rows.specs.InUse.{has_number, UsedSets}
use Rattle.nv_rows.proofs.MoreRoom.{longer_long, longer_numbers, longer_room, sets_inside}
use Rattle.nv_rows.proofs.used.UsedNumbers.reserve.Goals as goal

pub index-requires : goal.index-requires
index-requires c = (let t = c.self.inside in let below = rw (← c.self.view_is) at c.requires in omega (arith, below, t.sizes.ok.0))

pub index_mut-requires : goal.index_mut-requires
index_mut-requires c =
    let t = c.self.inside in
    let below = rw (← c.self.view_is) at c.requires in
    omega (arith, t.sets.ok.0, sets_inside t.sizes.items t.sets.items c.self.invariant c.args.cpu below)

pub invariant_of-self : goal.invariant_of-self
invariant_of-self c =
    let t = c.self.inside in
    let below = rw (← c.self.view_is) at c.requires in
    longer_room t.sizes.items t.sets.items c.self.invariant c.args.cpu below c.index_mut.result.now c.lengthen.new.set c.index_mut.ensures.value c.lengthen.ensures.more

pub returns-clause-same : goal.returns-clause-same
returns-clause-same c i =
    let t = c.self.inside in
    let below = rw (← c.self.view_is) at c.requires in
    longer_numbers t.sizes.items t.sets.items c.self.invariant c.args.cpu below c.index_mut.result.now c.lengthen.new.set c.index_mut.ensures.value c.lengthen.ensures.same i
    ∙ ap (λ (u : UsedSets). has_number u.sets i) c.self.view_is

pub returns-clause-ready : goal.returns-clause-ready
returns-clause-ready c =
    let t = c.self.inside in
    let below = rw (← c.self.view_is) at c.requires in
    let size : get_or t.sizes.items c.args.cpu 0 ≡ c.index.result.now = get_or_default t.sizes.items c.args.cpu 0 c.index.result.now below ∙ sym c.index.ensures in
    let told : get_or c.args.self.now.sizes c.args.cpu 0 ≡ get_or t.sizes.items c.args.cpu 0 = sym (ap (λ (u : UsedSets). get_or u.sizes c.args.cpu 0) c.self.view_is) in
    let long = longer_long t.sizes.items t.sets.items c.self.invariant c.args.cpu below c.index_mut.result.now c.lengthen.new.set c.index_mut.ensures.value in
    on_ok_weaker c.lengthen.result (λ words. omega (arith, words, c.words_for-words.ensures, size, told, long)) c.lengthen.ensures.long
