use Rattle.std.proofs.Common.{◌≡◌, ℕ, ◌+◌, List, map, take, drop, sym, ap, ◌∙◌, subst, min, ◌-◌}
use Rattle.std.specs.Mem.Slots.{slots_items}
use Rattle.nv_blockset.specs.BlockSet.{words_for}
use Rattle.nv_super.specs.Owners.{claims_of}
use Rattle.nv_claimcore.specs.declared.view.Sizes.{Sizes}
use Rattle.nv_claimcore.specs.declared.view.View.{View}
use Rattle.nv_claimcore.specs.Finished.{pair_of}
use Rattle.nv_claimmap.specs.Held.{MapId, Held}
use Rattle.nv_claimmap.proofs.Closing.{Ends, ending}
use Rattle.nv_claimmap.proofs.map.ClaimMap.close.Goals as goal

ends : (c : goal.After-free) → Ends c.args.self.sizes.blocks c.args.seat.view c.copy_words.new.to.items c.copy_words-2.new.to.items
ends c =
    let m = c.self.inside in let s = c.seat.inside in
    let view : s.seat.me.0 ≡ c.args.seat.view = ap (λ (h : Held). h.view) c.seat.view_is in
    let sizes : m.table.shared.key ≡ c.args.self.sizes = c.self.invariant.key ∙ ap (λ (i : MapId). i.sizes) c.self.view_is in
    let words : m.words ≡ words_for m.table.shared.key.blocks = c.self.invariant.words ∙ ap (λ (z : Sizes). words_for z.blocks) (sym c.self.invariant.key) in
    let all : s.seat.me.0.seats ≡ m.table.shared.key.workers = ap (λ (v : View). v.seats) view ∙ (c.requires.all ∙ ap (λ (z : Sizes). z.workers) (sym sizes)) in
    let e = ending m.table.shared.key s.seat.id s.seat.me.0 (slots_items c.close_with-closed.result.words) (slots_items c.close_with-closed.result.slots) c.close_with-closed.ensures.values.2 all c.seat.invariant.settled in
    let one : c.copy_words.new.to.items ≡ take (words_for m.table.shared.key.blocks) (drop 16 (slots_items c.close_with-closed.result.words)) = c.copy_words.ensures ∙ ap (λ n. take n (drop 16 (slots_items c.close_with-closed.result.words))) words in
    let two : c.copy_words-2.new.to.items ≡ take (words_for m.table.shared.key.blocks) (drop (words_for m.table.shared.key.blocks + 31) (slots_items c.close_with-closed.result.words)) =
    c.copy_words-2.ensures ∙ ap (λ k. take m.words (drop k (slots_items c.close_with-closed.result.words))) c.second_from.ensures ∙ ap (λ n. take n (drop (n + 31) (slots_items c.close_with-closed.result.words))) words in
    subst (λ (x : ℕ × View × List ℕ × List ℕ). Ends x.0 x.1 x.2 x.3) (λ i. ((sizes i).blocks, view i, sym one i, sym two i)) e

claims : (c : goal.After-free) → c.seat.inside.claims.items ≡ map pair_of c.args.seat.view.records
claims c = c.seat.invariant.claims ∙ ap (λ (h : Held). map pair_of h.view.records) c.seat.view_is

pub returns-clause-numbers : goal.returns-clause-numbers
returns-clause-numbers c = (ends c).numbers

pub returns-clause-once : goal.returns-clause-once
returns-clause-once c = λ b. (ends c).once b ∙ ap (λ ps. min 1 (claims_of b ps)) (sym (claims c))

pub returns-clause-first : goal.returns-clause-first
returns-clause-first c = λ b. (ends c).first_has b ∙ ap (λ ps. min 1 (claims_of b ps)) (sym (claims c))

pub returns-clause-first_words : goal.returns-clause-first_words
returns-clause-first_words c = (ends c).first_words

pub returns-clause-second : goal.returns-clause-second
returns-clause-second c = λ b. (ends c).second_has b ∙ ap (λ ps. min 1 (claims_of b ps - 1)) (sym (claims c))

pub returns-clause-second_words : goal.returns-clause-second_words
returns-clause-second_words c = (ends c).second_words

pub returns-clause-claims : goal.returns-clause-claims
returns-clause-claims c = claims c
