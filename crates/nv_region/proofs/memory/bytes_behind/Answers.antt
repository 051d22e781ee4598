use Rattle.std.proofs.Common.{◌∙◌, ◌≡◌, ℕ, List, sym, arith}
use Rattle.std.proofs.lemmas.Result.{IfOk-weaker}
use Rattle.nv_region.specs.Region.{Region}
use Rattle.nv_region.proofs.Cuts.{cut_in_word, cut_behind_words}
use Rattle.nv_region.proofs.memory.bytes_behind.Goals as goal

with_rest : (words : List ℕ) {a b : List ℕ} → a ≡ b → ◌≡◌ {A = Region} (record { words = words; rest = a }) (record { words = words; rest = b })
with_rest words same = λ i. record { words = words; rest = same i }

pub returns-then-whole-words-clause-front : goal.returns-then-whole-words-clause-front
returns-then-whole-words-clause-front c =
    IfOk-weaker c.word_front.result _ _ (λ bytes is. cut_in_word c.args.words.now c.args.rest.now c.args.count (λ i. omega (arith, (c.type_inv.words i).fits)) c.if-whole-words.true ∙ with_rest _ (sym is)) c.word_front.ensures

pub returns-else-whole-words-clause-front : goal.returns-else-whole-words-clause-front
returns-else-whole-words-clause-front c =
    IfOk-weaker c.to_vec.result _ _ (λ bytes is. cut_behind_words c.args.words.now c.args.rest.now c.args.count (λ i. omega (arith, (c.type_inv.words i).fits)) (omega (arith, c.if-whole-words.false)) ∙ with_rest _ (sym (is (λ x y same. same)))) c.to_vec.ensures.items_if_clones_equal
