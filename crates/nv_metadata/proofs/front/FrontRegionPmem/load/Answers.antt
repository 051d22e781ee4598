use Rattle.std.proofs.Common.{◌/◌, [], refl, sym, ap, ◌∙◌, arith}
use Rattle.nv_region.specs.Region.{word, words_of}
use Rattle.nv_region.specs.ImageState.{ImageState}
use Rattle.nv_region.proofs.Fronted.{count_of_words}
use Rattle.nv_metadata.proofs.Held.{front_first, zeros_first}
use Rattle.nv_metadata.proofs.front.FrontRegionPmem.load.Goals as goal

pub returns-then-at-self : goal.returns-then-at-self
returns-then-at-self c =
    c.word_at.ensures ∙ sym (front_first (words_of c.self.inside.bytes.now) c.self.inside.bytes.now c.self.inside.blocks (λ _. []) refl c.args.at c.requires.aligned (omega (arith, c.requires.aligned, c.self.invariant.1, c.if-at-self.true)))
    ∙ ap (λ (m : ImageState). word m.region c.args.at) c.self.view_is

pub returns-else-at-self : goal.returns-else-at-self
returns-else-at-self c =
    sym (zeros_first (words_of c.self.inside.bytes.now) c.self.inside.blocks (λ _. []) (λ b. refl) (omega (arith, count_of_words c.self.inside.bytes.now, c.self.invariant.0)) (c.args.at / 8) (omega (arith, count_of_words c.self.inside.bytes.now, c.if-at-self.false)))
    ∙ ap (λ (m : ImageState). word m.region c.args.at) c.self.view_is
