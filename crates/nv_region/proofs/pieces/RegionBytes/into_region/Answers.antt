use Rattle.std.proofs.Common.{◌∙◌, ap, length, arith}
use Rattle.nv_region.specs.Region.{Region, size, word}
use Rattle.nv_region.proofs.Bytes.{size_of_bytes, word_of_bytes}
use Rattle.nv_region.proofs.Added.{region_again, size_again}
use Rattle.nv_region.proofs.pieces.RegionBytes.into_region.Goals as goal

pub of_words-requires-clause-small : goal.of_words-requires-clause-small
of_words-requires-clause-small c =
    omega (arith, size_again c.self.inside.words.items c.self.inside.rest.items _ _ c.args.self c.deref.ensures.value c.deref-2.ensures.value c.count_of_bytes-count.ensures.back c.self.view_is, ap length c.deref.ensures.value)

pub returns-clause-region : goal.returns-clause-region
returns-clause-region c = c.in_ok-of_words.ensures.region ∙ region_again c.self.inside.words.items c.self.inside.rest.items _ _ c.args.self c.deref.ensures.value c.deref-2.ensures.value c.count_of_bytes-count.ensures.back c.self.view_is

pub returns-clause-size : goal.returns-clause-size
returns-clause-size c = ap size (returns-clause-region c) ∙ size_of_bytes c.args.self

pub returns-clause-words : goal.returns-clause-words
returns-clause-words c at aligned within = ap (λ (R : Region). word R at) (returns-clause-region c) ∙ word_of_bytes c.args.self at aligned within
