use Rattle.std.proofs.Common.{[], sym, ap, ◌∙◌, arith}
use Rattle.nv_region.specs.Region.{size, words_of}
use Rattle.nv_region.specs.ImageState.{ImageState}
use Rattle.nv_region.proofs.Fronted.{count_of_words}
use Rattle.nv_metadata.proofs.Held.{size_shown}
use Rattle.nv_metadata.proofs.front.FrontRegionPmem.len.Goals as goal

pub returns-clause-bytes : goal.returns-clause-bytes
returns-clause-bytes c =
    sym (size_shown (words_of c.self.inside.bytes.now) c.self.inside.blocks (λ _. []) (omega (arith, count_of_words c.self.inside.bytes.now, c.self.invariant.0)))
    ∙ ap (λ (m : ImageState). size m.region) c.self.view_is
