use Rattle.std.proofs.Common.{◌+◌, ◌≤◌, length, sym, ap, ◌∙◌, arith}
use Rattle.nv_region.specs.Region.{size, word}
use Rattle.nv_region.specs.ImageState.{ImageState}
use Rattle.nv_region.proofs.Fronted.{size_fronted, bytes_behind_front}
use Rattle.nv_region.proofs.image.ImageRegionPmem.load.Goals as goal

pub word_at-requires : goal.word_at-requires
word_at-requires c =
    omega (arith, c.requires.within, ap (λ (m : ImageState). size m.region) c.self.view_is, size_fronted c.self.inside.front.items c.self.inside.bytes.now (omega (arith, c.self.invariant.copied, c.self.invariant.within)))

pub returns-else-number-len : goal.returns-else-number-len
returns-else-number-len c =
    let within : c.args.at + 8 ≤ length c.self.inside.bytes.now =
    omega (arith, c.requires.within, ap (λ (m : ImageState). size m.region) c.self.view_is, size_fronted c.self.inside.front.items c.self.inside.bytes.now (omega (arith, c.self.invariant.copied, c.self.invariant.within))) in
    c.word_at.ensures ∙ sym (bytes_behind_front c.self.inside.front.items c.self.inside.bytes.now c.args.at c.requires.aligned within (omega arith)) ∙ ap (λ (m : ImageState). word m.region c.args.at) c.self.view_is
