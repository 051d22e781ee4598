use Rattle.std.proofs.Common.{sym, ap, ◌∙◌, subst, length, ◌<◌, arith}
use Rattle.nv_region.specs.Region.{size}
use Rattle.nv_region.specs.ImageState.{ImageState}
use Rattle.nv_region.proofs.Fronted.{size_fronted, short_rest}
use Rattle.nv_region.proofs.image.ImageRegionPmem.len.Goals as goal

pub returns-clause-bytes : goal.returns-clause-bytes
returns-clause-bytes c = sym (size_fronted c.self.inside.front.items c.self.inside.bytes.now (omega (arith, c.self.invariant.copied, c.self.invariant.within))) ∙ ap (λ (m : ImageState). size m.region) c.self.view_is

pub returns-clause-short : goal.returns-clause-short
returns-clause-short c = subst (λ (m : ImageState). length m.region.rest < 8) c.self.view_is (short_rest c.self.inside.bytes.now)
