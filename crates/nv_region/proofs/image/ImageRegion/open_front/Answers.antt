use Rattle.std.proofs.Common.{◌*◌, ◌≤◌, length, ap, ◌∙◌, arith}
use Rattle.nv_region.specs.Region.{size, region_of}
use Rattle.nv_region.specs.ImageState.{ImageState}
use Rattle.nv_region.proofs.Fronted.{as_long_fronted, count_of_words, front_within, size_fronted, opens}
use Rattle.nv_region.proofs.image.ImageRegion.open_front.Goals as goal

pub returns-then-wanted-self-clause-front : goal.returns-then-wanted-self-clause-front
returns-then-wanted-self-clause-front c =
    let front = c.self.inside.front.items in
    let bytes = c.self.inside.bytes.now in
    let within : 8 * length front ≤ length bytes = omega (arith, c.self.invariant.copied, c.self.invariant.within) in
    omega (arith, ap (λ (m : ImageState). m.front) c.self.view_is, ap (λ (m : ImageState). length m.region.words) c.self.view_is, as_long_fronted front (region_of bytes) (front_within front bytes within), count_of_words bytes)

pub returns-then-wanted-self-clause-open : goal.returns-then-wanted-self-clause-open
returns-then-wanted-self-clause-open c fresh room =
    let front = c.self.inside.front.items in
    let bytes = c.self.inside.bytes.now in
    let within : 8 * length front ≤ length bytes = omega (arith, c.self.invariant.copied, c.self.invariant.within) in
    opens (4096 * c.args.blocks) c.args.self.now.front c.args.self.now.burnt (omega (arith, room, ap (λ (m : ImageState). m.front) c.self.view_is, ap (λ (m : ImageState). size m.region) c.self.view_is, size_fronted front bytes within)) fresh

pub returns-clause-front : goal.returns-clause-front
returns-clause-front c =
    let front = c.self.inside.front.items in
    let bytes = c.self.inside.bytes.now in
    let within : 8 * length front ≤ length bytes = omega (arith, c.self.invariant.copied, c.self.invariant.within) in
    omega (arith, ap (λ (m : ImageState). m.front) c.self.view_is, ap (λ (m : ImageState). length m.region.words) c.self.view_is, as_long_fronted front (region_of bytes) (front_within front bytes within), count_of_words bytes)

pub returns-clause-open : goal.returns-clause-open
returns-clause-open c fresh room =
    let front = c.self.inside.front.items in
    let bytes = c.self.inside.bytes.now in
    let within : 8 * length front ≤ length bytes = omega (arith, c.self.invariant.copied, c.self.invariant.within) in
    opens (4096 * c.args.blocks) (8 * c.min-wanted.result) c.self.inside.burnt (omega (arith, room, ap (λ (m : ImageState). size m.region) c.self.view_is, size_fronted front bytes within)) (ap (λ (m : ImageState). m.burnt) c.self.view_is ∙ fresh)
