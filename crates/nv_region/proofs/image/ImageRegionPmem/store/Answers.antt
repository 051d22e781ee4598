use Rattle.std.proofs.Common.{◌≡◌, ◌≤◌, ◌<◌, ◌+◌, ◌*◌, ◌/◌, List, ℕ, length, get_or, ap, ◌∙◌, arith}
use Rattle.nv_region.specs.Region.{Region, put, region_of}
use Rattle.nv_region.specs.ImageState.{ImageState, with_front}
use Rattle.nv_region.proofs.Fronted.{set_in_front, as_long_fronted, count_of_words, front_within, reached, still_fronted, stored_or_before}
use Rattle.nv_region.proofs.image.ImageRegionPmem.store.Goals as goal

pub index_mut-requires : goal.index_mut-requires
index_mut-requires c =
    omega (arith, reached c.self.inside.front.items c.read_front.new.front.items c.self.inside.bytes.now (c.args.at / 8 + 1) c.self.inside.limit c.read_front.ensures.words (omega arith) c.self.invariant.within)

pub returns-clause-stored : goal.returns-clause-stored
returns-clause-stored c =
    let R = region_of c.self.inside.bytes.now in
    let same : with_front c.read_front.new.front.items R ≡ with_front c.self.inside.front.items R =
    ap (λ (l : List ℕ). with_front l R) c.read_front.ensures.words ∙ still_fronted c.self.inside.front.items (c.args.at / 8 + 1) R (omega (arith, count_of_words c.self.inside.bytes.now, c.self.invariant.within)) in
    set_in_front c.read_front.new.front.items R (c.args.at / 8) c.args.value
    (omega (arith, reached c.self.inside.front.items c.read_front.new.front.items c.self.inside.bytes.now (c.args.at / 8 + 1) c.self.inside.limit c.read_front.ensures.words (omega arith) c.self.invariant.within))
    ∙ ap (λ (S : Region). put S c.args.at c.args.value) (same ∙ ap (λ (m : ImageState). m.region) c.self.view_is)

pub returns-clause-may_keep : goal.returns-clause-may_keep
returns-clause-may_keep c i x is =
    let front = c.self.inside.front.items in
    let bytes = c.self.inside.bytes.now in
    let within : 8 * length front ≤ length bytes = omega (arith, c.self.invariant.copied, c.self.invariant.within) in
    let inside : c.args.at / 8 < length c.args.self.now.region.words =
    omega (arith, ap (λ (m : ImageState). length m.region.words) c.self.view_is, as_long_fronted front (region_of bytes) (front_within front bytes within), count_of_words bytes) in
    stored_or_before c.args.self.now.region.words (c.args.at / 8) c.args.value i x inside (is ∙ ap (λ (R : Region). get_or R.words i 0) (returns-clause-stored c))
