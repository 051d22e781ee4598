use Rattle.std.proofs.Common.{◌≡◌, ◌+◌, ◌*◌, ◌∙◌, ℕ, get_or, length, ap, sym, add-one, arith}
use Rattle.nv_region.specs.Region.{put}
use Rattle.nv_region.specs.RegionState.{RegionState}
use Rattle.nv_region.specs.Lines.{put_words}
use Rattle.nv_region.proofs.Lines.{put_words_long}
use Rattle.nv_region.proofs.memory.MemRegion.put_each.Goals as goal

pub put-requires : goal.put-requires
put-requires c =
    let long = put_words_long c.args.self.now.region (8 * c.args.first) c.args.words.now c.loop-k.k in
    omega (arith, c.requires.within, c.loop-k-test.true, long, ap (λ (m : RegionState). length m.region.words) c.loop-k.invariant)

pub loop-k-preserved : goal.loop-k-preserved
loop-k-preserved c =
    let m : RegionState = c.args.self.now in
    let first : ℕ = c.args.first in
    let k : ℕ = c.loop-k.k in
    let value : ℕ = get_or c.args.words.now k 0 in
    let place : 8 * (first + k) ≡ 8 * first + 8 * k = omega arith in
    c.put.ensures
    ∙ ap (λ (s : RegionState). record s { region = put s.region (8 * (first + k)) value }) c.loop-k.invariant
    ∙ ap (λ (a : ℕ). record m { region = put (put_words m.region (8 * first) c.args.words.now k) a value }) place
    ∙ ap (λ (n : ℕ). record m { region = put_words m.region (8 * first) c.args.words.now n }) (sym (add-one k))
