use Rattle.std.proofs.Common.{◌≡◌, ◌*◌, ◌/◌, ℕ, length, sym, ap, ◌∙◌, arith}
use Rattle.nv_region.specs.RegionState.{RegionState}
use Rattle.nv_region.specs.Lines.{put_words}
use Rattle.nv_region.proofs.AfterStores.{all_kept, all_pass}
use Rattle.nv_region.proofs.memory.MemRegionPmem.store_words.Goals as goal

pub returns-clause-may_keep : goal.returns-clause-may_keep
returns-clause-may_keep c =
    all_kept _ _ c.args.at _ c.args.words.now (length c.args.words.now) (omega arith) (omega (arith, c.requires.within, c.len-length.ensures.short)) (c.put_row.ensures) (omega arith)

pub returns-clause-after : goal.returns-clause-after
returns-clause-after c =
    let m : RegionState = c.args.self.now in
    let n : ℕ = length c.args.words.now in
    let place : 8 * (c.args.at / 8) ≡ c.args.at = omega (arith, c.requires.aligned) in
    c.put_row.ensures ∙ ap (λ (a : ℕ). record m { region = put_words m.region a c.args.words.now n }) place ∙ sym (all_pass m c.args.at c.args.words.now n (sym c.lets_all_pass.ensures ∙ c.if-not-lets_all_pass.false))
