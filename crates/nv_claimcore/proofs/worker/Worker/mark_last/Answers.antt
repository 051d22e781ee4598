use Rattle.std.proofs.Common.{◌≡◌, ℕ, ◌-◌, List, length, get_or, set, sym, ap, ◌∙◌, subst}
use Rattle.nv_claimcore.specs.declared.view.Record.{Record}
use Rattle.nv_claimcore.specs.declared.view.View.{View}
use Rattle.nv_claimcore.specs.Claims.{mark, with_mark, Owes}
use Rattle.nv_claimcore.proofs.UnmarkedAt.{mark_end}
use Rattle.nv_claimcore.proofs.worker.Worker.mark_last.Goals as goal

pub returns : goal.returns
returns c = λ b owes.
    let same = ap (λ (v : View). v.records) c.self.view_is in
    let long : c.len-last.result ≡ length c.self.inside.records.items = c.len-last.ensures ∙ c.self.inside.records.ok.0 in
    let found : mark c.index_mut.result.now ≡ mark (get_or c.self.inside.records.items (length c.self.inside.records.items - 1) c.index_mut.result.now) = ap mark c.index_mut.ensures.value ∙ ap (λ (n : ℕ). mark (get_or c.self.inside.records.items (n - 1) c.index_mut.result.now)) long in
    ap (λ (xs : List Record). record { seats = 1; numbers = c.self.inside.numbers.items; records = xs }) ((λ i. set c.self.inside.records.items (long i - 1) (found i)) ∙ mark_end b c.self.inside.records.items c.index_mut.result.now (subst (Owes b) (sym same) owes))
    ∙ ap (λ (v : View). with_mark v b) c.self.view_is
