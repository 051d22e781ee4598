use Rattle.std.proofs.Common.{◌≡◌, ◌∙◌, List, [], ℕ, ap}
use Rattle.nv_region.specs.RegionState.{RegionState}
use Rattle.nv_region.specs.Recent.{taken_back}
use Rattle.nv_region.specs.StoredLines.{Noted, words_before}
use Rattle.nv_region.specs.declared.recent.StoredWord.{StoredWord}
use Rattle.nv_region.proofs.Before.{none_before}
use Rattle.nv_region.proofs.memory.MemRegion.settle.Goals as goal

pub returns : goal.returns
returns c =
    let words : List ℕ = c.self.inside.words.items in
    let fenced : words_before c.clear.new.self.rows c.clear.new.self.kept (taken_back c.forget.new.self words) ≡ words =
    ap (λ (stores : List StoredWord). words_before c.clear.new.self.rows c.clear.new.self.kept (taken_back stores words)) c.forget.ensures
    ∙ ap (λ (n : Noted). words_before n.rows n.kept words) c.clear.ensures ∙ none_before [] words in
    (λ k. record { region = record { words = words; rest = c.self.inside.rest.items }; fenced = fenced k; fuse = c.self.inside.fuse; burnt = c.self.inside.burnt })
    ∙ ap (λ (m : RegionState). record m { fenced = m.region.words }) c.self.view_is
