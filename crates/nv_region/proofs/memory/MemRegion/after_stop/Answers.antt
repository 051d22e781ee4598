use Rattle.std.proofs.Common.{◌≡◌, ◌∙◌, List, ℕ, length, ap, sym, arith}
use Rattle.std.specs.Vec.{with_items}
use Rattle.std.proofs.lemmas.List.{take_at}
use Rattle.nv_region.specs.RegionState.{RegionState}
use Rattle.nv_region.specs.Kept.{kept}
use Rattle.nv_region.specs.Recent.{taken_back}
use Rattle.nv_region.specs.StoredLines.{Noted, words_before}
use Rattle.nv_region.proofs.Alternate.{kept_may_be_left}
use Rattle.nv_region.proofs.Before.{settled, length-words_before}
use Rattle.nv_region.proofs.RecentStores.{length-taken_back}
use Rattle.nv_region.proofs.memory.MemRegion.after_stop.Goals as goal

pub returns-clause-left : goal.returns-clause-left
returns-clause-left c =
    let words : List ℕ = c.self.inside.words.items in
    let rows = c.self.inside.stored.rows in
    let held : List ℕ = c.self.inside.stored.kept in
    let fenced : List ℕ = words_before rows held (taken_back c.self.inside.recent words) in
    let stored = c.note_recent.new.stored in
    let lent = c.deref_mut.ensures.value in
    let same : c.note_recent.new.words ≡ words = c.note_recent.ensures.same ∙ lent in
    let again : c.deref_mut-2.result.now ≡ words = c.deref_mut-2.ensures.value ∙ take_at c.note_recent.new.words _ c.self.inside.words.len (omega (arith, ap length same, c.self.inside.words.ok)) ∙ same in
    let as_long : length c.keep_words.new.words ≡ length words = c.keep_words.ensures.as_long ∙ ap length again in
    let items : (with_items (with_items c.self.inside.words c.note_recent.new.words) c.keep_words.new.words).items ≡ c.keep_words.new.words = take_at c.keep_words.new.words _ c.self.inside.words.len (omega (arith, as_long, c.self.inside.words.ok)) in
    let noted : words_before stored.rows stored.kept words ≡ fenced =
    ap (λ (l : List ℕ). words_before stored.rows stored.kept l) (sym lent) ∙ c.note_recent.ensures.before ∙ ap (λ (l : List ℕ). words_before rows held (taken_back c.self.inside.recent l)) lent in
    let made : c.keep_words.new.words ≡ kept c.args.keep words fenced =
    c.keep_words.ensures.words ∙ ap (λ (l : List ℕ). kept c.args.keep l (words_before stored.rows stored.kept l)) again ∙ ap (λ (l : List ℕ). kept c.args.keep words l) noted in
    kept_may_be_left c.args.keep c.args.self words c.self.inside.rest.items fenced _ (ap (λ (m : RegionState). m.region) (sym c.self.view_is)) (ap (λ (m : RegionState). m.fenced) (sym c.self.view_is))
    (length-words_before rows held (taken_back c.self.inside.recent words) ∙ length-taken_back c.self.inside.recent words) (items ∙ made)

pub returns-clause-settled : goal.returns-clause-settled
returns-clause-settled c = settled _ _ _ _ (ap (λ (n : Noted). n.rows) c.clear.ensures) c.note_recent.ensures.none
