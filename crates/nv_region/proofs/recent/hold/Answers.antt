use Rattle.std.proofs.Common.{◌≡◌, ◌∙◌, ◌/◌, ◌+◌, ap, arith, List, ℕ, set, sym, subst, length-set}
use Rattle.std.proofs.lemmas.List.{get_or-set_other}
use Rattle.nv_region.specs.Recent.{AreHeld, taken_back}
use Rattle.nv_region.specs.StoredLines.{word_before, words_before}
use Rattle.nv_region.specs.declared.recent.StoredWord.{StoredWord}
use Rattle.nv_region.proofs.RecentStores.{next_held, next_taken_back}
use Rattle.nv_region.proofs.Before.{row_before}
use Rattle.nv_region.proofs.recent.hold.Goals as goal

pub returns-then-not-is_full-clause-held : goal.returns-then-not-is_full-clause-held
returns-then-not-is_full-clause-held c =
    subst (λ (stores : List StoredWord). AreHeld stores (set c.args.words.now c.args.number c.args.value)) (sym c.push.ensures) (next_held c.args.recent.now c.args.words.now c.args.number c.args.value c.requires.within c.requires.held)

pub returns-then-not-is_full-clause-before : goal.returns-then-not-is_full-clause-before
returns-then-not-is_full-clause-before c =
    let rows = c.args.stored.now.rows in
    let kept : List ℕ = c.args.stored.now.kept in
    let words : List ℕ = c.args.words.now in
    ap (λ (stores : List StoredWord). words_before rows kept (taken_back stores (set words c.args.number c.args.value))) c.push.ensures
    ∙ ap (λ (l : List ℕ). words_before rows kept l) (next_taken_back c.args.recent.now words c.args.number c.args.value)

pub returns-else-is_empty-clause-before : goal.returns-else-is_empty-clause-before
returns-else-is_empty-clause-before c =
    let words : List ℕ = c.args.words.now in
    let number : ℕ = c.args.number in
    let after : List ℕ = set words number c.args.value in
    let now = c.note_recent.new.stored in
    let same : c.note_recent.new.words ≡ words = c.note_recent.ensures.same in
    ap (λ (stores : List StoredWord). words_before c.note.new.self.rows c.note.new.self.kept (taken_back stores after)) c.note_recent.ensures.none
    ∙ row_before now.rows c.note.new.self.rows now.kept c.note.new.self.kept words after (number / 8) (number / 8 + 1)
    (λ i within from to. c.note.ensures.here after i (rw same within) (omega (arith, from, to)) ∙ ap (λ (l : List ℕ). word_before now.rows now.kept l i) same)
    (λ i within away. c.note.ensures.others after i (rw same within) (λ is. away (omega (arith, is)) (omega (arith, is)))) (length-set words number c.args.value)
    (λ i away. get_or-set_other words number i c.args.value 0 (λ is. away (omega (arith, ap (λ (n : ℕ). n / 8) is)) (omega (arith, ap (λ (n : ℕ). n / 8) is))))
    ∙ c.note_recent.ensures.before
