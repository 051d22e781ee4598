use Rattle.std.proofs.Common.{◌≡◌, ◌/◌, ℕ, List, length, ap, sym, refl, ◌∙◌, arith, eqb}
use Rattle.std.specs.Vec.{with_items}
use Rattle.std.proofs.lemmas.List.{take_at}
use Rattle.nv_blockset.specs.BlockSet.{is_set}
use Rattle.nv_region.specs.StoredLines.{Noted, is_stored, word_before}
use Rattle.nv_region.proofs.Marks.{room_left, row_marked}
use Rattle.nv_region.proofs.Before.{fresh_here, fresh_other}
use Rattle.nv_region.proofs.stored.StoredLines.note_fresh.Goals as goal

pub keep-requires-clause-room : goal.keep-requires-clause-room
keep-requires-clause-room c =
    let all : length c.args.words.now ≡ c.self.inside.total = c.requires.all ∙ sym (ap (λ (n : Noted). n.total) c.self.view_is) in
    (room_left c.self.inside c.args.words.now c.args.first c.args.end c.self.invariant all c.requires.rises (omega (arith, all, c.requires.within)) (λ p from to. ap (λ (n : Noted). is_stored n p) c.self.view_is ∙ c.requires.fresh p from to)).0

pub keep-requires-clause-wide : goal.keep-requires-clause-wide
keep-requires-clause-wide c =
    let all : length c.args.words.now ≡ c.self.inside.total = c.requires.all ∙ sym (ap (λ (n : Noted). n.total) c.self.view_is) in
    (room_left c.self.inside c.args.words.now c.args.first c.args.end c.self.invariant all c.requires.rises (omega (arith, all, c.requires.within)) (λ p from to. ap (λ (n : Noted). is_stored n p) c.self.view_is ∙ c.requires.fresh p from to)).1

pub invariant_of-self : goal.invariant_of-self
invariant_of-self c =
    let old : List ℕ = c.self.inside.marks.items in
    let all : length c.args.words.now ≡ c.self.inside.total = c.requires.all ∙ sym (ap (λ (n : Noted). n.total) c.self.view_is) in
    let as_long : length c.insert_row.new.words ≡ length old = c.insert_row.ensures.count ∙ ap length c.deref_mut.ensures.value in
    let marks : (with_items c.self.inside.marks c.insert_row.new.words).items ≡ c.insert_row.new.words = take_at c.insert_row.new.words _ c.self.inside.marks.len (omega (arith, as_long, c.self.inside.marks.ok)) in
    row_marked c.self.inside _ c.args.words.now c.args.first c.args.end c.self.invariant all c.requires.rises (omega (arith, all, c.requires.within)) (λ p from to. ap (λ (n : Noted). is_stored n p) c.self.view_is ∙ c.requires.fresh p from to)
    refl c.keep.ensures.rows c.keep.ensures.kept c.keep.ensures.room c.keep.ensures.wide (ap length marks ∙ as_long)
    (λ p from to. ap (λ (ws : List ℕ). is_set ws p) marks ∙ ap (λ (x : ℕ). eqb x 1) (c.insert_row.ensures.row p from to))
    (λ p away. ap (λ (ws : List ℕ). is_set ws p) marks ∙ ap (λ (x : ℕ). eqb x 1) (c.insert_row.ensures.others p away) ∙ ap (λ (ws : List ℕ). is_set ws p) c.deref_mut.ensures.value)

pub returns-clause-here : goal.returns-clause-here
returns-clause-here c after i within from to =
    let s = c.self.inside in
    let all : length c.args.words.now ≡ s.total = c.requires.all ∙ sym (ap (λ (n : Noted). n.total) c.self.view_is) in
    (λ k. word_before (c.keep.ensures.rows k) (c.keep.ensures.kept k) after i)
    ∙ fresh_here s.total s.rows.items s.kept.items c.args.words.now c.args.first c.args.end c.self.invariant.rows all after i within (ap (λ (n : Noted). is_stored n (i / 8)) c.self.view_is ∙ c.requires.fresh (i / 8) from to) from to

pub returns-clause-others : goal.returns-clause-others
returns-clause-others c after i within away =
    let s = c.self.inside in
    let all : length c.args.words.now ≡ s.total = c.requires.all ∙ sym (ap (λ (n : Noted). n.total) c.self.view_is) in
    (λ k. word_before (c.keep.ensures.rows k) (c.keep.ensures.kept k) after i)
    ∙ fresh_other s.total s.rows.items s.kept.items c.args.words.now c.args.first c.args.end c.self.invariant.rows all after i within away ∙ ap (λ (n : Noted). word_before n.rows n.kept after i) c.self.view_is
