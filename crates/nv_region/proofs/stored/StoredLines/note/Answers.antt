use Rattle.std.proofs.Common.{◌≡◌, ℕ, ◌+◌, ◌<◌, ◌/◌, List, length, false, true, ap, sym, refl, ◌∙◌, arith, eqb}
use Rattle.std.specs.Vec.{with_items}
use Rattle.std.proofs.lemmas.List.{take_at}
use Rattle.nv_blockset.specs.BlockSet.{is_set, with_block}
use Rattle.nv_blockset.proofs.Sets.{has_same, has_other, with_block_long}
use Rattle.nv_region.specs.StoredLines.{Noted, is_stored, word_before}
use Rattle.nv_region.proofs.Marks.{room_left, row_marked, line_fresh}
use Rattle.nv_region.proofs.Before.{again_here, fresh_here, fresh_other, not_stored}
use Rattle.nv_region.proofs.stored.StoredLines.note.Goals as goal

pub keep_line-requires-clause-room : goal.keep_line-requires-clause-room
keep_line-requires-clause-room c =
    let all : length c.args.words.now ≡ c.self.inside.total = c.requires.all ∙ sym (ap (λ (n : Noted). n.total) c.self.view_is) in
    let off : is_set c.self.inside.marks.items c.args.number ≡ false = ap (λ (ws : List ℕ). is_set ws c.args.number) (sym c.deref.ensures.value) ∙ sym c.contains.ensures ∙ c.if-not-contains.true in
    (room_left c.self.inside c.args.words.now c.args.number (c.args.number + 1) c.self.invariant all (omega arith) (omega (arith, all, c.requires.within)) (line_fresh c.self.inside c.args.number c.self.invariant off)).0

pub keep_line-requires-clause-wide : goal.keep_line-requires-clause-wide
keep_line-requires-clause-wide c =
    let all : length c.args.words.now ≡ c.self.inside.total = c.requires.all ∙ sym (ap (λ (n : Noted). n.total) c.self.view_is) in
    let off : is_set c.self.inside.marks.items c.args.number ≡ false = ap (λ (ws : List ℕ). is_set ws c.args.number) (sym c.deref.ensures.value) ∙ sym c.contains.ensures ∙ c.if-not-contains.true in
    let room = (room_left c.self.inside c.args.words.now c.args.number (c.args.number + 1) c.self.invariant all (omega arith) (omega (arith, all, c.requires.within)) (line_fresh c.self.inside c.args.number c.self.invariant off)).1 in
    omega (arith, room)

pub invariant_of-self : goal.invariant_of-self
invariant_of-self c =
    let number : ℕ = c.args.number in
    let old : List ℕ = c.self.inside.marks.items in
    let all : length c.args.words.now ≡ c.self.inside.total = c.requires.all ∙ sym (ap (λ (n : Noted). n.total) c.self.view_is) in
    let off : is_set old number ≡ false = ap (λ (ws : List ℕ). is_set ws number) (sym c.deref.ensures.value) ∙ sym c.contains.ensures ∙ c.if-not-contains.true in
    let within : number / 64 < length old = omega (arith, c.requires.within, all, c.self.invariant.marks) in
    let set : c.insert.new.words ≡ with_block old number = c.insert.ensures ∙ ap (λ (ws : List ℕ). with_block ws number) c.deref_mut.ensures.value in
    let marks : (with_items c.self.inside.marks c.insert.new.words).items ≡ with_block old number =
    take_at c.insert.new.words _ c.self.inside.marks.len (omega (arith, ap length set, with_block_long old number, c.self.inside.marks.ok)) ∙ set in
    row_marked c.self.inside _ c.args.words.now number (number + 1) c.self.invariant all (omega arith) (omega (arith, all, c.requires.within)) (line_fresh c.self.inside number c.self.invariant off)
    refl c.keep_line.ensures.rows c.keep_line.ensures.kept c.keep_line.ensures.room c.keep_line.ensures.wide (ap length marks ∙ with_block_long old number)
    (λ p from to. ap (λ (ws : List ℕ). is_set ws p) marks ∙ ap (λ (q : ℕ). is_set (with_block old number) q) (let e : p ≡ number = omega (arith, from, to) in e) ∙ ap (λ (x : ℕ). eqb x 1) (has_same old number within))
    (λ p away. ap (λ (ws : List ℕ). is_set ws p) marks ∙ ap (λ (x : ℕ). eqb x 1) (has_other old number p within (λ is. away (omega (arith, is)) (omega (arith, is)))))

pub returns-then-not-contains-clause-here : goal.returns-then-not-contains-clause-here
returns-then-not-contains-clause-here c after i within here =
    let s = c.self.inside in
    let all : length c.args.words.now ≡ s.total = c.requires.all ∙ sym (ap (λ (n : Noted). n.total) c.self.view_is) in
    let off : is_set s.marks.items c.args.number ≡ false = ap (λ (ws : List ℕ). is_set ws c.args.number) (sym c.deref.ensures.value) ∙ sym c.contains.ensures ∙ c.if-not-contains.true in
    let none = line_fresh s c.args.number c.self.invariant off (i / 8) (omega (arith, here)) (omega (arith, here)) in
    (λ k. word_before (c.keep_line.ensures.rows k) (c.keep_line.ensures.kept k) after i)
    ∙ fresh_here s.total s.rows.items s.kept.items c.args.words.now c.args.number (c.args.number + 1) c.self.invariant.rows all after i within none (omega (arith, here)) (omega (arith, here))
    ∙ sym (not_stored s.rows.items s.kept.items c.args.words.now i none) ∙ ap (λ (n : Noted). word_before n.rows n.kept c.args.words.now i) c.self.view_is

pub returns-then-not-contains-clause-others : goal.returns-then-not-contains-clause-others
returns-then-not-contains-clause-others c after i within other =
    let s = c.self.inside in
    let all : length c.args.words.now ≡ s.total = c.requires.all ∙ sym (ap (λ (n : Noted). n.total) c.self.view_is) in
    (λ k. word_before (c.keep_line.ensures.rows k) (c.keep_line.ensures.kept k) after i)
    ∙ fresh_other s.total s.rows.items s.kept.items c.args.words.now c.args.number (c.args.number + 1) c.self.invariant.rows all after i within (λ from to. other (omega (arith, from, to)))
    ∙ ap (λ (n : Noted). word_before n.rows n.kept after i) c.self.view_is

pub returns-else-not-contains-clause-here : goal.returns-else-not-contains-clause-here
returns-else-not-contains-clause-here c after i within here =
    let on : is_set c.self.inside.marks.items c.args.number ≡ true = ap (λ (ws : List ℕ). is_set ws c.args.number) (sym c.deref.ensures.value) ∙ sym c.contains.ensures ∙ c.if-not-contains.false in
    again_here c.args.self.now.rows c.args.self.now.kept c.args.words.now after i
    (ap (λ (p : ℕ). is_stored c.args.self.now p) here ∙ ap (λ (n : Noted). is_stored n c.args.number) (sym c.self.view_is) ∙ sym (c.self.invariant.marked c.args.number) ∙ on)
