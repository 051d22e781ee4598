use Rattle.std.proofs.Common.{◌∙◌, ◌≡◌, ◌-◌, ◌*◌, ◌/◌, ◌<◌, inl, inr, ℕ, List, refl, ap, sym, arith, length, take, drop, get_or, set, ◌++◌, length-append, length-drop, length-take}
use Rattle.std.proofs.lemmas.Bool.{cases_eq}
use Rattle.std.proofs.lemmas.Bool.Decides.{nat_tests}
use Rattle.std.proofs.lemmas.List.{get_or-set_same, get_or-set_other, get_or_append_left}
use Rattle.byteorder.specs.Endian.{little_number, IsRead}
use Rattle.nv_entry.specs.Text.{text_word}
use Rattle.nv_entry.proofs.Words.{word_read, rest_read}
use Rattle.nv_entry.proofs.writing.spell_text.Goals as goal

-- the words of whole eights
eight_there : (name dst behind : List ℕ) (k : ℕ) → length dst ≡ length name / 8 → IsRead little_number 8 (take (8 * (length name / 8)) name) dst → k < length name / 8 → get_or (dst ++ behind) k 0 ≡ text_word name (8 * k)
eight_there name dst behind k long read below =
    get_or_append_left dst behind 0 k (omega arith) ∙ read k (omega arith) ∙ word_read name k (8 * (length name / 8)) (omega arith) (omega arith)

pub returns-then-not-is_empty-clause-text : goal.returns-then-not-is_empty-clause-text
returns-then-not-is_empty-clause-text c k inside =
    let name : List ℕ = c.args.name.now in
    let whole : ℕ = length name / 8 in
    let dst : List ℕ = c.read_u64_into.new.dst in
    let behind : List ℕ = drop whole c.args.words.now in
    let last : ℕ = c.read_uint.result in
    let long : length dst ≡ whole = c.read_u64_into.auto.dst ∙ simp length-take (omega (arith, c.requires)) in
    elim (cases_eq k whole) [
      | inl same ↦
          let there : whole < length (dst ++ behind) = simp (length-append, length-drop) (omega (arith, c.requires, long, inside, same)) in
          ap (λ (j : ℕ). get_or (set (dst ++ behind) whole last) j 0) same ∙ get_or-set_same (dst ++ behind) whole last 0 there ∙ c.read_uint.ensures
          ∙ rest_read name _ whole (omega arith) refl ∙ ap (λ (j : ℕ). text_word name (8 * j)) (sym same)
      | inr differ ↦ get_or-set_other (dst ++ behind) whole k last 0 differ ∙ eight_there name dst behind k long c.read_u64_into.ensures (omega (arith, inside, differ))
    ]

pub returns-else-not-is_empty-clause-text : goal.returns-else-not-is_empty-clause-text
returns-else-not-is_empty-clause-text c k inside =
    let name : List ℕ = c.args.name.now in
    let whole : ℕ = length name / 8 in
    let long : length c.read_u64_into.new.dst ≡ whole = c.read_u64_into.auto.dst ∙ simp length-take (omega (arith, c.requires)) in
    let none : length (take (length name - 8 * whole) (drop (8 * whole) name)) ≡ 0 = grind (arith, nat_tests) in
    let all : length name ≡ 8 * whole = omega (arith, none, length-take (length name - 8 * whole) (drop (8 * whole) name), length-drop (8 * whole) name) in
    eight_there name c.read_u64_into.new.dst (drop whole c.args.words.now) k long c.read_u64_into.ensures (omega (arith, inside, all))
