-- How names are spelled: a text spells one name at most, and the text in which a name is printed spells it.
use Rattle.std.proofs.Common.{◌≡◌, ◌≢◌, ℕ, ◌+◌, ◌*◌, ◌/◌, ◌%◌, ◌<◌, Bool, true, false, List, [], ◌∷◌, ◌++◌, refl, sym, ap, subst, ◌∙◌, inl, inr, arith, append_assoc, append-nil, ◌-◌, length, take, drop, get_or, suc, eqb}
use Rattle.std.specs.Prelude.{codes, Option, Some, None, IfNone, if◌then◌else◌}
use Rattle.std.specs.Char.{digit_value}
use Rattle.std.specs.Fmt.{digit_glyph}
use Rattle.std.proofs.Math.Dec.{eqb-suc-zero}
use Rattle.std.proofs.lemmas.List.{take_rest}
use Rattle.std.proofs.lemmas.Fmt.{hex_one_digit}
use Rattle.std.proofs.lemmas.Str.{digit_value-digit_char}
use Rattle.nv_text.specs.Names.{hex_byte, is_plain, escaped_byte, escaped}
use Rattle.nv_text.specs.Escapes.{SpellsHex, SpellsEscape, SpellsByte, BeginsWith, SpellsName, AreBytes}

-- ---- one spelling begins a text

hex_one : (f g r s : List ℕ) (b c : ℕ) → SpellsHex f b → SpellsHex g c → f ++ r ≡ g ++ s → (b ≡ c) × (r ≡ s)
hex_one f g r s b c p q e =
    let whole : p.0 ∷ p.1 ∷ r ≡ q.0 ∷ q.1 ∷ s = ap (λ x. x ++ r) (sym p.4) ∙ e ∙ ap (λ x. x ++ s) q.4 in
    let high : p.0 ≡ q.0 = cc in
    let low : p.1 ≡ q.1 = cc in
    (p.5 ∙ (λ i. 16 * digit_value (high i) + digit_value (low i)) ∙ sym q.5, cc)

-- two lists that begin with different bytes differ
apart : (x y : ℕ) (r s : List ℕ) → x < y → x ∷ r ≡ y ∷ s → ⊥
apart x y r s less e = let same : x ≡ y = cc in omega arith

escape_one : (f g r s : List ℕ) (b c : ℕ) → SpellsEscape f b → SpellsEscape g c → f ++ r ≡ g ++ s → (b ≡ c) × (r ≡ s)
escape_one f g r s b c (inl p) (inl q) e =
    let whole : 92 ∷ r ≡ 92 ∷ s = ap (λ x. x ++ r) (sym p.0) ∙ e ∙ ap (λ x. x ++ s) q.0 in
    (p.1 ∙ sym q.1, cc)
escape_one f g r s b c (inl p) (inr q) e =
    let whole : 92 ∷ r ≡ 120 ∷ (q.0 ++ s) = ap (λ x. x ++ r) (sym p.0) ∙ e ∙ ap (λ x. x ++ s) q.2 in
    absurd (apart 92 120 r (q.0 ++ s) (omega arith) whole)
escape_one f g r s b c (inr p) (inl q) e =
    let whole : 120 ∷ (p.0 ++ r) ≡ 92 ∷ s = ap (λ x. x ++ r) (sym p.2) ∙ e ∙ ap (λ x. x ++ s) q.0 in
    absurd (apart 92 120 s (p.0 ++ r) (omega arith) (sym whole))
escape_one f g r s b c (inr p) (inr q) e =
    let whole : 120 ∷ (p.0 ++ r) ≡ 120 ∷ (q.0 ++ s) = ap (λ x. x ++ r) (sym p.2) ∙ e ∙ ap (λ x. x ++ s) q.2 in
    let tails : p.0 ++ r ≡ q.0 ++ s = cc in
    hex_one p.0 q.0 r s b c p.1 q.1 tails

byte_one : (f g r s : List ℕ) (b c : ℕ) → SpellsByte f b → SpellsByte g c → f ++ r ≡ g ++ s → (b ≡ c) × (r ≡ s)
byte_one f g r s b c (inl p) (inl q) e =
    let whole : b ∷ r ≡ c ∷ s = ap (λ x. x ++ r) (sym p.0) ∙ e ∙ ap (λ x. x ++ s) q.0 in
    (cc, cc)
byte_one f g r s b c (inl p) (inr q) e =
    let whole : b ∷ r ≡ 92 ∷ (q.0 ++ s) = ap (λ x. x ++ r) (sym p.0) ∙ e ∙ ap (λ x. x ++ s) q.2 in
    let heads : b ≡ 92 = cc in
    absurd (p.1 heads)
byte_one f g r s b c (inr p) (inl q) e =
    let whole : 92 ∷ (p.0 ++ r) ≡ c ∷ s = ap (λ x. x ++ r) (sym p.2) ∙ e ∙ ap (λ x. x ++ s) q.0 in
    let heads : c ≡ 92 = cc in
    absurd (q.1 heads)
byte_one f g r s b c (inr p) (inr q) e =
    let whole : 92 ∷ (p.0 ++ r) ≡ 92 ∷ (q.0 ++ s) = ap (λ x. x ++ r) (sym p.2) ∙ e ∙ ap (λ x. x ++ s) q.2 in
    let tails : p.0 ++ r ≡ q.0 ++ s = cc in
    escape_one p.0 q.0 r s b c p.1 q.1 tails

-- two readings of the front of a text agree
begins_one : (text : List ℕ) (b c : ℕ) (r s : List ℕ) → BeginsWith SpellsByte text b r → BeginsWith SpellsByte text c s → (b ≡ c) × (r ≡ s)
begins_one text b c r s p q = byte_one p.0 q.0 r s b c p.1 q.1 (sym p.2 ∙ q.2)

-- no spelling is empty
begins_some : (b : ℕ) (r : List ℕ) → BeginsWith SpellsByte [] b r → ⊥
begins_some b r (f, inl p, e) = let whole : [] ≡ b ∷ r = e ∙ ap (λ x. x ++ r) p.0 in cc
begins_some b r (f, inr p, e) = let whole : [] ≡ 92 ∷ (p.0 ++ r) = e ∙ ap (λ x. x ++ r) p.2 in cc

-- ---- the first byte of a text

pub none_then : {X P Q : Type 0} (o : Option X) → IfNone o P → (P → Q) → IfNone o Q
none_then None p on = on p
none_then (Some x) p on = tt

-- what stands behind the first bytes
abbrev pub behind : ℕ → List ℕ → List ℕ
behind n text = take (length text - n) (drop n text)

split_one : (text : List ℕ) → 0 < length text → text ≡ get_or text 0 0 ∷ behind 1 text
split_one [] some = absurd (omega arith)
split_one (b ∷ text) some = ap (λ x. b ∷ x) (sym (take_rest (b ∷ text) 1))

split_two : (text : List ℕ) → 1 < length text → text ≡ get_or text 0 0 ∷ get_or text 1 0 ∷ behind 2 text
split_two [] some = absurd (omega arith)
split_two (b ∷ []) some = absurd (omega arith)
split_two (b ∷ d ∷ text) some = ap (λ x. b ∷ d ∷ x) (sym (take_rest (b ∷ d ∷ text) 2))

module _ (text : List ℕ) (some : 0 < length text) where
  pub plain_found : get_or text 0 0 ≢ 92 → BeginsWith SpellsByte text (get_or text 0 0) (behind 1 text)
  plain_found plain = (get_or text 0 0 ∷ [], inl (refl, plain), split_one text some)

  module _ (backslash : get_or text 0 0 ≡ 92) where
    head_is : text ≡ 92 ∷ behind 1 text
    head_is = split_one text some ∙ ap (λ x. x ∷ behind 1 text) backslash

    pub escape_found : (byte : ℕ) (rest : List ℕ) → BeginsWith SpellsEscape (behind 1 text) byte rest → BeginsWith SpellsByte text byte rest
    escape_found byte rest p = (92 ∷ p.0, inr (p.0, p.1, refl), head_is ∙ ap (λ x. 92 ∷ x) p.2)

    pub escape_none : ((byte : ℕ) (rest : List ℕ) → BeginsWith SpellsEscape (behind 1 text) byte rest → ⊥) → (byte : ℕ) (rest : List ℕ) → BeginsWith SpellsByte text byte rest → ⊥
    escape_none none byte rest (f, inl p, e) =
        let whole : 92 ∷ behind 1 text ≡ byte ∷ rest = sym head_is ∙ e ∙ ap (λ x. x ++ rest) p.0 in
        let head : byte ≡ 92 = cc in
        p.1 head
    escape_none none byte rest (f, inr p, e) =
        let whole : 92 ∷ behind 1 text ≡ 92 ∷ (p.0 ++ rest) = sym head_is ∙ e ∙ ap (λ x. x ++ rest) p.2 in
        let tail : behind 1 text ≡ p.0 ++ rest = cc in
        none byte rest (p.0, p.1, tail)

  pub backslash_found : get_or text 0 0 ≡ 92 → BeginsWith SpellsEscape text 92 (behind 1 text)
  backslash_found is = (92 ∷ [], inl (refl, refl), split_one text some ∙ ap (λ x. x ∷ behind 1 text) is)

  module _ (x : get_or text 0 0 ≡ 120) where
    x_is : text ≡ 120 ∷ behind 1 text
    x_is = split_one text some ∙ ap (λ y. y ∷ behind 1 text) x

    pub hex_found : (byte : ℕ) (rest : List ℕ) → BeginsWith SpellsHex (behind 1 text) byte rest → BeginsWith SpellsEscape text byte rest
    hex_found byte rest p = (120 ∷ p.0, inr (p.0, p.1, refl), x_is ∙ ap (λ y. 120 ∷ y) p.2)

    pub hex_none : ((byte : ℕ) (rest : List ℕ) → BeginsWith SpellsHex (behind 1 text) byte rest → ⊥) → (byte : ℕ) (rest : List ℕ) → BeginsWith SpellsEscape text byte rest → ⊥
    hex_none none byte rest (f, inl p, e) =
        let whole : 120 ∷ behind 1 text ≡ 92 ∷ rest = sym x_is ∙ e ∙ ap (λ y. y ++ rest) p.0 in
        apart 92 120 rest (behind 1 text) (omega arith) (sym whole)
    hex_none none byte rest (f, inr p, e) =
        let whole : 120 ∷ behind 1 text ≡ 120 ∷ (p.0 ++ rest) = sym x_is ∙ e ∙ ap (λ y. y ++ rest) p.2 in
        let tail : behind 1 text ≡ p.0 ++ rest = cc in
        none byte rest (p.0, p.1, tail)

pub digits_found : (text : List ℕ) (byte : ℕ) → 1 < length text → (digit_value (get_or text 0 0) < 16) × (digit_value (get_or text 1 0) < 16) → byte ≡ 16 * digit_value (get_or text 0 0) + digit_value (get_or text 1 0)
    → BeginsWith SpellsHex text byte (behind 2 text)
digits_found text byte some small is = (get_or text 0 0 ∷ get_or text 1 0 ∷ [], (get_or text 0 0, get_or text 1 0, small.0, small.1, refl, is), split_two text some)

-- ---- one name for a text

pub name_one : (text a b : List ℕ) → SpellsName text a → SpellsName text b → a ≡ b
name_one text [] [] p q = refl
name_one text [] (c ∷ b) p q = absurd (begins_some c q.0 (subst (λ (x : List ℕ). BeginsWith SpellsByte x c q.0) p q.1))
name_one text (c ∷ a) [] p q = absurd (begins_some c p.0 (subst (λ (x : List ℕ). BeginsWith SpellsByte x c p.0) q p.1))
name_one text (c ∷ a) (d ∷ b) p q =
    let first = begins_one text c d p.0 q.0 p.1 q.1 in
    let rest = name_one p.0 a b p.2 (subst (λ (x : List ℕ). SpellsName x b) (sym first.1) q.2) in
    λ i. first.0 i ∷ rest i

-- ---- what is printed

pub hex_spells : (b : ℕ) → b < 256 → SpellsHex (hex_byte b) b
hex_spells b small =
    let high : b / 16 < 16 = omega arith in
    let low : b % 16 < 16 = omega arith in
    let first : digit_value (digit_glyph false (b / 16)) ≡ b / 16 = digit_value-digit_char (b / 16) (omega arith) in
    let second : digit_value (digit_glyph false (b % 16)) ≡ b % 16 = digit_value-digit_char (b % 16) (omega arith) in
    let text : hex_byte b ≡ digit_glyph false (b / 16) ∷ digit_glyph false (b % 16) ∷ [] =
    (λ i. hex_one_digit false (b / 16) high i ++ hex_one_digit false (b % 16) low i) in
    let sum : b ≡ 16 * (b / 16) + b % 16 = omega arith in
    (digit_glyph false (b / 16), digit_glyph false (b % 16), rw first high, rw second low, text, sum ∙ (λ i. 16 * (sym first i) + sym second i))

plain_is_no_backslash : (b : ℕ) → is_plain b ≡ true → b ≢ 92
plain_is_no_backslash b plain is = let bad : is_plain 92 ≡ true = subst (λ (x : ℕ). is_plain x ≡ true) is plain in cc

byte_spells : (b : ℕ) → b < 256 → SpellsByte (escaped_byte b) b
unfolding escaped_byte
byte_spells b small = elim (is_plain b) as (λ v. is_plain b ≡ v → SpellsByte (if◌then◌else◌ v (b ∷ []) (codes "\\x" ++ hex_byte b)) b) [
  | true ↦ λ plain. inl (refl, plain_is_no_backslash b plain)
  | false ↦ λ other. inr (120 ∷ hex_byte b, inr (hex_byte b, hex_spells b small, refl), refl)
] refl

pub printed_spells : (name : List ℕ) → AreBytes name → SpellsName (escaped name) name
printed_spells [] bytes = refl
printed_spells (b ∷ name) bytes = (escaped name, (escaped_byte b, byte_spells b bytes.0, refl), printed_spells name bytes.1)

-- ---- how far a text was read

-- The name's first bytes were read, and behind them stands the rest: what this spells goes on with them, and every name that
-- the text spells begins with them.
pub record Reads (text name rest : List ℕ) : Type 0 where
  pub completes : (more : List ℕ) → SpellsName rest more → SpellsName text (name ++ more)
  pub begins : (whole : List ℕ) → SpellsName text whole → (more : List ℕ) × (whole ≡ name ++ more) × SpellsName rest more

module _ (text name rest : List ℕ) where
  byte_less : (byte : ℕ) (behind more : List ℕ) → BeginsWith SpellsByte rest byte behind → SpellsName rest more
      → (left : List ℕ) × (more ≡ byte ∷ left) × SpellsName behind left
  byte_less byte behind [] first spells = absurd (begins_some byte behind (subst (λ (x : List ℕ). BeginsWith SpellsByte x byte behind) spells first))
  byte_less byte behind (b ∷ more) first spells =
      let one = begins_one rest b byte spells.0 behind spells.1 first in
      (more, ap (λ x. x ∷ more) one.0, subst (λ (x : List ℕ). SpellsName x more) one.1 spells.2)

  pub reads_byte : (byte : ℕ) (behind : List ℕ) → Reads text name rest → BeginsWith SpellsByte rest byte behind → Reads text (name ++ byte ∷ []) behind
  reads_byte byte behind r first = record {
    completes = λ more spells. rw (append_assoc name (byte ∷ []) more) (r.completes (byte ∷ more) (behind, first, spells));
    begins = λ whole spells.
        let found = r.begins whole spells in
        let left = byte_less byte behind found.0 first found.2 in
        (left.0, found.1 ∙ ap (λ x. name ++ x) left.1 ∙ sym (append_assoc name (byte ∷ []) left.0), left.2);
  }

  pub reads_all : Reads text name rest → rest ≡ [] → SpellsName text name
  reads_all r end = rw (append-nil) at (r.completes [] end)

  pub reads_refused : Reads text name rest → 0 < length rest → ((byte : ℕ) (behind : List ℕ) → BeginsWith SpellsByte rest byte behind → ⊥) → (whole : List ℕ) → SpellsName text whole → ⊥
  reads_refused r some none whole spells = let left = r.begins whole spells in refused left.0 left.2
    where
      refused : (more : List ℕ) → SpellsName rest more → ⊥
      refused [] end = let none_left : length rest ≡ 0 = ap (length {A = ℕ}) end in absurd (omega arith)
      refused (b ∷ more) left = none b left.0 left.1

-- a list that is empty by a test, or isn't
pub is_none : (rest : List ℕ) (b : Bool) → b ≡ eqb (length rest) 0 → b ≡ true → rest ≡ []
is_none [] b is none = refl
is_none (x ∷ rest) b is none = let some : eqb (suc (length rest)) 0 ≡ false = eqb-suc-zero (length rest) in absurd (cc)

pub is_some : (rest : List ℕ) (b : Bool) → b ≡ eqb (length rest) 0 → b ≡ false → 0 < length rest
is_some [] b is some = absurd (cc)
is_some (x ∷ rest) b is some = omega arith
