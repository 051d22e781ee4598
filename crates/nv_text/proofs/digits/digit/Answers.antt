use Rattle.std.proofs.Common.{ℕ, false, ◌∷◌, [], ap, ◌∙◌}
use Rattle.std.proofs.lemmas.Fmt.{hex_one_digit}
use Rattle.nv_text.proofs.DigitPlaces.{low_glyph, high_glyph}
use Rattle.nv_text.proofs.digits.digit.Goals as goal

pub returns-then-number-lt10 : goal.returns-then-number-lt10
returns-then-number-lt10 c = hex_one_digit false c.args.number c.requires ∙ ap (λ (g : ℕ). g ∷ []) (low_glyph c.args.number c.if-number-lt10.true)

pub returns-else-number-lt10 : goal.returns-else-number-lt10
returns-else-number-lt10 c = hex_one_digit false c.args.number c.requires ∙ ap (λ (g : ℕ). g ∷ []) (high_glyph c.args.number c.if-number-lt10.false)
