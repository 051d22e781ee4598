use Rattle.std.proofs.Common.{◌≡◌, ◌<◌, ◌+◌, ◌*◌, ◌++◌, ◌∷◌, [], length, take, get_or, flat_map, sym, ap, ◌∙◌, arith}
use Rattle.std.proofs.lemmas.Grind.{flat_map-append}
use Rattle.std.proofs.lemmas.List.{take_more}
use Rattle.nv_text.specs.Names.{hex_byte}
use Rattle.nv_text.proofs.DigitPlaces.{two_more}
use Rattle.nv_text.proofs.digits.put_digits.Goals as goal

pub loop-index-preserved : goal.loop-index-preserved
loop-index-preserved c =
    let i = c.loop-index.index in
    let bytes = c.args.bytes.now in
    let room : 2 * i + 1 < length c.loop-index.digits = (let long = c.loop-index.auto.digits in let whole = c.requires in let inside = c.loop-index-test.true in omega (arith, long, whole, inside)) in
    let byte : hex_byte (get_or bytes i 0) ≡ c.digit.result ∷ c.digit-in-loop-index.result ∷ [] = λ j. c.digit.ensures j ++ c.digit-in-loop-index.ensures j in
    let more : flat_map hex_byte (take (i + 1) bytes) ≡ flat_map hex_byte (take i bytes) ++ c.digit.result ∷ c.digit-in-loop-index.result ∷ [] =
    ap (flat_map hex_byte) (take_more bytes i 0 c.loop-index-test.true) ∙ flat_map-append hex_byte (take i bytes) (get_or bytes i 0 ∷ []) ∙ ap (λ x. flat_map hex_byte (take i bytes) ++ (x ++ [])) byte in
    two_more c.loop-index.digits i c.digit.result c.digit-in-loop-index.result room ∙ ap (λ x. x ++ c.digit.result ∷ c.digit-in-loop-index.result ∷ []) c.loop-index.invariant ∙ sym more
