use Rattle.std.proofs.Common.{◌≡◌, ◌==◌, ℕ, ◌-◌, ◌≤◌, List, [], ◌∷◌, length, take, drop, get_or, map, Some, Bor, sym, ap, ◌∙◌, arith}
use Rattle.std.specs.Prelude.{option_and_then}
use Rattle.std.specs.List.{slice_split}
use Rattle.std.proofs.lemmas.List.{take_all}
use Rattle.std.proofs.lemmas.Result.{IfOk-weaker}
use Rattle.nv_line.specs.Reading.{request_as, request_of, request_of_words}
use Rattle.nv_line.specs.Table.{names, form_in}
use Rattle.nv_line.specs.declared.reasons.Form.{Form}
use Rattle.nv_line.proofs.parsing.parse_line.Goals as goal

-- a line is read by the form of its first word
read_by_first : (line : List ℕ) (words : List (Bor (List ℕ))) (none : Bor (List ℕ)) (form : Form) → map (λ word. word.now) words ≡ slice_split (λ b. b == 32) line → 1 ≤ length words → form_in names (get_or words 0 none).now ≡ Some form → request_as form (map (λ word. word.now) (take (length words - 1) (drop 1 words))) ≡ request_of line
unfolding request_of request_of_words
read_by_first line [] none form split long is = absurd (omega (arith, long))
read_by_first line (first ∷ words) none form split long is =
    let whole = take_all (length (first ∷ words) - 1) words (omega arith) in
    let asked = ap (option_and_then (λ form. request_as form (map (λ word. word.now) words))) is in
    ap (λ (words : List (Bor (List ℕ))). request_as form (map (λ word. word.now) words)) whole ∙ sym asked ∙ ap request_of_words split

pub returns-in-Some : goal.returns-in-Some
returns-in-Some c =
    let split = ap (map (λ word. word.now)) c.as_slice.ensures.value ∙ c.in_ok-words.ensures in
    let read = read_by_first c.args.line.now c.as_slice.result.now _ c.in-Some.form split c.in-len1-up.len_at_least (sym c.form_named.ensures ∙ c.in-Some.is) in
    IfOk-weaker c.command_of.result _ _ (λ found is. is ∙ read) c.command_of.ensures
