use Rattle.std.proofs.Common.{◌∙◌, sym, rules}
use Rattle.nv_line.proofs.Numbers.{numeral_is_text, number_parses, read_text, read_no_text}
use Rattle.nv_line.proofs.numeral.read_number.Goals as goal

pub returns-in_err-ok : goal.returns-in_err-ok
returns-in_err-ok c = absurd (read_no_text _ c.args.word.now c.from_utf8.result (numeral_is_text _ (search rules)) c.from_utf8.ensures.cases (sym c.in_err-ok.was ∙ c.ok.ensures.value))

pub returns : goal.returns
returns c =
    let e = read_text _ c.args.word.now c.from_utf8.result c.in_ok-ok.field-0 c.from_utf8.ensures.cases c.in_ok-ok.ensures.value in
    c.ok-2.ensures.value ∙ number_parses c.args.word.now _ (search rules) (rw e at c.parse.ensures.value.0)
