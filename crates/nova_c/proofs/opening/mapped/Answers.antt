use Rattle.std.proofs.Common.{ℕ, List, Err, ap, subst}
use Rattle.nv_lent.specs.WordsState.{region_over}
use Rattle.nova_c.specs.Codes.{RefusesMount}
use Rattle.nova_c.proofs.Refusals.{words_refusal}
use Rattle.nova_c.proofs.opening.mapped.Goals as goal

pub returns-in-Err-clause-refused : goal.returns-in-Err-clause-refused
returns-in-Err-clause-refused c =
    subst (λ (words : List ℕ). RefusesMount (region_over words) c.region_code.result) c.into_words.ensures
    (words_refusal c.into_words.result.now c.in-Err.refusal c.region_code.result (λ is. c.in-Err.ensures.length.0 (ap Err is)) (λ is. c.in-Err.ensures.memory (ap Err is)) c.region_code.ensures.length)
