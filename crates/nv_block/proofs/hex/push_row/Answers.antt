use Rattle.std.proofs.Common.{◌∙◌, ◌++◌, ℕ, List, ap, append_assoc, string_bytes}
use Rattle.std.specs.Prelude.{codes, flat_map}
use Rattle.std.proofs.lemmas.Result.{on_ok_weaker}
use Rattle.nv_text.specs.Answers.{line}
use Rattle.nv_block.specs.Hex.{address_text, spaced_byte}
use Rattle.nv_block.proofs.hex.push_row.Goals as goal

pub returns : goal.returns
returns c =
    let old = string_bytes c.args.out.now in
    let address = address_text c.args.at in
    let rest = line (flat_map spaced_byte c.args.row.now) in
    let first = c.in_ok-push_str.ensures.bytes ∙ ap (λ (t : List ℕ). t ++ codes " ") c.in_ok-push_address.ensures ∙ append_assoc old address (codes " ") in
    on_ok_weaker c.push_line.result (λ e. e ∙ ap (λ (t : List ℕ). t ++ rest) first ∙ append_assoc old (address ++ codes " ") rest) c.push_line.ensures
