use Rattle.std.proofs.Common.{◌≡◌, ◌++◌, ◌∙◌, ℕ, List, [], refl, ap, string_bytes}
use Rattle.nv_outcome.specs.Answer.{outcome_of}
use Rattle.nv_report.specs.Summary.{inodes_part, blocks_part, faults_part}
use Rattle.nv_report.proofs.summary.summary_text.Goals as goal

joined : (t0 t1 t2 t3 t4 a b c n : List ℕ) → t0 ≡ [] → t1 ≡ t0 ++ a → t2 ≡ t1 ++ b → t3 ≡ t2 ++ c → t4 ≡ t3 ++ n → t4 ≡ (a ++ b ++ c) ++ n
joined t0 t1 t2 t3 t4 a b c n e0 e1 e2 e3 e4 = rw (e4, e3, e2, e1, e0) refl

pub returns : goal.returns
returns c =
    let r = c.args.recovered.now in
    let faults = c.in_ok-push_faults.ensures ∙ ap (λ fs. string_bytes c.push_blocks.new.out ++ faults_part fs) c.deref.ensures.value in
    joined (string_bytes c.new-text.result) (string_bytes c.push_inodes.new.out) (string_bytes c.push_blocks.new.out) (string_bytes c.push_faults.new.out) (string_bytes c.push_str.new.self)
    (inodes_part r.rows.items) (blocks_part (outcome_of r)) (faults_part r.faults.items) _ c.new-text.ensures.bytes c.in_ok-push_inodes.ensures c.in_ok-push_blocks.ensures faults c.in_ok-push_str.ensures.bytes
