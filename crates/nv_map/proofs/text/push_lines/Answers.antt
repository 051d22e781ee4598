use Rattle.std.proofs.Common.{◌≡◌, ℕ, ◌+◌, ◌*◌, ◌++◌, List, [], ◌∷◌, min, length, drop, sym, ap, ◌∙◌, rules, arith, append_assoc, length-drop, string_bytes}
use Rattle.std.specs.List.{flat_map, range_with_len}
use Rattle.std.specs.Slice.Iter.{chunks_rest}
use Rattle.nv_map.specs.Text.{letters, line_at}
use Rattle.nv_map.proofs.Lines.{one_line_more, left_behind}
use Rattle.nv_map.proofs.text.push_lines.Goals as goal

pub loop-line-preserved : goal.loop-line-preserved
loop-line-preserved c =
    let uses = c.args.uses.now in
    let line = c.in-Some.line.now in
    let steps = c.in-Some.ensures.steps in
    let (next, finite, size, k, rest, below, text) = c.loop-line.invariant in
    let left = chunks_rest c.next.new.self in
    let parts : drop (64 * k) uses ≡ line ++ left = sym rest ∙ steps.1.0 in
    let long : length line ≡ min 64 (length (drop (64 * k) uses)) = rw (sym rest, sym size) steps.1.1 in
    let some = length-drop (64 * k) uses in
    let so_far = flat_map (line_at uses) (range_with_len 0 k) in (
      search rules,
      tt,
      steps.0 ∙ size,
      k + 1,
      sym (left_behind uses line left k parts long),
      omega (arith, some, ap length rest, steps.1.2),
      c.in_ok-push_str.ensures.bytes ∙ ap (λ (t : List ℕ). t ++ 10 ∷ []) (c.in_ok-push_letters.ensures ∙ ap (λ (t : List ℕ). t ++ letters line) text)
          ∙ append_assoc _ (letters line) (10 ∷ []) ∙ append_assoc (string_bytes c.args.out.now) so_far (letters line ++ 10 ∷ [])
          ∙ ap (λ (t : List ℕ). string_bytes c.args.out.now ++ t) (sym (one_line_more uses line left k parts long)),
    )
