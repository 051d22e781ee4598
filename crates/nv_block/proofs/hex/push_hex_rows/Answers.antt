use Rattle.std.proofs.Common.{◌≡◌, ℕ, ◌+◌, ◌*◌, ◌++◌, List, min, length, drop, sym, ap, ◌∙◌, rules, arith, append_assoc, length-drop, string_bytes}
use Rattle.std.specs.List.{flat_map, range_with_len}
use Rattle.std.specs.Slice.Iter.{chunks_rest}
use Rattle.nv_block.specs.Hex.{row_at, row_text}
use Rattle.nv_block.proofs.HexRows.{one_row_more, left_behind}
use Rattle.nv_block.proofs.hex.push_hex_rows.Goals as goal

pub loop-row-preserved : goal.loop-row-preserved
loop-row-preserved c =
    let bytes = c.args.bytes.now in
    let start = c.args.start in
    let row = c.in-Some.row.now in
    let steps = c.in-Some.ensures.steps in
    let (next, finite, size, k, rest, below, place, text) = c.loop-row.invariant in
    let left = chunks_rest c.next.new.self in
    let parts : drop (16 * k) bytes ≡ row ++ left = sym rest ∙ steps.1.0 in
    let long : length row ≡ min 16 (length (drop (16 * k) bytes)) = rw (sym rest, sym size) steps.1.1 in
    let some = length-drop (16 * k) bytes in
    let so_far = flat_map (row_at start bytes) (range_with_len 0 k) in (
      search rules,
      tt,
      steps.0 ∙ size,
      k + 1,
      sym (left_behind start bytes row left k parts long),
      omega (arith, some, ap length rest, steps.1.2),
      omega (arith, place),
      c.in_ok-push_row.ensures ∙ ap (λ (t : List ℕ). t ++ row_text c.loop-row.at row) text ∙ append_assoc (string_bytes c.args.out.now) so_far (row_text c.loop-row.at row)
          ∙ ap (λ (n : ℕ). string_bytes c.args.out.now ++ (so_far ++ row_text n row)) place
          ∙ ap (λ (t : List ℕ). string_bytes c.args.out.now ++ t) (sym (one_row_more start bytes row left k parts long)),
    )
