use Rattle.std.proofs.Common.{codes, string_bytes}
use Rattle.std.proofs.lemmas.Result.{on_ok_weaker}
use Rattle.nv_image_files.specs.Drawing.{cell_line, place_text, shade_text, shaded_blocks, title_text, told_use}
use Rattle.nv_image_files.proofs.Squares.{five_parts}
use Rattle.nv_image_files.proofs.drawing.push_cell.Goals as goal

pub returns : goal.returns
unfolding cell_line
returns c =
    let share = c.args.share.now in
    let kind = told_use share in
    let place = rw c.told_use-kind.ensures at c.in_ok-push_place.ensures in
    let shade = rw (c.shaded_blocks.ensures, c.told_use-kind.ensures) at c.in_ok-push_shade.ensures in
    on_ok_weaker c.push_text-2.result (five_parts (string_bytes c.args.out.now) (place_text c.args.x c.args.y kind) (shade_text (shaded_blocks share kind) share.blocks) (codes "\"><title>")
    (title_text share) (codes "</title></rect>\n") _ _ _ _ _ place shade c.in_ok-push_text.ensures c.in_ok-push_title.ensures) c.push_text-2.ensures
