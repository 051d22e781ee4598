use Rattle.std.proofs.Common.{◌≡◌, ℕ, ◌+◌, ◌<◌, ◌^◌, subst, List, [], ◌∷◌, ◌++◌, length, take, slice_get, Some, ◌∙◌, ap, arith, sym}
use Rattle.std.proofs.lemmas.List.{take_all, take_more, map-append}
use Rattle.std.proofs.lemmas.Option.{get_or_from_slice_get}
use Rattle.nv_scan.specs.declared.piece.Row.{Row}
use Rattle.nv_scan.specs.declared.row_list.RowHead.{RowHead}
use Rattle.nv_scan.proofs.RowHeads.{row_of_head}
use Rattle.nv_rows.specs.Rows.{inodes_of}
use Rattle.nv_rows.proofs.Early.{if_ok_err}
use Rattle.nv_rows.proofs.rows.numbers_of.Goals as goal

-- the number of one row more
one_more : (rows : List Row) (i : ℕ) (row : Row) (now new : List ℕ) → i < length rows → slice_get rows i ≡ Some row → new ≡ now ++ row.inode ∷ [] → now ≡ inodes_of (take i rows) → new ≡ inodes_of (take (i + 1) rows)
one_more rows i row now new inside is e h =
    e ∙ ap (λ (ns : List ℕ). ns ++ row.inode ∷ []) h
    ∙ sym (ap inodes_of (take_more rows i row inside ∙ ap (λ (x : Row). take i rows ++ x ∷ []) (get_or_from_slice_get rows i row row is)) ∙ map-append (λ (x : Row). x.inode) (take i rows) (row ∷ []))

pub returns-in_err-numbers : goal.returns-in_err-numbers
returns-in_err-numbers c = if_ok_err c.from_residual.result _ c.from_residual.ensures.0

pub loop-place-init : goal.loop-place-init
loop-place-init c = c.in_ok-numbers.ensures.items

pub overflow_cast-head : goal.overflow_cast-head
overflow_cast-head c =
    let rows = c.args.rows.now.items in
    let place = c.loop-place.place in
    let row = row_of_head rows place c.head.result c.head.ensures in
    let inside : place < length rows = omega arith in
    let fits : row.0.inode < 2 ^ 32 = subst (λ (x : Row). x.inode < 2 ^ 32) (get_or_from_slice_get rows place row.0 row.0 row.1) (c.requires place row.0 inside) in
    omega (arith, fits, ap (λ (head : RowHead). head.inode) row.2)

pub loop-place-preserved : goal.loop-place-preserved
loop-place-preserved c =
    let row = row_of_head c.args.rows.now.items c.loop-place.place c.head.result c.head.ensures in
    one_more c.args.rows.now.items c.loop-place.place row.0 c.loop-place.numbers.items c.push.new.self.items (omega arith) row.1 (c.in_ok-push.ensures.items ∙ ap (λ (head : RowHead). c.loop-place.numbers.items ++ head.inode ∷ []) row.2) c.loop-place.invariant

pub returns-in_err-push : goal.returns-in_err-push
returns-in_err-push c = if_ok_err c.from_residual-in_err-push.result _ c.from_residual-in_err-push.ensures.0

pub returns : goal.returns
returns c = c.loop-place.invariant ∙ ap inodes_of (take_all c.loop-place.place c.args.rows.now.items (omega arith))
