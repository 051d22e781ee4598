use Rattle.std.proofs.Common.{◌≡◌, ◌∙◌, ◌⊎◌, ◌∷◌, [], inr, false, Some, ap, is_none}
use Rattle.std.proofs.lemmas.Result.{err_from_is_err_and}
use Rattle.nv_super.proofs.Members.{stands}
use Rattle.nv_tree.specs.declared.refusal.Refusal.{Refusal}
use Rattle.nv_tree.specs.declared.refusal.Refusal.TheVariants.{Memory, NotFound}
use Rattle.nv_tree.specs.Refusals.{first_refusal}
use Rattle.nv_tree.proofs.Replies.{refused_by}
use Rattle.nv_rows.specs.Rows.{place_in}
use Rattle.nv_rows.proofs.Places.{at_place, numbered}
use Rattle.nv_paths.specs.Seen.{tree_of}
use Rattle.nv_calls.specs.CleanCall.{clean_inode_tests}
use Rattle.nv_calls.specs.Mount.{Mount}
use Rattle.nv_calls.specs.World.{world_of}
use Rattle.nv_calls.proofs.CleanedRow.{has_blocks, right_log}
use Rattle.nv_calls.proofs.DeadPages.{dead_here, dead_told}
use Rattle.nv_calls.proofs.OneRow.{stands_right}
use Rattle.nv_calls.proofs.fs.Fs.dead_pages.Goals as goal

pub returns-in_err-cleanable-clause-refused : goal.returns-in_err-cleanable-clause-refused
returns-in_err-cleanable-clause-refused g c runs =
    let tree = tree_of (g.P.Pmem.region c.args.self.now.memory) c.args.self.now.rows in
    let w = err_from_is_err_and c.from_residual.result c.from_residual.ensures.1 in
    refused_by c.from_residual.result c.in_err-cleanable.field-0.0 w.0 (λ (e : Refusal). (e ≡ Memory) ⊎ (first_refusal (clean_inode_tests (world_of c.args.self.now) tree c.args.inode) ≡ Some e)) w.1 w.2
    (inr (c.in_err-cleanable.ensures.refused runs ((is_none (tree c.args.inode), NotFound) ∷ [])))

pub dead_pages_of-requires-clause-number : goal.dead_pages_of-requires-clause-number
dead_pages_of-requires-clause-number g c =
    let runs : c.self.inside.stopped ≡ false = ap (λ (m : Mount g.row.P.Denot). m.stopped) c.self.view_is ∙ c.in_ok-cleanable.ensures.runs in
    let writes : c.self.inside.read_only ≡ false = ap (λ (m : Mount g.row.P.Denot). m.read_only) c.self.view_is ∙ c.in_ok-cleanable.ensures.writes in
    let rows = c.self.inside.rows.items in
    let there = stands rows (place_in rows c.args.inode) c.row-row.result.now (at_place rows c.args.inode ∙ c.row-row.ensures) in
    let right = stands_right c.self.invariant.0 runs writes c.row-row.result.now there in
    right.number

pub dead_pages_of-requires-clause-blocks : goal.dead_pages_of-requires-clause-blocks
dead_pages_of-requires-clause-blocks g c =
    let runs : c.self.inside.stopped ≡ false = ap (λ (m : Mount g.row.P.Denot). m.stopped) c.self.view_is ∙ c.in_ok-cleanable.ensures.runs in
    let writes : c.self.inside.read_only ≡ false = ap (λ (m : Mount g.row.P.Denot). m.read_only) c.self.view_is ∙ c.in_ok-cleanable.ensures.writes in
    has_blocks c.self.invariant.0 runs writes c.len-end.ensures.short

pub dead_pages_of-requires-clause-right : goal.dead_pages_of-requires-clause-right
dead_pages_of-requires-clause-right g c =
    let runs : c.self.inside.stopped ≡ false = ap (λ (m : Mount g.row.P.Denot). m.stopped) c.self.view_is ∙ c.in_ok-cleanable.ensures.runs in
    let writes : c.self.inside.read_only ≡ false = ap (λ (m : Mount g.row.P.Denot). m.read_only) c.self.view_is ∙ c.in_ok-cleanable.ensures.writes in
    let rows = c.self.inside.rows.items in
    let there = stands rows (place_in rows c.args.inode) c.row-row.result.now (at_place rows c.args.inode ∙ c.row-row.ensures) in
    right_log c.self.invariant.0 runs writes c.row-row.result.now there

pub returns-in-Ok-clause-dead : goal.returns-in-Ok-clause-dead
returns-in-Ok-clause-dead g c =
    let runs : c.self.inside.stopped ≡ false = ap (λ (m : Mount g.row.P.Denot). m.stopped) c.self.view_is ∙ c.in_ok-cleanable.ensures.runs in
    let rows = c.self.inside.rows.items in
    let there = stands rows (place_in rows c.args.inode) c.row-row.result.now (at_place rows c.args.inode ∙ c.row-row.ensures) in
    dead_here g.P.Pmem.region c.self.view_is c.in-Ok.found (numbered rows c.args.inode c.row-row.result.now c.row-row.ensures)
    (dead_told c.self.invariant.0 runs c.row-row.result.now there c.in-Ok.found (λ held h shows. c.in-Ok.ensures held h _ shows))
